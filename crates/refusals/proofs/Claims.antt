-- The claims of specs/Claims.antt. Assumes nothing.
use mathlib.Core.Path.{◌≡◌, refl, sym, ap, ◌∙◌}
use mathlib.Core.Bool.{Bool, true, false, cond}
use mathlib.Core.List.{List, [], ◌∷◌}
use Prim.Native.Nat.{ℕ}
use Rattle.std.proofs.Common.{Option, Some, None, Result}
use lib.Dec.{eqb}
use borrow.Author.Tests.{eq-eqb, eqb-false}
use Rattle.refusals.specs.declared.Refusal.{Refusal}
use Rattle.refusals.specs.declared.Refusal.TheVariants.{Broken, NoThresholds, TooManyThresholds, XyAboveTotal, YxAboveXy, CeilingOutside, TooLong, OverLimit, Ragged, TooManyReads, PartOutside, BelowLength, OutputTooShort, NoMi, NoStrand}
use Rattle.refusals.specs.Refusal.{Fault, order, number_of, code, of_code, sorted, first, refused, number_or_0}
use Rattle.refusals.specs.Outcome.{answer, refused_if}
use Rattle.refusals.specs.Claims.{EachOnce, Clear, NoneLost, NoneLostByNumber, then, chain, InOrder, ListedInOrder, NothingWritten, AllWritten}
use Rattle.refusals.proofs.InOrder.{numbered_from_1, passed}

pub each_once : EachOnce
each_once Broken = refl
each_once NoThresholds = refl
each_once TooManyThresholds = refl
each_once XyAboveTotal = refl
each_once YxAboveXy = refl
each_once CeilingOutside = refl
each_once TooLong = refl
each_once OverLimit = refl
each_once Ragged = refl
each_once TooManyReads = refl
each_once PartOutside = refl
each_once BelowLength = refl
each_once OutputTooShort = refl
each_once NoMi = refl
each_once NoStrand = refl

-- The faults of a row among later ones, where those of all are clear.
without : (n : ℕ) (f : Fault) (fs : List Fault) → Clear (of_code n (f ∷ fs)) → Clear (of_code n fs)
without n f fs c = go (eqb (code f.row) n) c
  where
    go : (b : Bool) → Clear (cond b (f ∷ of_code n fs) (of_code n fs)) → Clear (of_code n fs)
    go true c = c.1
    go false c = c

all_clear : (fs : List Fault) → ((row : Refusal) → Clear (of_code (code row) fs)) → Clear fs
all_clear [] each = tt
all_clear (f ∷ fs) each = (here, all_clear fs (λ row. without (code row) f fs (each row)))
  where
    own : eqb (code f.row) (code f.row) ≡ true
    own = eq-eqb (code f.row) (code f.row) refl

    here : f.met ≡ false
    here = (rw own at (each f.row)).0

pub none_lost : NoneLost
none_lost fs e = all_clear fs (λ row. passed row fs e)

-- No refusal has the number 0.
pub no_number : (refusal : Option Refusal) → number_or_0 refusal ≡ 0 → refusal ≡ None
no_number None e = refl
no_number (Some row) e = absurd (eqb-false (number_of row) 0 (numbered_from_1 row) e)

pub none_lost_by_number : NoneLostByNumber
none_lost_by_number fs e = none_lost fs (no_number (refused fs) e)

test_first :
    (met : Bool) (row : Refusal) (rest : Result (Unit {0}) Refusal) (later : Option Refusal)
    → rest ≡ answer later tt
    → then (refused_if met row) rest ≡ answer (cond met (Some row) later) tt
test_first true row rest later e = refl
test_first false row rest later e = e

chain_first : (fs : List Fault) → chain fs ≡ answer (first fs) tt
chain_first [] = refl
chain_first (f ∷ fs) = test_first f.met f.row (chain fs) (first fs) (chain_first fs)

pub in_order : InOrder
in_order fs = chain_first (sorted order fs)

pub listed_in_order : ListedInOrder
listed_in_order fs e = sym (ap chain e) ∙ in_order fs

pub nothing_written : {A : Type 0} → NothingWritten A
nothing_written = record { answer_refused = λ row x. refl; after_refused = λ row xs out. refl }

pub all_written : {A : Type 0} → AllWritten A
all_written = record { answer_passed = λ x. refl; after_passed = λ xs out. refl }
