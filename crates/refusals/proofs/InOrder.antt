-- The faults of a call by the table's order: what no refusal says of them.
--     and_then     the refusal of a call that tests another's faults before its own
--     passed       where a call is not refused, the conditions of one row are not met
-- None depends on where a row stands among the others.
-- Assumes nothing.
use mathlib.Core.Path.{◌≡◌, refl}
use mathlib.Core.Bool.{Bool, true, false, cond, ◌||◌}
use mathlib.Core.List.{List, [], ◌∷◌, ◌++◌}
use Prim.Native.Nat.{ℕ}
use native.Mathlib.Omega.{arith}
use lib.Dec.{T, eqb}
use borrow.Author.Tests.{eqb-true}
use Rattle.std.proofs.Common.{Option, Some, None}
use Rattle.refusals.specs.declared.Refusal.{Refusal}
use Rattle.refusals.specs.declared.Refusal.TheVariants.{Broken, NoThresholds, TooManyThresholds, XyAboveTotal, YxAboveXy, CeilingOutside, TooLong, OverLimit, Ragged, TooManyReads, PartOutside, BelowLength, OutputTooShort, NoMi, NoStrand}
use Rattle.refusals.specs.Refusal.{Fault, order, code, of_code, of_row, sorted, first, refused}
use Rattle.refusals.specs.Outcome.{or_later}
use Rattle.refusals.specs.Claims.{NumberedFrom1, Clear}

pub numbered_from_1 : NumberedFrom1
numbered_from_1 Broken = refl
numbered_from_1 NoThresholds = refl
numbered_from_1 TooManyThresholds = refl
numbered_from_1 XyAboveTotal = refl
numbered_from_1 YxAboveXy = refl
numbered_from_1 CeilingOutside = refl
numbered_from_1 TooLong = refl
numbered_from_1 OverLimit = refl
numbered_from_1 Ragged = refl
numbered_from_1 TooManyReads = refl
numbered_from_1 PartOutside = refl
numbered_from_1 BelowLength = refl
numbered_from_1 OutputTooShort = refl
numbered_from_1 NoMi = refl
numbered_from_1 NoStrand = refl

-- A row is one of some rows.
abbrev among : ℕ → List Refusal → Bool
among n [] = false
among n (r ∷ rows) = eqb n (code r) || among n rows

in_the_order : (row : Refusal) → T (among (code row) order)
in_the_order Broken = tt
in_the_order NoThresholds = tt
in_the_order TooManyThresholds = tt
in_the_order XyAboveTotal = tt
in_the_order YxAboveXy = tt
in_the_order CeilingOutside = tt
in_the_order TooLong = tt
in_the_order OverLimit = tt
in_the_order Ragged = tt
in_the_order TooManyReads = tt
in_the_order PartOutside = tt
in_the_order BelowLength = tt
in_the_order OutputTooShort = tt
in_the_order NoMi = tt
in_the_order NoStrand = tt

clear_here : (met : Bool) (row : Refusal) (rest : Option Refusal) → cond met (Some row) rest ≡ None → (met ≡ false) × (rest ≡ None)
clear_here true row rest e = let z : ◌≡◌ {A = ℕ} 0 1 = cc in absurd (omega arith)
clear_here false row rest e = (refl, e)

first_clear : (fs : List Fault) → first fs ≡ None → Clear fs
first_clear [] e = tt
first_clear (f ∷ fs) e =
    let (not_met, rest) = clear_here f.met f.row (first fs) e in
    (not_met, first_clear fs rest)

first_append : (fs gs : List Fault) → first (fs ++ gs) ≡ or_later (first fs) (first gs)
first_append [] gs = refl
first_append (f ∷ fs) gs = go f.met (first_append fs gs)
  where
    go : (met : Bool) → first (fs ++ gs) ≡ or_later (first fs) (first gs) → cond met (Some f.row) (first (fs ++ gs)) ≡ or_later (cond met (Some f.row) (first fs)) (first gs)
    go true rest = refl
    go false rest = rest

-- The refusal of a call that tests the faults of another, fs, before its own, gs. That all rows of gs are later in the order is
-- `refl` at written-out rows.
pub and_then :
    (fs gs : List Fault)
    → sorted order (fs ++ gs) ≡ sorted order fs ++ sorted order gs
    → refused (fs ++ gs) ≡ or_later (refused fs) (refused gs)
and_then fs gs later = rw later (first_append (sorted order fs) (sorted order gs))

clear_append : (fs gs : List Fault) → Clear (fs ++ gs) → Clear fs × Clear gs
clear_append [] gs c = (tt, c)
clear_append (f ∷ fs) gs c =
    let (here, later) = clear_append fs gs c.1 in
    ((c.0, here), later)

row_clear : (n : ℕ) (rows : List Refusal) (fs : List Fault) → T (among n rows) → Clear (sorted rows fs) → Clear (of_code n fs)
row_clear n [] fs t c = absurd t
row_clear n (r ∷ rows) fs t c =
    let (here, later) = clear_append (of_row r fs) (sorted rows fs) c in
    go (eqb n (code r)) refl t here (λ u. row_clear n rows fs u later)
  where
    go : (b : Bool) → eqb n (code r) ≡ b → T (b || among n rows) → Clear (of_row r fs) → (T (among n rows) → Clear (of_code n fs)) → Clear (of_code n fs)
    go true e t here later = rw (eqb-true n (code r) e) here
    go false e t here later = later t

pub passed : (row : Refusal) (fs : List Fault) → refused fs ≡ None → Clear (of_row row fs)
passed row fs e = row_clear (code row) order fs (in_the_order row) (first_clear (sorted order fs) e)
