-- The seven conditions, in their order and against each other.
--     first_that_holds, only_one_fits     the claims about them
--     exclusive                           at most one of two strands carries a call
-- Assumes nothing.
use mathlib.Core.Path.{◌≡◌, refl, sym, ap, ◌∙◌}
use mathlib.Core.Bool.{Bool, true, false, cond, not, ◌&&◌, ◌||◌, true≢false}
use mathlib.Core.List.{List, [], ◌∷◌, ◌++◌}
use Prim.Native.Nat.{ℕ}
use native.Mathlib.Omega.{arith}
use lib.Dec.{eqb}
use borrow.Author.Tests.{eqb-true}
use Rattle.lists.specs.Every.{every}
use Rattle.refusals.proofs.Condition.{both_hold}
use Rattle.methylation.specs.declared.ConversionPattern.TheVariants.{CToT, GToA}
use Rattle.duplex_molecule.specs.Molecule.{call_at, is_call_of, same_pattern}
use Rattle.duplex_molecule.specs.declared.CtInput.TheVariants.{IsA}
use Rattle.duplex_molecule.specs.declared.MoleculeCall.{MoleculeCall}
use Rattle.duplex_call.proofs.Calls.{c_test, g_test, c_to_t, g_to_a}
use Rattle.duplex_reason.specs.Reason.{is_n, called_by, carries, is_called, others_alone, disagree, difference, holds, reasons, first_of, reason_at, is_reason}
use Rattle.duplex_reason.specs.declared.NoCallReason.{NoCallReason}
use Rattle.duplex_reason.specs.declared.NoCallReason.TheVariants.{Outside, SingleStrand, Called, ANoCall, BNoCall, BothNoCall, EqualQualities, CloseQualities, LowSum, LowConfirming}
use Rattle.duplex_reason.specs.declared.Shown.{Shown}
use Rattle.reason_claims.specs.Reasons.{FirstThatHolds, by_n, OnlyOneFits}
use Rattle.std.proofs.Common.{None, Some, Option}
use Rattle.methylation.specs.declared.ConversionPattern.{ConversionPattern}

off : (p : Bool) → not p ≡ true → p ≡ false
off true h = sym h
off false h = refl

module _ (a b : Shown) where
  abbrev none : List NoCallReason → Bool
  none xs = every (λ r. not (holds r a b)) xs

  first_in : (earlier later : List NoCallReason) (reason : NoCallReason) → none earlier ≡ true → holds reason a b ≡ true → first_of (earlier ++ reason ∷ later) a b ≡ reason
  unfolding every
  first_in [] later reason e h = rw h
  first_in (x ∷ xs) later reason e h =
      let (x_off, others) = both_hold (not (holds x a b)) _ e in
      rw (off (holds x a b) x_off) (first_in xs later reason others h)

  none_called : (xs : List NoCallReason) → none xs ≡ true → first_of xs a b ≡ Called
  unfolding every
  none_called [] e = refl
  none_called (x ∷ xs) e =
      let (x_off, others) = both_hold (not (holds x a b)) _ e in
      rw (off (holds x a b) x_off) (none_called xs others)

  called_none : (xs : List NoCallReason) → every is_reason xs ≡ true → first_of xs a b ≡ Called → none xs ≡ true
  unfolding every
  called_none [] all e = refl
  called_none (x ∷ xs) all e = go (holds x a b) refl (λ f. called_none xs (both_hold (is_reason x) _ all).1 f)
    where
      go : (t : Bool) → holds x a b ≡ t → (first_of xs a b ≡ Called → none xs ≡ true) → (not (holds x a b) && none xs) ≡ true
      go true h rest =
          let is_called_is : x ≡ Called = rw h at e in
          absurd (true≢false (sym (both_hold (is_reason x) _ all).0 ∙ ap is_reason is_called_is))
      go false h rest = rw h (rest (rw h at e))

  held : (xs : List NoCallReason) → is_reason (first_of xs a b) ≡ true → holds (first_of xs a b) a b ≡ true
  held [] h = absurd (true≢false (sym h))
  held (x ∷ xs) h = go (holds x a b) refl (λ k. held xs k)
    where
      go : (t : Bool) → holds x a b ≡ t → (is_reason (first_of xs a b) ≡ true → holds (first_of xs a b) a b ≡ true) → holds (cond (holds x a b) x (first_of xs a b)) a b ≡ true
      go true e rest = rw e e
      go false e rest = rw e (rest (rw e at h))

  -- An answer that is no reason is "called".
  no_reason : (xs : List NoCallReason) → every is_reason xs ≡ true → is_reason (first_of xs a b) ≡ false → first_of xs a b ≡ Called
  unfolding every
  no_reason [] all h = refl
  no_reason (x ∷ xs) all h = go (holds x a b) refl (λ k. no_reason xs (both_hold (is_reason x) _ all).1 k)
    where
      go : (t : Bool) → holds x a b ≡ t → (is_reason (first_of xs a b) ≡ false → first_of xs a b ≡ Called) → cond (holds x a b) x (first_of xs a b) ≡ Called
      go true e rest = absurd (true≢false (sym (both_hold (is_reason x) _ all).0 ∙ rw e at h))
      go false e rest = rw e (rest (rw e at h))

pub only_reasons : (a b : Shown) → is_reason (reason_at a b) ≡ false → reason_at a b ≡ Called
unfolding reason_at every
only_reasons a b h = no_reason a b reasons refl h

pub first_that_holds : FirstThatHolds
unfolding reason_at every
first_that_holds = record {
  first = λ a b earlier later reason e none h. ap (λ (l : List NoCallReason). first_of l a b) e ∙ first_in a b earlier later reason none h;
  called = λ a b. (λ e. called_none a b reasons refl e, λ e. none_called a b reasons e);
}

-- Qualities that differ by 1 or 2 are not equal.
apart : (p q : ℕ) → (eqb (difference p q) 1 || eqb (difference p q) 2) ≡ true → eqb p q ≡ false
apart p q h = go (eqb p q) refl
  where
    go : (t : Bool) → eqb p q ≡ t → t ≡ false
    go true e =
        let same : p ≡ q = eqb-true p q e in
        let zero : difference p q ≡ 0 = omega arith in
        absurd (true≢false (sym (rw zero at h)))
    go false e = refl

-- The one N reason, and the one of the others, that can hold.
abbrev the_n : Bool → Bool → NoCallReason
the_n p q = cond p (cond q BothNoCall ANoCall) BNoCall

abbrev the_other : Bool → Bool → Bool → NoCallReason
the_other d e alone = cond d (cond e EqualQualities CloseQualities) (cond alone LowConfirming LowSum)

is_a_lem : (p q : Bool) → (p && not q) ≡ true → ANoCall ≡ the_n p q
is_a_lem true true h = absurd (true≢false (sym h))
is_a_lem true false h = refl
is_a_lem false q h = absurd (true≢false (sym h))

is_b : (p q : Bool) → (q && not p) ≡ true → BNoCall ≡ the_n p q
is_b true true h = absurd (true≢false (sym h))
is_b true false h = absurd (true≢false (sym h))
is_b false q h = refl

is_both : (p q : Bool) → (p && q) ≡ true → BothNoCall ≡ the_n p q
is_both true true h = refl
is_both true false h = absurd (true≢false (sym h))
is_both false q h = absurd (true≢false (sym h))

is_sum : (e c alone low : Bool) → (((e || c) && not alone) && low) ≡ true → (not c && not e ≡ false) × (alone ≡ false)
is_sum e c alone low h =
    let (counts, _) = both_hold ((e || c) && not alone) low h in
    let (some, not_alone) = both_hold (e || c) (not alone) counts in
    (go e c some, off alone not_alone)
  where
    go : (e c : Bool) → (e || c) ≡ true → (not c && not e) ≡ false
    go true true h = refl
    go true false h = refl
    go false true h = refl
    go false false h = absurd (true≢false (sym h))

is_alone : (x y l m : Bool) → ((x && l) || (y && m)) ≡ true → (x || y) ≡ true
is_alone true y l m h = refl
is_alone false true l m h = refl
is_alone false false l m h = absurd (true≢false (sym h))

-- Where a quality counts alone there is a call, and so no disagreement.
called_if : (c d x y : Bool) → ((c && x) || (d && y)) ≡ true → (c || d) ≡ true
called_if c d x y h = is_alone c d x y h

no_disagreement : (c e : Bool) → c ≡ true → (not c && not e) ≡ false
no_disagreement c e h = rw h

module _ (a b : Shown) where
  abbrev alone : Bool
  alone = others_alone a b || others_alone b a

  abbrev only : NoCallReason
  only = the_other (disagree a b) (eqb a.qual b.qual) alone

  only_n : (x : NoCallReason) → by_n x ≡ true → holds x a b ≡ true → x ≡ the_n (is_n a) (is_n b)
  unfolding holds
  only_n ANoCall e h = is_a_lem (is_n a) (is_n b) h
  only_n BNoCall e h = is_b (is_n a) (is_n b) h
  only_n BothNoCall e h = is_both (is_n a) (is_n b) h
  only_n EqualQualities e h = absurd (true≢false (sym e))
  only_n CloseQualities e h = absurd (true≢false (sym e))
  only_n LowSum e h = absurd (true≢false (sym e))
  only_n LowConfirming e h = absurd (true≢false (sym e))
  only_n Outside e h = absurd (true≢false (sym e))
  only_n SingleStrand e h = absurd (true≢false (sym e))
  only_n Called e h = absurd (true≢false (sym e))

  only_other : (x : NoCallReason) → by_n x ≡ false → holds x a b ≡ true → x ≡ only
  unfolding holds
  only_other ANoCall e h = absurd (true≢false e)
  only_other BNoCall e h = absurd (true≢false e)
  only_other BothNoCall e h = absurd (true≢false e)
  only_other EqualQualities e h =
      let (differ, same) = both_hold (disagree a b) _ h in
      rw (differ, same)
  only_other CloseQualities e h =
      let (differ, close) = both_hold (disagree a b) _ h in
      rw (differ, apart a.qual b.qual close)
  only_other LowSum e h =
      let (agree, together) = is_sum (eqb a.base b.base) (is_called a b) alone _ h in
      rw (agree, together)
  only_other LowConfirming e h =
      let counts : alone ≡ true = is_alone (others_alone a b) (others_alone b a) _ _ h in
      let called : is_called a b ≡ true = called_if (carries a b) (carries b a) _ _ counts in
      rw (no_disagreement (is_called a b) (eqb a.base b.base) called, counts)
  only_other Outside e h = absurd (true≢false (sym h))
  only_other SingleStrand e h = absurd (true≢false (sym h))
  only_other Called e h = absurd (true≢false (sym h))

  one_fits : (x y : NoCallReason) → by_n x ≡ by_n y → holds x a b ≡ true → holds y a b ≡ true → x ≡ y
  one_fits x y e h k = go (by_n x) refl
    where
      go : (t : Bool) → by_n x ≡ t → x ≡ y
      go true t = only_n x t h ∙ sym (only_n y (sym e ∙ t) k)
      go false t = only_other x t h ∙ sym (only_other y (sym e ∙ t) k)

-- The N reasons come first.
abbrev by_n_first : Bool → Bool → NoCallReason → NoCallReason
by_n_first p q other = cond (p && not q) ANoCall (cond (q && not p) BNoCall (cond (p && q) BothNoCall other))

says_a : (p q : Bool) (other : NoCallReason) → (p && not q) ≡ true → by_n_first p q other ≡ ANoCall
says_a p q other h = rw h

says_b : (p q : Bool) (other : NoCallReason) → (q && not p) ≡ true → by_n_first p q other ≡ BNoCall
says_b true true other h = absurd (true≢false (sym h))
says_b true false other h = absurd (true≢false (sym h))
says_b false q other h = rw h

says_both : (p q : Bool) (other : NoCallReason) → (p && q) ≡ true → by_n_first p q other ≡ BothNoCall
says_both true true other h = refl
says_both true false other h = absurd (true≢false (sym h))
says_both false q other h = absurd (true≢false (sym h))

n_answer : (a b : Shown) (x : NoCallReason) → by_n x ≡ true → holds x a b ≡ true → reason_at a b ≡ x
unfolding reason_at holds
n_answer a b ANoCall e h = says_a (is_n a) (is_n b) _ h
n_answer a b BNoCall e h = says_b (is_n a) (is_n b) _ h
n_answer a b BothNoCall e h = says_both (is_n a) (is_n b) _ h
n_answer a b EqualQualities e h = absurd (true≢false (sym e))
n_answer a b CloseQualities e h = absurd (true≢false (sym e))
n_answer a b LowSum e h = absurd (true≢false (sym e))
n_answer a b LowConfirming e h = absurd (true≢false (sym e))
n_answer a b Outside e h = absurd (true≢false (sym e))
n_answer a b SingleStrand e h = absurd (true≢false (sym e))
n_answer a b Called e h = absurd (true≢false (sym e))

pub only_one_fits : OnlyOneFits
unfolding reason_at
only_one_fits = record { holds_true = λ a b h. held a b reasons h; one = one_fits; n_first = n_answer }

-- One call is not of both patterns.
of_one : (x : Option MoleculeCall) → is_call_of (Some CToT) x ≡ true → is_call_of (Some GToA) x ≡ false
unfolding is_call_of
of_one None h = refl
of_one (Some call) h = go call.pattern h
  where
    go : (p : ConversionPattern) → same_pattern CToT p ≡ true → same_pattern GToA p ≡ false
    go CToT h = refl
    go GToA h = absurd (true≢false (sym h))

-- The two tests of a call never both hold.
pub one_test : (ct ga : ℕ) → c_test ct ga ≡ true → g_test ct ga ≡ false
one_test ct ga h = g_to_a IsA ct ga ∙ of_one (call_at IsA ct ga) (sym (c_to_t IsA ct ga) ∙ h)

pub exclusive : (p q : Option ConversionPattern) (base other : ℕ) → called_by p q base other ≡ true → called_by q p other base ≡ false
unfolding called_by
exclusive None q base other h = absurd (true≢false (sym h))
exclusive (Some p) None base other h = absurd (true≢false (sym h))
exclusive (Some CToT) (Some CToT) base other h = refl
exclusive (Some CToT) (Some GToA) base other h = one_test base other h
exclusive (Some GToA) (Some CToT) base other h = go (c_test other base) refl
  where
    go : (t : Bool) → c_test other base ≡ t → t ≡ false
    go true e = absurd (true≢false (sym h ∙ one_test other base e))
    go false e = refl
exclusive (Some GToA) (Some GToA) base other h = refl
