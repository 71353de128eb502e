-- The base of a position by the quality before it is held, which is low exactly where a reason by quality holds.
--     shows_n         at a ceiling of 3 or more a position shows N exactly where its answer is one of the seven reasons
-- Assumes nothing.
use mathlib.Core.Path.{◌≡◌, refl, sym, ap, ◌∙◌}
use mathlib.Core.Bool.{Bool, true, false, cond, not, ◌&&◌, ◌||◌, true≢false, or-true, or-false}
use Prim.Native.Nat.{ℕ, ◌+◌, ◌≤◌, min, max}
use native.Mathlib.Omega.{arith}
use lib.Dec.{eqb, leb, ltb}
use borrow.Author.Tests.{eqb-true, eqb-false, eq-eqb, ne_eqb, leb-true, leb-false, le-leb, lt-leb}
use Rattle.dna.specs.Dna.{letter_c, letter_g, letter_n, letter_t, letter_a, same_letter}
use Rattle.phred.specs.Phred.{capped_quality}
use Rattle.methylation.specs.declared.ConversionPattern.TheVariants.{CToT, GToA}
use Rattle.duplex_molecule.specs.Molecule.{call_as, molecule_call, ct_input, call_at}
use Rattle.duplex_molecule.specs.declared.CtInput.TheVariants.{IsA, IsB}
use Rattle.duplex_position.specs.Combination.{agreed, disagreed, masked, unmasked, uncalled, called}
use Rattle.duplex_position.specs.declared.Position.{Position}
use Rattle.duplex_call.specs.Annotated.{by_call, combined}
use Rattle.duplex_call.proofs.Calls.{c_test, g_test}
use Rattle.duplex_reason.specs.Reason.{is_n, called_by, carries, is_called, converted_by, others_alone, disagree, difference, sum_counts, holds, quality_reasons, first_of, reason_at, is_reason}
use Rattle.duplex_reason.specs.declared.NoCallReason.{NoCallReason}
use Rattle.duplex_reason.specs.declared.NoCallReason.TheVariants.{Called, ANoCall, BNoCall, BothNoCall, EqualQualities, CloseQualities, LowSum, LowConfirming}
use Rattle.duplex_reason.specs.declared.Shown.{Shown}
use Rattle.reason_claims.proofs.Conditions.{one_test, exclusive}
use Rattle.std.proofs.Common.{None, Some, Option}
use Rattle.methylation.specs.declared.ConversionPattern.{ConversionPattern}

-- The quality before it is held: of strands that disagree the difference, else the one that counts alone, or the sum.
abbrev weighed : Bool → Bool → Bool → ℕ → ℕ → ℕ
weighed d x y qa qb = cond d (difference qa qb) (cond x qb (cond y qa (qa + qb)))

abbrev raw_quality : Shown → Shown → ℕ
raw_quality a b = weighed (disagree a b) (others_alone a b) (others_alone b a) a.qual b.qual

-- A quality is held to 2 exactly where it is at most 2: no ceiling is as low.
held_low : (ceiling x : ℕ) → 3 ≤ ceiling → eqb (capped_quality ceiling x) 2 ≡ leb x 2
unfolding capped_quality
held_low ceiling x least = go (leb x 2) refl
  where
    go : (t : Bool) → leb x 2 ≡ t → eqb (max 2 (min x ceiling)) 2 ≡ t
    go true e =
        let low = leb-true x 2 e in
        eq-eqb (max 2 (min x ceiling)) 2 (omega arith)
    go false e =
        let high = leb-false x 2 e in
        ne_eqb (max 2 (min x ceiling)) 2 (omega (arith, least))

-- Qualities are equal or differ by 1 or 2 exactly where their difference is at most 2.
near : (p q : ℕ) → (eqb p q || (eqb (difference p q) 1 || eqb (difference p q) 2)) ≡ leb (difference p q) 2
near p q = go (eqb p q) (eqb (difference p q) 1) (eqb (difference p q) 2) refl refl refl
  where
    go : (x y z : Bool) → eqb p q ≡ x → eqb (difference p q) 1 ≡ y → eqb (difference p q) 2 ≡ z → (x || (y || z)) ≡ leb (difference p q) 2
    go true y z e f g =
        let same = eqb-true p q e in
        sym (le-leb (difference p q) 2 (omega arith))
    go false true z e f g =
        let same = eqb-true (difference p q) 1 f in
        sym (le-leb (difference p q) 2 (omega arith))
    go false false true e f g =
        let same = eqb-true (difference p q) 2 g in
        sym (le-leb (difference p q) 2 (omega arith))
    go false false false e f g =
        let x = eqb-false p q e in
        let y = eqb-false (difference p q) 1 f in
        let z = eqb-false (difference p q) 2 g in
        sym (lt-leb (difference p q) 2 (omega arith))

-- Of four tests in their order one is met.
some_reason : (p q r s : Bool) → is_reason (cond p EqualQualities (cond q CloseQualities (cond r LowSum (cond s LowConfirming Called)))) ≡ (p || (q || (r || s)))
some_reason true q r s = refl
some_reason false true r s = refl
some_reason false false true s = refl
some_reason false false false true = refl
some_reason false false false false = refl

n_first : (p q : Bool) (other : NoCallReason) → is_reason (cond (p && not q) ANoCall (cond (q && not p) BNoCall (cond (p && q) BothNoCall other))) ≡ (p || (q || is_reason other))
n_first true true other = refl
n_first true false other = refl
n_first false true other = refl
n_first false false other = refl

-- Where the strands disagree nothing is added and nothing counts alone.
disagreeing :
    (c c' same x x' l m s : Bool)
    → (not (c || c') && not same) ≡ true
    → ((((same || (c || c')) && not ((c && x) || (c' && x'))) && s) || (((c && x) && l) || ((c' && x') && m))) ≡ false
disagreeing true c' same x x' l m s h = absurd (true≢false (sym h))
disagreeing false true same x x' l m s h = absurd (true≢false (sym h))
disagreeing false false true x x' l m s h = absurd (true≢false (sym h))
disagreeing false false false x x' l m s h = refl

-- Where they do not, the sum counts unless a quality counts alone.
chosen : (x y l m s : Bool) → (x ≡ true → y ≡ false) → ((not (x || y) && s) || ((x && l) || (y && m))) ≡ cond x l (cond y m s)
chosen true true l m s apart = absurd (true≢false (apart refl))
chosen true false l m s apart = or-false l
chosen false true l m s apart = refl
chosen false false l m s apart = or-false s

agreeing :
    (c same x y l m s : Bool)
    → (not c && not same) ≡ false
    → (x ≡ true → y ≡ false)
    → ((((same || c) && not (x || y)) && s) || ((x && l) || (y && m))) ≡ cond x l (cond y m s)
agreeing true true x y l m s h apart = chosen x y l m s apart
agreeing true false x y l m s h apart = chosen x y l m s apart
agreeing false true x y l m s h apart = chosen x y l m s apart
agreeing false false x y l m s h apart = absurd (true≢false h)

-- A test of the number that is chosen.
test_chosen : (x y : Bool) (p q r : ℕ) → leb (cond x p (cond y q r)) 2 ≡ cond x (leb p 2) (cond y (leb q 2) (leb r 2))
test_chosen true y p q r = refl
test_chosen false true p q r = refl
test_chosen false false p q r = refl

-- Both strands' qualities do not count alone.
alone_once : (c c' x x' : Bool) → (c ≡ true → c' ≡ false) → (c && x) ≡ true → (c' && x') ≡ false
alone_once true c' x x' apart h = rw (apart refl)
alone_once false c' x x' apart h = absurd (true≢false (sym h))

module _ (a b : Shown) where
  abbrev marked : Shown → Bool
  marked s = converted_by s.annotation s.base && eqb s.mark 0

  -- The reasons by quality.
  low : is_reason (first_of quality_reasons a b) ≡ leb (raw_quality a b) 2
  unfolding holds
  low =
      some_reason (holds EqualQualities a b) (holds CloseQualities a b) (holds LowSum a b) (holds LowConfirming a b)
      ∙ go (disagree a b) refl
    where
      others : Bool
      others = (sum_counts a b && leb (a.qual + b.qual) 2) || ((others_alone a b && leb b.qual 2) || (others_alone b a && leb a.qual 2))

      go :
          (d : Bool)
          → disagree a b ≡ d
          → ((d && eqb a.qual b.qual) || ((d && (eqb (difference a.qual b.qual) 1 || eqb (difference a.qual b.qual) 2)) || others))
          ≡ leb (weighed d (others_alone a b) (others_alone b a) a.qual b.qual) 2
      go true e =
          ap (λ (t : Bool). eqb a.qual b.qual || ((eqb (difference a.qual b.qual) 1 || eqb (difference a.qual b.qual) 2) || t)) (disagreeing (carries a b) (carries b a) (eqb a.base b.base) (marked a) (marked b) _ _ _ e)
          ∙ ap (λ (t : Bool). eqb a.qual b.qual || t) (or-false (eqb (difference a.qual b.qual) 1 || eqb (difference a.qual b.qual) 2))
          ∙ near a.qual b.qual
      go false e =
          let apart = alone_once (carries a b) (carries b a) (marked a) (marked b) (exclusive a.annotation b.annotation a.base b.base) in
          agreeing (is_called a b) (eqb a.base b.base) (others_alone a b) (others_alone b a) (leb b.qual 2) (leb a.qual 2) (leb (a.qual + b.qual) 2) e apart
          ∙ sym (test_chosen (others_alone a b) (others_alone b a) b.qual a.qual (a.qual + b.qual))

  -- All seven.
  reason_low : is_reason (reason_at a b) ≡ (is_n a || (is_n b || leb (raw_quality a b) 2))
  unfolding reason_at holds
  reason_low = n_first (is_n a) (is_n b) (first_of quality_reasons a b) ∙ ap (λ (t : Bool). is_n a || (is_n b || t)) low

-- A position of bases a and b is masked by this quality, and what it would show is no N of its own.
record Masks (ceiling a b raw : ℕ) (position : Position) : Type 0 where
  shown : ℕ
  is : position ≡ masked a b shown (capped_quality ceiling raw)
  named : shown ≡ letter_n → (eqb a letter_n || eqb b letter_n) ≡ true

masked_base : (a b shown qual : ℕ) → (shown ≡ letter_n → (eqb a letter_n || eqb b letter_n) ≡ true) → eqb (masked a b shown qual).base letter_n ≡ (eqb a letter_n || (eqb b letter_n || eqb qual 2))
unfolding masked
masked_base a b shown qual named = go (eqb a letter_n) (eqb b letter_n) (eqb qual 2) named
  where
    go :
        (x y z : Bool)
        → (shown ≡ letter_n → (x || y) ≡ true)
        → eqb (cond {A = Position} (x || (y || z)) (record { base = letter_n; qual = 2 }) (record { base = shown; qual = qual })).base letter_n ≡ (x || (y || z))
    go true y z h = refl
    go false true z h = refl
    go false false true h = refl
    go false false false h = ne_eqb shown letter_n (λ e. true≢false (sym (h e)))

shows_masked :
    (ceiling a b raw : ℕ) (position : Position)
    → 3 ≤ ceiling
    → Masks ceiling a b raw position
    → eqb position.base letter_n ≡ (eqb a letter_n || (eqb b letter_n || leb raw 2))
shows_masked ceiling a b raw position least m =
    ap (λ (p : Position). eqb p.base letter_n) m.is
    ∙ masked_base a b m.shown (capped_quality ceiling raw) m.named
    ∙ ap (λ (t : Bool). eqb a letter_n || (eqb b letter_n || t)) (held_low ceiling raw least)

-- Without a call.
plain : (ceiling a qa b qb : ℕ) → Masks ceiling a b (cond (not (eqb a b)) (difference qa qb) (qa + qb)) (uncalled ceiling a qa b qb)
unfolding unmasked uncalled agreed disagreed
plain ceiling a qa b qb = go (eqb a b) (ltb qa qb)
  where
    of_a : a ≡ letter_n → (eqb a letter_n || eqb b letter_n) ≡ true
    of_a e = rw (eq-eqb a letter_n e)

    of_b : b ≡ letter_n → (eqb a letter_n || eqb b letter_n) ≡ true
    of_b e = rw (eq-eqb b letter_n e) (or-true (eqb a letter_n))

    go :
        (t u : Bool)
        → Masks ceiling a b (cond (not t) (difference qa qb) (qa + qb))
        (cond t (masked a b a (capped_quality ceiling (qa + qb))) (masked a b (cond u b a) (capped_quality ceiling (difference qa qb))))
    go true u = record { shown = a; is = refl; named = of_a }
    go false true = record { shown = b; is = refl; named = of_b }
    go false false = record { shown = a; is = refl; named = of_a }

-- At a call.
at_call :
    (ceiling a qa b qb confirmed : ℕ) (alone : Bool) (confirming : ℕ)
    → (confirmed ≡ letter_n → ⊥)
    → Masks ceiling a b (cond alone confirming (qa + qb)) (called ceiling a qa b qb confirmed alone confirming)
unfolding called agreed
at_call ceiling a qa b qb confirmed true confirming h = record { shown = confirmed; is = refl; named = λ e. absurd (h e) }
at_call ceiling a qa b qb confirmed false confirming h = record { shown = confirmed; is = refl; named = λ e. absurd (h e) }

c_is_no_n : letter_c ≡ letter_n → ⊥
c_is_no_n e = omega arith

g_is_no_n : letter_g ≡ letter_n → ⊥
g_is_no_n e = omega arith

abbrev here : Option ConversionPattern → ℕ → ℕ → ℕ → Shown
here annotation base qual mark = record { annotation = annotation; base = base; qual = qual; mark = mark }

masks :
    (ceiling : ℕ) (p q : Option ConversionPattern) (x qx mx y qy my : ℕ)
    → Masks ceiling x y (raw_quality (here p x qx mx) (here q y qy my)) (combined ceiling (ct_input p q) x qx mx y qy my)
unfolding combined ct_input call_at molecule_call called_by
masks ceiling None None x qx mx y qy my = plain ceiling x qx y qy
masks ceiling None (Some q) x qx mx y qy my = plain ceiling x qx y qy
masks ceiling (Some p) None x qx mx y qy my = plain ceiling x qx y qy
masks ceiling (Some CToT) (Some CToT) x qx mx y qy my = plain ceiling x qx y qy
masks ceiling (Some CToT) (Some GToA) x qx mx y qy my = go (c_test x y) (g_test x y) (one_test x y)
  where
    go :
        (c g : Bool)
        → (c ≡ true → g ≡ false)
        → Masks ceiling x y (weighed (not (c || g) && not (eqb x y)) (c && (same_letter x letter_t && eqb mx 0)) (g && (same_letter y letter_a && eqb my 0)) qx qy)
        (by_call ceiling IsA x qx mx y qy my (cond c (Some (call_as CToT x letter_c)) (cond g (Some (call_as GToA y letter_g)) None)))
    go true true apart = absurd (true≢false (apart refl))
    go true false apart = at_call ceiling x qx y qy letter_c (same_letter x letter_t && eqb mx 0) qy c_is_no_n
    go false true apart = at_call ceiling x qx y qy letter_g (same_letter y letter_a && eqb my 0) qx g_is_no_n
    go false false apart = plain ceiling x qx y qy
masks ceiling (Some GToA) (Some CToT) x qx mx y qy my = go (c_test y x) (g_test y x) (one_test y x)
  where
    go :
        (c g : Bool)
        → (c ≡ true → g ≡ false)
        → Masks ceiling x y (weighed (not (g || c) && not (eqb x y)) (g && (same_letter x letter_a && eqb mx 0)) (c && (same_letter y letter_t && eqb my 0)) qx qy)
        (by_call ceiling IsB x qx mx y qy my (cond c (Some (call_as CToT y letter_c)) (cond g (Some (call_as GToA x letter_g)) None)))
    go true true apart = absurd (true≢false (apart refl))
    go true false apart = at_call ceiling x qx y qy letter_c (same_letter y letter_t && eqb my 0) qx c_is_no_n
    go false true apart = at_call ceiling x qx y qy letter_g (same_letter x letter_a && eqb mx 0) qy g_is_no_n
    go false false apart = plain ceiling x qx y qy
masks ceiling (Some GToA) (Some GToA) x qx mx y qy my = plain ceiling x qx y qy

pub shows_n :
    (ceiling : ℕ) (a b : Shown)
    → 3 ≤ ceiling
    → eqb (combined ceiling (ct_input a.annotation b.annotation) a.base a.qual a.mark b.base b.qual b.mark).base letter_n ≡ is_reason (reason_at a b)
shows_n ceiling a b least =
    shows_masked ceiling a.base b.base (raw_quality a b) _ least (masks ceiling a.annotation b.annotation a.base a.qual a.mark b.base b.qual b.mark)
    ∙ sym (reason_low a b)
