-- The text of a group and the sequence give the called positions back: `read_back`.
--     skips_read            the skip counts come back from the text
--     calls_read            positions come back from their skip counts, if they rise and stand at tracked letters
--     uncalled_between      the letters that a skip count counts are left uncalled
-- Assumes nothing.
use mathlib.Core.Path.{◌≡◌, refl, ap, ◌∙◌}
use mathlib.Core.Bool.{Bool, true, false, cond, not, ◌&&◌}
use mathlib.Core.List.{List, [], ◌∷◌, ◌++◌, foldl, append-nil, append_assoc}
use Prim.Native.Nat.{ℕ, zero, suc, ◌+◌, ◌-◌, ◌*◌, ◌≤◌, ◌<◌}
use native.Mathlib.Omega.{arith}
use borrow.Author.Tests.{ne_eqb, not-true, ltb-true, ltb-false}
use lib.Dec.{eqb, ltb}
use lib.ListN.{length, drop, get_or}
use lib.Seq.{slice, slice-cons, drop-cons}
use Rattle.lists.specs.Every.{every}
use Rattle.lists.specs.Part.{only_if}
use Rattle.lists.proofs.Count.{count_cons}
use Rattle.refusals.proofs.Condition.{both_hold}
use Rattle.decimal.specs.Decimal.{digit, decimal, value_of, listed}
use Rattle.decimal.proofs.Decimal.{each_digit, value_decimal}
use Rattle.methylation.specs.declared.ConversionPattern.{ConversionPattern}
use Rattle.methylation.specs.declared.ConversionPattern.TheVariants.{CToT, GToA}
use Rattle.methylation.specs.declared.MethylationMode.{MethylationMode}
use Rattle.methylation_calls.specs.Calls.{is_tracked}
use Rattle.mm_ml.specs.Text.{places_below, letters, skips_from, group_text}
use Rattle.mm_ml.specs.Tags.{Annotated, called_at, skips, all_calls}
use Rattle.mm_reading.specs.Reading.{numbers, skips_of, called_from, read_calls, ReadsBack}
use Rattle.mm_ml.proofs.Walk.{past, past_append, letters_none, passing}
use Rattle.mm_ml.proofs.Group.{calls_some, text_some}

-- A character that ends no number.
abbrev goes_on : ℕ → Bool
goes_on c = not (eqb c 44) && not (eqb c 59)

digit_goes_on : (d : ℕ) → d < 10 → goes_on (digit d) ≡ true
digit_goes_on d h = rw (ne_eqb (48 + d) 44 (λ e. omega arith), ne_eqb (48 + d) 59 (λ e. omega arith))

abbrev value_from : ℕ → List ℕ → ℕ
value_from value text = foldl (λ v c. 10 * v + (c - 48)) value text

digits_read : (value : ℕ) (text rest : List ℕ) → every goes_on text ≡ true → numbers value (text ++ rest) ≡ numbers (value_from value text) rest
unfolding numbers every
digits_read value [] rest d = refl
digits_read value (c ∷ cs) rest d =
    let (here, later) = both_hold (goes_on c) (every goes_on cs) d in
    let (no_comma, no_end) = both_hold (not (eqb c 44)) (not (eqb c 59)) here in
    rw (not-true (eqb c 44) no_comma, not-true (eqb c 59) no_end) (digits_read (10 * value + (c - 48)) cs rest later)

value_read : (n : ℕ) → value_from 0 (decimal n) ≡ n
unfolding value_of
value_read n = value_decimal n

number_read : (n : ℕ) (rest : List ℕ) → numbers 0 (decimal n ++ rest) ≡ numbers n rest
number_read n rest = digits_read 0 (decimal n) rest (each_digit goes_on digit_goes_on n) ∙ ap (λ (v : ℕ). numbers v rest) (value_read n)

numbers_read : (n : ℕ) (ns : List ℕ) → numbers 0 (decimal n ++ (listed ns ++ 59 ∷ [])) ≡ n ∷ ns
unfolding numbers listed
numbers_read n [] = number_read n (59 ∷ [])
numbers_read n (m ∷ ms) =
    number_read n (listed (m ∷ ms) ++ 59 ∷ [])
    ∙ ap (λ (l : List ℕ). n ∷ l) (ap (λ (l : List ℕ). numbers 0 l) (append_assoc (decimal m) (listed ms) (59 ∷ [])) ∙ numbers_read m ms)

pub skips_read : (pattern : ConversionPattern) (n : ℕ) (ns : List ℕ) → skips_of (group_text pattern (n ∷ ns)) ≡ n ∷ ns
unfolding skips_of group_text listed
skips_read CToT n ns = ap (λ (l : List ℕ). numbers 0 l) (append_assoc (decimal n) (listed ns) (59 ∷ [])) ∙ numbers_read n ns
skips_read GToA n ns = ap (λ (l : List ℕ). numbers 0 l) (append_assoc (decimal n) (listed ns) (59 ∷ [])) ∙ numbers_read n ns

module _ (tracked : ℕ → Bool) where
  -- What a base does to a count: a tracked one of a count of 0 is called, one of a larger count is passed over, and so is any other base.
  hit : (i b : ℕ) (bs ns : List ℕ) → tracked b ≡ true → called_from tracked i (b ∷ bs) (0 ∷ ns) ≡ i ∷ called_from tracked (suc i) bs ns
  unfolding called_from
  hit i b bs ns e = rw e

  count_down : (i b n : ℕ) (bs ns : List ℕ) → tracked b ≡ true → called_from tracked i (b ∷ bs) (suc n ∷ ns) ≡ called_from tracked (suc i) bs (n ∷ ns)
  unfolding called_from
  count_down i b n bs ns e = rw e

  pass : (i b n : ℕ) (bs ns : List ℕ) → tracked b ≡ false → called_from tracked i (b ∷ bs) (n ∷ ns) ≡ called_from tracked (suc i) bs (n ∷ ns)
  unfolding called_from
  pass i b zero bs ns e = rw e
  pass i b (suc n) bs ns e = rw e

  none_left : (i : ℕ) (bs : List ℕ) → called_from tracked i bs [] ≡ []
  unfolding called_from
  none_left i [] = refl
  none_left i (b ∷ bs) = refl

module _ (tracked : ℕ → Bool) (bases : List ℕ) where
  letters_cons :
      (from to : ℕ)
      → from < to
      → to ≤ length bases
      → letters tracked bases from to ≡ cond (tracked (get_or bases from 0)) (suc (letters tracked bases (suc from) to)) (letters tracked bases (suc from) to)
  unfolding letters
  letters_cons from to h g = rw (slice-cons from to bases 0 h g) (count_cons tracked (get_or bases from 0) (slice (suc from) to bases))

  -- The next called position p is d past `from`.
  reach :
      (d from p : ℕ) (ns : List ℕ)
      → from + d ≡ p
      → p < length bases
      → tracked (get_or bases p 0) ≡ true
      → called_from tracked from (drop from bases) (letters tracked bases from p ∷ ns) ≡ p ∷ called_from tracked (suc p) (drop (suc p) bases) ns
  reach zero from p ns e h t =
      let here : from ≡ p = omega arith in
      rw (here, letters_none tracked bases p, drop-cons bases p 0 h) (hit tracked p (get_or bases p 0) (drop (suc p) bases) ns t)
  reach (suc d) from p ns e h t =
      let before : from < p = omega arith in
      let within : p ≤ length bases = omega arith in
      let inside : from < length bases = omega arith in
      rw (drop-cons bases from 0 inside, letters_cons from p before within) (go (tracked (get_or bases from 0)) refl (reach d (suc from) p ns (omega arith) h t))
    where
      go :
          (b : Bool)
          → tracked (get_or bases from 0) ≡ b
          → called_from tracked (suc from) (drop (suc from) bases) (letters tracked bases (suc from) p ∷ ns) ≡ p ∷ called_from tracked (suc p) (drop (suc p) bases) ns
          → called_from tracked from (get_or bases from 0 ∷ drop (suc from) bases) (cond b (suc (letters tracked bases (suc from) p)) (letters tracked bases (suc from) p) ∷ ns)
          ≡ p ∷ called_from tracked (suc p) (drop (suc p) bases) ns
      go true e next = count_down tracked from (get_or bases from 0) (letters tracked bases (suc from) p) (drop (suc from) bases) ns e ∙ next
      go false e next = pass tracked from (get_or bases from 0) (letters tracked bases (suc from) p) (drop (suc from) bases) ns e ∙ next

  -- Positions from `from` on that rise, each that of a tracked letter.
  abbrev pub Rising : ℕ → List ℕ → Type 0
  Rising from [] = Unit {0}
  Rising from (p ∷ ps) = (from ≤ p) × ((p < length bases) × ((tracked (get_or bases p 0) ≡ true) × Rising (suc p) ps))

  pub calls_read : (from : ℕ) (ps : List ℕ) → Rising from ps → called_from tracked from (drop from bases) (skips_from tracked bases from ps) ≡ ps
  unfolding skips_from
  calls_read from [] r = none_left tracked from (drop from bases)
  calls_read from (p ∷ ps) (rises, (inside, (is_tracked_is, rest))) =
      reach (p - from) from p (skips_from tracked bases (suc p) ps) (omega arith) inside is_tracked_is
      ∙ ap (λ (l : List ℕ). p ∷ l) (calls_read (suc p) ps rest)

  rising_snoc :
      (from : ℕ) (ps : List ℕ) (p : ℕ)
      → Rising from ps
      → past from ps ≤ p
      → p < length bases
      → tracked (get_or bases p 0) ≡ true
      → Rising from (ps ++ p ∷ [])
  rising_snoc from [] p r after inside t = (after, (inside, (t, tt)))
  rising_snoc from (q ∷ qs) p (rises, (within, (u, rest))) after inside t = (rises, (within, (u, rising_snoc (suc q) qs p rest after inside t)))

  module _ (called : ℕ → Bool) (only_tracked : (i : ℕ) → called i ≡ true → tracked (get_or bases i 0) ≡ true) where
    rising : (n : ℕ) → n ≤ length bases → Rising 0 (places_below called n)
    unfolding places_below only_if
    rising zero h = tt
    rising (suc n) h = go (called n) refl (rising n (omega arith))
      where
        go : (b : Bool) → called n ≡ b → Rising 0 (places_below called n) → Rising 0 (places_below called n ++ only_if b (n ∷ []))
        go true e so_far = rising_snoc 0 (places_below called n) n so_far (passing tracked bases called n (omega arith)).started (omega arith) (only_tracked n e)
        go false e so_far = rw append-nil so_far

-- From the last called position below n up to n none is called.
pub uncalled_between : (called : ℕ → Bool) (n q : ℕ) → past 0 (places_below called n) ≤ q → q < n → called q ≡ false
unfolding places_below only_if
uncalled_between called zero q h g = absurd (omega arith)
uncalled_between called (suc n) q h g = go (called n) refl h (uncalled_between called n q)
  where
    go :
        (b : Bool)
        → called n ≡ b
        → past 0 (places_below called n ++ only_if b (n ∷ [])) ≤ q
        → (past 0 (places_below called n) ≤ q → q < n → called q ≡ false)
        → called q ≡ false
    go true e after rest = absurd (omega (arith, past_append 0 (places_below called n) (n ∷ [])))
    go false e after rest = here (ltb q n) refl
      where
        same : past 0 (places_below called n) ≤ q
        same = rw append-nil at after

        here : (b : Bool) → ltb q n ≡ b → called q ≡ false
        here true f = rest same (ltb-true q n f)
        here false f =
            let there : q ≡ n = omega (arith, ltb-false q n f) in
            rw there e

-- The reader finds the letter that the pattern tracks, and the skip counts.
group_read : (pattern : ConversionPattern) (bases : List ℕ) (n : ℕ) (ns : List ℕ) → read_calls (group_text pattern (n ∷ ns)) bases ≡ called_from (is_tracked pattern) 0 bases (n ∷ ns)
unfolding read_calls group_text
group_read CToT bases n ns = ap (called_from (is_tracked CToT) 0 bases) (skips_read CToT n ns)
group_read GToA bases n ns = ap (called_from (is_tracked GToA) 0 bases) (skips_read GToA n ns)

only_tracked : (s : Annotated) (i : ℕ) → called_at s i ≡ true → is_tracked s.pattern (get_or s.bases i 0) ≡ true
unfolding called_at
only_tracked s i e = (both_hold _ _ e).0

positions_read : (s : Annotated) (ps : List ℕ) → (length ps ≡ 0 → ⊥) → Rising (is_tracked s.pattern) s.bases 0 ps → read_calls (group_text s.pattern (skips s ps)) s.bases ≡ ps
unfolding skips_from
positions_read s [] some r = absurd (some refl)
positions_read s (p ∷ ps) some r =
    group_read s.pattern s.bases (letters (is_tracked s.pattern) s.bases 0 p) (skips_from (is_tracked s.pattern) s.bases (suc p) ps)
    ∙ calls_read (is_tracked s.pattern) s.bases 0 (p ∷ ps) r

pub read_back : (mode : MethylationMode) (s : Annotated) → ReadsBack mode s
read_back mode s some =
    let all = calls_some mode s some in
    rw (text_some mode s some, all)
    (positions_read s (all_calls s) (λ e. some (ap length all ∙ e)) (rising (is_tracked s.pattern) s.bases (called_at s) (only_tracked s) (length s.bases) (omega arith)))
