-- A walk along a sequence, one position a turn, that counts the tracked letters since the last called position.
--     Passing                          the invariant: skip letters are passed over when i positions are behind
--     begin, next                      the two facts that such a loop asks for
--     called_next, skips_next          what a position adds to the called positions and to their listed skip counts
--     calls_last, listed_last          both are longest at the end
--     calls_within, listed_within      how many called positions there are, and how long their listed skip counts, at most
-- For any test of a letter and of a position. Assumes nothing.
use mathlib.Core.Path.{◌≡◌, refl, sym, ap, ◌∙◌}
use mathlib.Core.Bool.{Bool, true, false, cond}
use mathlib.Core.List.{List, [], ◌∷◌, ◌++◌, append-nil}
use Prim.Native.Nat.{ℕ, zero, suc, ◌+◌, ◌-◌, ◌*◌, ◌≤◌, ◌<◌}
use native.Mathlib.Omega.{arith}
use native.Mathlib.Nat.{add-zero}
use native.Mathlib.Numerals.{add-one}
use lib.ListN.{length, get_or, length-append}
use lib.Seq.{slice, slice_empty}
use Rattle.lists.specs.Count.{count_if, count_of}
use Rattle.lists.specs.Part.{only_if}
use Rattle.lists.proofs.Count.{count_snoc}
use Rattle.lists.proofs.Parts.{slice_next}
use Rattle.decimal.specs.Decimal.{decimal, listed}
use Rattle.decimal.proofs.Decimal.{few_digits, listed_append}
use Rattle.mm_ml.specs.Text.{places_below, letters, skips_from}

-- The position after the last of some, or `from`.
abbrev pub past : ℕ → List ℕ → ℕ
past from [] = from
past from (p ∷ ps) = past (suc p) ps

pub past_append : (from : ℕ) (ps qs : List ℕ) → past from (ps ++ qs) ≡ past (past from ps) qs
past_append from [] qs = refl
past_append from (p ∷ ps) qs = past_append (suc p) ps qs

module _ (tracked : ℕ → Bool) (bases : List ℕ) where
  pub letters_none : (from : ℕ) → letters tracked bases from from ≡ 0
  unfolding letters count_of
  letters_none from = rw (slice_empty from bases)

  letters_next : (from to : ℕ) → from ≤ to → to < length bases → letters tracked bases from (suc to) ≡ count_if tracked (letters tracked bases from to) (get_or bases to 0)
  unfolding letters
  letters_next from to h g = rw (slice_next from to bases 0 h g) (count_snoc tracked (slice from to bases) (get_or bases to 0))

  skips_append : (from : ℕ) (ps qs : List ℕ) → skips_from tracked bases from (ps ++ qs) ≡ skips_from tracked bases from ps ++ skips_from tracked bases (past from ps) qs
  unfolding skips_from
  skips_append from [] qs = refl
  skips_append from (p ∷ ps) qs = ap (λ (l : List ℕ). letters tracked bases from p ∷ l) (skips_append (suc p) ps qs)

module _ (tracked : ℕ → Bool) (bases : List ℕ) (called : ℕ → Bool) where
  -- The listed skip counts of the called positions below i.
  abbrev pub listed_below : ℕ → List ℕ
  listed_below i = listed (skips_from tracked bases 0 (places_below called i))

  -- The position after the last called one below i.
  abbrev start : ℕ → ℕ
  start i = past 0 (places_below called i)

  pub record Passing (i skip : ℕ) : Type 0 where
    pub within : i ≤ length bases
    pub few : skip ≤ i
    pub started : start i ≤ i
    pub passed_over : skip ≡ letters tracked bases (start i) i

  pub begin : Passing 0 0
  unfolding places_below
  begin = record { within = omega arith; few = omega arith; started = omega arith; passed_over = sym (letters_none tracked bases 0) }

  pub called_next : (i : ℕ) (b : Bool) → called i ≡ b → places_below called (i + 1) ≡ places_below called i ++ only_if b (i ∷ [])
  unfolding places_below
  called_next i b e = rw (add-one, e)

  -- Called: the walk starts anew. Not called: a tracked letter is passed over.
  pub next :
      {i skip : ℕ} (b : Bool)
      → Passing i skip
      → i < length bases
      → called i ≡ b
      → Passing (i + 1) (cond b 0 (cond (tracked (get_or bases i 0)) (skip + 1) skip))
  unfolding only_if count_if
  next {i} {skip} true p h e =
      let anew : start (i + 1) ≡ i + 1 = ap (past 0) (called_next i true e) ∙ past_append 0 (places_below called i) (i ∷ []) ∙ sym (add-one i) in
      record {
        within = omega arith;
        few = omega arith;
        started = omega arith;
        passed_over = rw anew (sym (letters_none tracked bases (i + 1)));
      }
  next {i} {skip} false p h e =
      let same : start (i + 1) ≡ start i = ap (past 0) (called_next i false e ∙ append-nil (places_below called i)) in
      record {
        within = omega arith;
        few = go (tracked (get_or bases i 0));
        started = omega arith;
        passed_over = rw (same, add-one i, letters_next tracked bases (start i) i p.started h, ← p.passed_over);
      }
    where
      go : (b : Bool) → cond b (skip + 1) skip ≤ i + 1
      go true = omega arith
      go false = omega arith

  -- The listed skip count of a called position, nothing of another.
  pub skips_next :
      {i skip : ℕ} (b : Bool)
      → Passing i skip
      → called i ≡ b
      → listed_below (i + 1) ≡ listed_below i ++ only_if b (44 ∷ decimal skip)
  unfolding only_if skips_from listed
  skips_next {i} {skip} true p e =
      rw (called_next i true e, skips_append tracked bases 0 (places_below called i) (i ∷ []), listed_append, ← p.passed_over, append-nil (decimal skip))
  skips_next {i} {skip} false p e = rw (called_next i false e, append-nil (places_below called i), append-nil (listed_below i))

  at_start : Passing 0 (letters tracked bases (start 0) 0)
  unfolding places_below
  at_start = rw (letters_none tracked bases 0) begin

  -- Every position can be reached.
  pub passing : (i : ℕ) → i ≤ length bases → Passing i (letters tracked bases (start i) i)
  passing zero h = at_start
  passing (suc i) h =
      let so_far = passing i (omega arith) in
      let there = next (called i) so_far (omega arith) refl in
      let skip = there.passed_over in
      record {
        within = omega arith;
        few = rw (skip, add-one) at there.few;
        started = rw add-one at there.started;
        passed_over = refl;
      }

  calls_grow : (i : ℕ) → length (places_below called i) ≤ length (places_below called (i + 1))
  calls_grow i = rw (called_next i (called i) refl, length-append) (omega arith)

  listed_grow : (i : ℕ) → i ≤ length bases → length (listed_below i) ≤ length (listed_below (i + 1))
  listed_grow i h = rw (skips_next (called i) (passing i h) refl, length-append) (omega arith)

  pub none_listed : listed_below 0 ≡ []
  unfolding places_below skips_from listed
  none_listed = refl

  one_count : (b : Bool) (text : List ℕ) → length (only_if b (44 ∷ text)) ≤ 1 + length text
  unfolding only_if
  one_count true text = omega arith
  one_count false text = omega arith

  -- What is counted at each position, and only grows, is largest at the end.
  largest_last : (f : ℕ → ℕ) (n : ℕ) → ((i : ℕ) → i ≤ n → f i ≤ f (i + 1)) → (i : ℕ) → i ≤ n → f i ≤ f n
  largest_last f n grow i h =
      let there : i + (n - i) ≡ n = omega arith in
      rw there at (go (n - i) (omega arith))
    where
      go : (d : ℕ) → i + d ≤ n → f i ≤ f (i + d)
      go zero g = rw (add-zero i) (omega arith)
      go (suc d) g =
          let here : i + suc d ≡ i + d + 1 = omega arith in
          rw here (omega (arith, go d (omega arith), grow (i + d) (omega arith)))

  pub calls_last : (i : ℕ) → i ≤ length bases → length (places_below called i) ≤ length (places_below called (length bases))
  calls_last = largest_last (λ i. length (places_below called i)) (length bases) (λ i h. calls_grow i)

  pub listed_last : (i : ℕ) → i ≤ length bases → length (listed_below i) ≤ length (listed_below (length bases))
  listed_last = largest_last (λ i. length (listed_below i)) (length bases) listed_grow

  pub calls_within : (i : ℕ) → length (places_below called i) ≤ i
  unfolding places_below only_if
  calls_within zero = omega arith
  calls_within (suc i) = go (called i) (calls_within i)
    where
      go : (b : Bool) → length (places_below called i) ≤ i → length (places_below called i ++ only_if b (i ∷ [])) ≤ suc i
      go true so_far = rw length-append (omega arith)
      go false so_far = rw append-nil (omega arith)

  pub listed_within : length bases ≤ 1024 → (i : ℕ) → i ≤ length bases → length (listed_below i) ≤ 5 * i
  listed_within few zero h = omega (arith, ap length none_listed)
  listed_within few (suc i) h =
      let p = passing i (omega arith) in
      let short = few_digits 3 (letters tracked bases (start i) i) (omega (arith, p.few)) in
      let so_far = listed_within few i (omega arith) in
      let longer = ap length (skips_next (called i) p refl) ∙ length-append (listed_below i) (only_if (called i) (44 ∷ decimal (letters tracked bases (start i) i))) in
      rw (← add-one i) (omega (arith, longer, one_count (called i) (decimal (letters tracked bases (start i) i))))
