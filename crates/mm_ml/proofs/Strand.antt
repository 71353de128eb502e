-- The loops over a strand's positions, each with its invariant, what holds at its start and after a turn.
--     Listing      counts the listed skip counts and their length
--     Writing      writes them behind what stands before place 4
--     Scoring      writes the ML bytes
--     one_more, one_at_most             whether a position is called, as a number
--     with_comma, after_comma           a comma and a count, written at a place
-- Assumes nothing.
use mathlib.Core.Path.{◌≡◌, refl, sym, ap, ◌∙◌}
use mathlib.Core.Bool.{Bool, true, false, cond}
use mathlib.Core.List.{List, [], ◌∷◌, ◌++◌, append-nil, append_assoc, map, map-append}
use Prim.Native.Nat.{ℕ, ◌+◌, ◌-◌, ◌*◌, ◌≤◌, ◌<◌}
use native.Mathlib.Omega.{arith}
use mir.Val.{bool_byte}
use native.Mathlib.Nat.{add-zero}
use lib.ListN.{length, take, set, get_or, length-append, length-map, length-set}
use lib.Seq.{length-take-le, append_snoc}
use borrow.Rule.Slice.PartMut.{put_mid, mid_of}
use Rattle.lists.specs.Output.{put}
use Rattle.lists.specs.Part.{only_if}
use Rattle.lists.proofs.Output.{put_snoc, length_put, put_equal, copy_next, put_take, put_over, front_of}
use Rattle.decimal.specs.Decimal.{decimal}
use Rattle.decimal.proofs.Decimal.{few_digits}
use Rattle.methylation.specs.declared.MethylationMode.{MethylationMode}
use Rattle.methylation_calls.specs.Calls.{is_tracked}
use Rattle.mm_ml.specs.Text.{places_below}
use Rattle.mm_ml.specs.Tags.{Annotated, called_at, calls_below, all_calls, all_listed, ml_byte, all_bytes, Evident}
use Rattle.mm_ml.proofs.Walk.{Passing, listed_below, begin, next, called_next, skips_next, calls_last, listed_last, none_listed, listed_within, calls_within}

-- A comma is set at a place, and a text copied behind it.
module _ (out : List ℕ) (at : ℕ) (text : List ℕ) (room : at + length (44 ∷ text) ≤ length out) where
  before_place : length (take at out) ≡ at
  before_place = length-take-le at out (omega arith)

  pub with_comma : set out at 44 ≡ put (take at out ++ 44 ∷ []) out
  with_comma =
      let stored = put_snoc (take at out) out 44 (omega (arith, before_place)) in
      rw (put_take at out, before_place) at stored

  pub after_comma : {Y : List ℕ} → Y ≡ put (take (length (mid_of (at + 1) (length (set out at 44) - (at + 1)) (set out at 44))) text) (mid_of (at + 1) (length (set out at 44) - (at + 1)) (set out at 44)) → put_mid (at + 1) (length (set out at 44) - (at + 1)) (set out at 44) Y ≡ put (take at out ++ (44 ∷ text)) out
  after_comma e =
      let size = length-set out at 44 in
      let here : at + 1 ≡ length (take at out ++ 44 ∷ []) = omega (arith, length-append (take at out) (44 ∷ []), before_place) in
      copy_next (take at out ++ 44 ∷ []) out (length (set out at 44) - (at + 1)) with_comma here (omega arith) text (omega arith) e
      ∙ put_equal out (append_snoc (take at out) 44 text)

  pub text_length : length (put (take at out ++ (44 ∷ text)) out) ≡ length out
  text_length = length_put (take at out ++ (44 ∷ text)) out (omega (arith, length-append (take at out) (44 ∷ text), before_place))

-- A test as a number.
pub one_more : (b : Bool) (n : ℕ) → n + bool_byte b ≡ cond b (n + 1) n
one_more true n = refl
one_more false n = add-zero n

pub one_at_most : (b : Bool) {n : ℕ} → n ≡ bool_byte b → (m : ℕ) → (n ≤ 1) × (n * m ≤ m)
one_at_most true e m = rw e (omega arith, omega arith)
one_at_most false e m = rw e (omega arith, omega arith)

module _ (s : Annotated) where
  abbrev pub Walked : ℕ → ℕ → Type 0
  Walked i skip = Passing (is_tracked s.pattern) s.bases (called_at s) i skip

  -- The listed skip counts of the called positions below i.
  abbrev pub texts : ℕ → List ℕ
  texts i = listed_below (is_tracked s.pattern) s.bases (called_at s) i

  -- The count of skipped letters after position i, which is called or not.
  abbrev pub skipped : ℕ → Bool → ℕ → ℕ
  skipped i b skip = cond b 0 (cond (is_tracked s.pattern (get_or s.bases i 0)) (skip + 1) skip)

  pub walk_next : {i skip : ℕ} (b : Bool) → Walked i skip → i < length s.bases → called_at s i ≡ b → Walked (i + 1) (skipped i b skip)
  walk_next b w h e = next (is_tracked s.pattern) s.bases (called_at s) b w h e

  -- A skip count is below 1,024, of at most 4 digits.
  pub short_skip : {i skip : ℕ} → Evident s → Walked i skip → i < length s.bases → (skip < 1024) × (length (decimal skip) ≤ 4)
  short_skip {i} {skip} ev w h =
      let below : skip < 1024 = omega (arith, ev.few, w.few) in
      (below, few_digits 3 skip (omega arith))

  pub record Listing (i skip mm ml : ℕ) : Type 0 where
    pub walked : Walked i skip
    pub text : mm ≡ length (texts i)
    pub count : ml ≡ length (calls_below s i)

  pub begin_listing : Listing 0 0 0 0
  unfolding places_below
  begin_listing = record {
    walked = begin (is_tracked s.pattern) s.bases (called_at s);
    text = sym (ap length (none_listed (is_tracked s.pattern) s.bases (called_at s)));
    count = refl;
  }

  pub next_listing :
      {i skip mm ml : ℕ} (b : Bool)
      → Listing i skip mm ml
      → i < length s.bases
      → called_at s i ≡ b
      → Listing (i + 1) (skipped i b skip) (cond b (mm + (1 + length (decimal skip))) mm) (cond b (ml + 1) ml)
  unfolding only_if
  next_listing {i} {skip} true l h e =
      let texts_more = ap length (skips_next (is_tracked s.pattern) s.bases (called_at s) true l.walked e) ∙ length-append (texts i) (44 ∷ decimal skip) in
      let calls_more = ap length (called_next (is_tracked s.pattern) s.bases (called_at s) i true e) ∙ length-append (calls_below s i) (i ∷ []) in
      record {
        walked = walk_next true l.walked h e;
        text = omega (arith, texts_more, l.text);
        count = omega (arith, calls_more, l.count);
      }
  next_listing {i} {skip} false l h e = record {
    walked = walk_next false l.walked h e;
    text = l.text ∙ sym (ap length (skips_next (is_tracked s.pattern) s.bases (called_at s) false l.walked e ∙ append-nil (texts i)));
    count = l.count ∙ sym (ap length (called_next (is_tracked s.pattern) s.bases (called_at s) i false e ∙ append-nil (calls_below s i)));
  }

  -- The same of what a turn leaves: n is 1 where the position is called, else 0.
  pub turn_listing :
      {i skip mm ml skip' n digits : ℕ} (b : Bool)
      → Listing i skip mm ml
      → i < length s.bases
      → called_at s i ≡ b
      → n ≡ bool_byte b
      → digits ≡ length (decimal skip)
      → skip' ≡ skipped i b skip
      → Listing (i + 1) skip' (mm + n * (1 + digits)) (ml + n)
  turn_listing {skip} true l h e n_is digits_is skip_is =
      let once : 1 * (1 + length (decimal skip)) ≡ 1 + length (decimal skip) = omega arith in
      rw (n_is, digits_is, skip_is, once) (next_listing true l h e)
  turn_listing {mm} {digits} false l h e n_is digits_is skip_is =
      let none : mm + 0 * (1 + digits) ≡ mm = omega arith in
      rw (n_is, skip_is, none, add-zero) (next_listing false l h e)

  -- How many bytes they have at most.
  pub few_bytes : {i skip mm ml : ℕ} → Evident s → Listing i skip mm ml → (mm ≤ 5 * i) × (ml ≤ i)
  few_bytes {i} ev l = (
    omega (arith, l.text, listed_within (is_tracked s.pattern) s.bases (called_at s) ev.few i l.walked.within),
    omega (arith, l.count, calls_within (is_tracked s.pattern) s.bases (called_at s) i),
  )

  -- What a turn adds, and what it leaves, stays small.
  pub small_turn :
      {i skip mm ml n digits : ℕ} (b : Bool)
      → Evident s
      → Listing i skip mm ml
      → i < length s.bases
      → n ≡ bool_byte b
      → digits ≡ length (decimal skip)
      → (1 + digits ≤ 5) × (n * (1 + digits) ≤ 5) × (mm + n * (1 + digits) ≤ 5125) × (ml + n ≤ 1025)
  small_turn {i} {skip} {n = n} {digits} b ev l h n_is digits_is =
      let short = short_skip ev l.walked h in
      let one = one_at_most b n_is (1 + digits) in
      let few = few_bytes ev l in
      let text : 1 + digits ≤ 5 = omega (arith, short.1, digits_is) in
      (text, omega (arith, one.1, text), omega (arith, one.1, text, few.0, ev.few, h), omega (arith, one.0, few.1, ev.few, h))

  -- When all positions are behind.
  pub done_listing : {i skip mm ml : ℕ} → Listing i skip mm ml → length s.bases ≤ i → (mm ≡ length (all_listed s)) × (ml ≡ length (all_calls s))
  done_listing {i} l h =
      let all : i ≡ length s.bases = omega (arith, l.walked.within) in
      (rw all at l.text, rw all at l.count)

  pub record Writing (before : List ℕ) (i skip at : ℕ) (now : List ℕ) : Type 0 where
    pub walked : Walked i skip
    pub room : 4 + length (all_listed s) ≤ length before
    pub place : at ≡ 4 + length (texts i)
    pub so_far : now ≡ put (take 4 before ++ texts i) before

  -- So many bytes stand before the place.
  front : {before : List ℕ} {i skip at : ℕ} {now : List ℕ} → Writing before i skip at now → length (take 4 before ++ texts i) ≡ at
  front {before} {i} w =
      let four : length (take 4 before) ≡ 4 = length-take-le 4 before (omega (arith, w.room)) in
      rw length-append (omega (arith, w.place))

  pub begin_writing : (before : List ℕ) → 4 + length (all_listed s) ≤ length before → Writing before 0 0 4 before
  begin_writing before room =
      let none = none_listed (is_tracked s.pattern) s.bases (called_at s) in
      record {
        walked = begin (is_tracked s.pattern) s.bases (called_at s);
        room = room;
        place = omega (arith, ap length none);
        so_far = rw (none, append-nil) (sym (put_take 4 before));
      }

  pub same_writing : {before : List ℕ} {i skip at : ℕ} {now : List ℕ} → Writing before i skip at now → length now ≡ length before
  same_writing {before} {i} w =
      let last = listed_last (is_tracked s.pattern) s.bases (called_at s) i w.walked.within in
      ap length w.so_far ∙ length_put (take 4 before ++ texts i) before (omega (arith, front w, w.room, w.place))

  more_text : {i skip : ℕ} → Walked i skip → called_at s i ≡ true → texts (i + 1) ≡ texts i ++ (44 ∷ decimal skip)
  unfolding only_if
  more_text w e = skips_next (is_tracked s.pattern) s.bases (called_at s) true w e

  no_more_text : {i skip : ℕ} → Walked i skip → called_at s i ≡ false → texts (i + 1) ≡ texts i
  unfolding only_if
  no_more_text {i} w e = skips_next (is_tracked s.pattern) s.bases (called_at s) false w e ∙ append-nil (texts i)

  -- There is room for the next skip count.
  pub fits_writing :
      {before : List ℕ} {i skip at : ℕ} {now : List ℕ}
      → Writing before i skip at now
      → i < length s.bases
      → called_at s i ≡ true
      → at + length (44 ∷ decimal skip) ≤ length now
  fits_writing {before} {i} {skip} w h e =
      let longer = ap length (more_text w.walked e) ∙ length-append (texts i) (44 ∷ decimal skip) in
      let last = listed_last (is_tracked s.pattern) s.bases (called_at s) (i + 1) (omega arith) in
      omega (arith, longer, last, w.place, w.room, same_writing w)

  pub turn_writing :
      {before : List ℕ} {i skip at : ℕ} {now : List ℕ} {skip' at' : ℕ} {now' : List ℕ} (b : Bool)
      → Writing before i skip at now
      → i < length s.bases
      → called_at s i ≡ b
      → skip' ≡ skipped i b skip
      → at' ≡ cond b (at + length (44 ∷ decimal skip)) at
      → now' ≡ cond b (put (take at now ++ (44 ∷ decimal skip)) now) now
      → Writing before (i + 1) skip' at' now'
  turn_writing {before} {i} {skip} {at} {now} true w h e skip_is at_is now_is =
      let more = more_text w.walked e in
      let longer = ap length more ∙ length-append (texts i) (44 ∷ decimal skip) in
      let text = take 4 before ++ texts i in
      let before_it : take at now ≡ text = front_of text before w.so_far (sym (front w)) in
      record {
        walked = rw skip_is (walk_next true w.walked h e);
        room = w.room;
        place = omega (arith, at_is, longer, w.place);
        so_far = now_is ∙ rw (before_it, w.so_far, more, ← append_assoc) (put_over (text ++ (44 ∷ decimal skip)) text before (omega (arith, length-append text (44 ∷ decimal skip))));
      }
  turn_writing {before} {i} {skip} {at} {now} false w h e skip_is at_is now_is =
      let same = no_more_text w.walked e in
      record {
        walked = rw skip_is (walk_next false w.walked h e);
        room = w.room;
        place = at_is ∙ rw same w.place;
        so_far = now_is ∙ rw same w.so_far;
      }

  pub done_writing :
      {before : List ℕ} {i skip at : ℕ} {now : List ℕ}
      → Writing before i skip at now
      → length s.bases ≤ i
      → (at ≡ 4 + length (all_listed s)) × (now ≡ put (take 4 before ++ all_listed s) before)
  done_writing {before} {i} w h =
      let all : i ≡ length s.bases = omega (arith, w.walked.within) in
      (rw all at w.place, rw all at w.so_far)

  -- The ML bytes of the called positions below i are written.
  pub record Scoring (mode : MethylationMode) (before : List ℕ) (i at : ℕ) (now : List ℕ) : Type 0 where
    pub within : i ≤ length s.bases
    pub room : length (all_calls s) ≤ length before
    pub place : at ≡ length (calls_below s i)
    pub so_far : now ≡ put (map (ml_byte mode s) (calls_below s i)) before

  module _ (mode : MethylationMode) where
    pub begin_scoring : (before : List ℕ) → length (all_calls s) ≤ length before → Scoring mode before 0 0 before
    unfolding places_below put
    begin_scoring before room = record { within = omega arith; room = room; place = refl; so_far = refl }

    pub same_scoring : {before : List ℕ} {i at : ℕ} {now : List ℕ} → Scoring mode before i at now → length now ≡ length before
    same_scoring {before} {i} w =
        let last = calls_last (is_tracked s.pattern) s.bases (called_at s) i w.within in
        ap length w.so_far ∙ length_put (map (ml_byte mode s) (calls_below s i)) before (omega (arith, length-map (calls_below s i) (ml_byte mode s), w.room))

    pub few_scores : {before : List ℕ} {i at : ℕ} {now : List ℕ} → Scoring mode before i at now → at ≤ i
    few_scores {before} {i} w = omega (arith, w.place, calls_within (is_tracked s.pattern) s.bases (called_at s) i)

    more_calls : (i : ℕ) → called_at s i ≡ true → calls_below s (i + 1) ≡ calls_below s i ++ i ∷ []
    unfolding only_if
    more_calls i e = called_next (is_tracked s.pattern) s.bases (called_at s) i true e

    no_more_calls : (i : ℕ) → called_at s i ≡ false → calls_below s (i + 1) ≡ calls_below s i
    unfolding only_if
    no_more_calls i e = called_next (is_tracked s.pattern) s.bases (called_at s) i false e ∙ append-nil (calls_below s i)

    pub fits_scoring : {before : List ℕ} {i at : ℕ} {now : List ℕ} → Scoring mode before i at now → i < length s.bases → called_at s i ≡ true → at < length now
    fits_scoring {before} {i} w h e =
        let longer = ap length (more_calls i e) ∙ length-append (calls_below s i) (i ∷ []) in
        let last = calls_last (is_tracked s.pattern) s.bases (called_at s) (i + 1) (omega arith) in
        omega (arith, longer, last, w.place, w.room, same_scoring w)

    pub turn_scoring :
        {before : List ℕ} {i at : ℕ} {now : List ℕ} {at' : ℕ} {now' : List ℕ} (b : Bool)
        → Scoring mode before i at now
        → i < length s.bases
        → called_at s i ≡ b
        → at' ≡ cond b (at + 1) at
        → now' ≡ cond b (set now at (ml_byte mode s i)) now
        → Scoring mode before (i + 1) at' now'
    turn_scoring {before} {i} {at} {now} true w h e at_is now_is =
        let more = more_calls i e in
        let bytes = map (ml_byte mode s) (calls_below s i) in
        let as_many : at ≡ length bytes = w.place ∙ sym (length-map (calls_below s i) (ml_byte mode s)) in
        let longer = ap length more ∙ length-append (calls_below s i) (i ∷ []) in
        let bytes_more : map (ml_byte mode s) (calls_below s (i + 1)) ≡ bytes ++ ml_byte mode s i ∷ [] = rw more (map-append (ml_byte mode s) (calls_below s i) (i ∷ [])) in
        record {
          within = omega arith;
          room = w.room;
          place = omega (arith, at_is, longer, w.place);
          so_far = now_is ∙ rw (bytes_more, as_many, w.so_far) (put_snoc bytes before (ml_byte mode s i) (omega (arith, fits_scoring w h e, same_scoring w)));
        }
    turn_scoring {before} {i} {at} {now} false w h e at_is now_is =
        let same = no_more_calls i e in
        record {
          within = omega arith;
          room = w.room;
          place = at_is ∙ rw same w.place;
          so_far = now_is ∙ rw same w.so_far;
        }

    pub done_scoring : {before : List ℕ} {i at : ℕ} {now : List ℕ} → Scoring mode before i at now → length s.bases ≤ i → now ≡ put (all_bytes mode s) before
    done_scoring {before} {i} w h =
        let all : i ≡ length s.bases = omega (arith, w.within) in
        rw all at w.so_far
