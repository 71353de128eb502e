-- One read's positions: those that the code adds are all that are met. Past the read's end it has no base; past the reference's or
-- the marks' end it is not looked at.
--     within                              its bases lie within the bytes
--     part_length, own_length             how long a part is that lies within, or is none; a read's first bases
--     added_everywhere, added_aligned     what the code adds is what the definition does
-- Assumes nothing.
use mathlib.Core.Path.{◌≡◌, refl, ap, ap₂, ◌∙◌}
use mathlib.Core.Bool.{Bool, true, false, cond, not, ◌&&◌, and-false}
use mathlib.Core.List.{List, []}
use Rattle.std.proofs.Common.{Some, None}
use Prim.Native.Nat.{ℕ, ◌+◌, ◌-◌, ◌<◌, ◌≤◌, min}
use native.Mathlib.Omega.{arith}
use borrow.Author.Tests.{ltb-true, ltb-false, lt-ltb, le-ltb}
use lib.Dec.{eqb, ltb}
use lib.ListN.{length, take, drop, get_or, length-take, length-drop, get_or-eq_default}
use lib.Seq.{get_or-take, get_or-drop}
use Rattle.lists.specs.Output.{put}
use Rattle.lists.specs.Part.{leaves, part}
use Rattle.lists.proofs.Parts.{stays}
use Rattle.dna.specs.Dna.{upper}
use Rattle.methylation.specs.Methylation.{pattern_bases}
use Rattle.methylation.specs.declared.ConversionPattern.{ConversionPattern}
use Rattle.methylation.specs.declared.ConversionPattern.TheVariants.{CToT, GToA}
use Rattle.methylation.specs.declared.PatternBases.{PatternBases}
use Rattle.source_reads.specs.Reads.{read_leaves, reaches}
use Rattle.source_reads.specs.declared.SourceRead.{SourceRead}
use Rattle.simplex_methylation.specs.Simplex.{Setting, is_letter, informative, base_is, is_aligned, looked, shows, shows_aligned, shown, added, AddedAs}
use Rattle.simplex_methylation.proofs.Counts.{fewer_places, by_place}

pub within : (read : SourceRead) (size : ℕ) → read_leaves size read ≡ false → read.offset + read.length ≤ size
unfolding read_leaves
within read size e = stays read.offset read.length size e

-- A part of so many elements, as many as there are from the offset on, or fewer; and a base and a mark of it.
module _ (o n : ℕ) (xs : List ℕ) (fits : n ≤ length xs - o) where
  pub part_length : length (part o n xs) ≡ n
  unfolding part leaves
  part_length = go (ltb (length xs) (o + n)) refl
    where
      go : (b : Bool) → ltb (length xs) (o + n) ≡ b → length (cond b [] (take n (drop o xs))) ≡ n
      go true e = omega (arith, ltb-true (length xs) (o + n) e)
      go false e = simp (length-take, length-drop) (omega (arith, ltb-false (length xs) (o + n) e))

  module _ (i : ℕ) (l : i < n) where
    part_at : get_or (part o n xs) i 0 ≡ get_or xs (o + i) 0
    unfolding part leaves
    part_at = go (ltb (length xs) (o + n)) refl
      where
        go : (b : Bool) → ltb (length xs) (o + n) ≡ b → get_or (cond b [] (take n (drop o xs))) i 0 ≡ get_or xs (o + i) 0
        go true e = absurd (omega (arith, ltb-true (length xs) (o + n) e))
        go false e = get_or-take n (drop o xs) i 0 l ∙ get_or-drop o xs i 0

    same_base : (letter : ℕ) → shows letter (part o n xs) i ≡ base_is letter xs o i
    unfolding base_is
    same_base letter = ap (λ (base : ℕ). is_letter letter base) part_at

    same_look : (letter : ℕ) (reference : List ℕ) → (informative letter reference i && not (eqb (get_or (part o n xs) i 0) 0)) ≡ looked letter reference xs o i
    unfolding looked is_aligned
    same_look letter reference = ap (λ (mark : ℕ). informative letter reference i && not (eqb mark 0)) part_at

-- A read's first bases, as far as it goes.
pub own_length :
    (read : SourceRead) (bytes : List ℕ) {places : ℕ} {bases : List ℕ}
    → read_leaves (length bytes) read ≡ false
    → places ≤ read.length
    → bases ≡ part read.offset places bytes
    → length bases ≡ places
own_length read bytes {places} e h own = ap length own ∙ part_length read.offset places bytes (omega (arith, within read (length bytes) e))

-- No reference base is the pattern's where there is none.
none_informative : (pattern : ConversionPattern) → is_letter (pattern_bases pattern).reference 0 ≡ false
unfolding is_letter upper
none_informative CToT = refl
none_informative GToA = refl

module _ (s : Setting) (read : SourceRead) where
  abbrev letter_of : ℕ
  letter_of = (pattern_bases s.pattern).reference

  module _ (aligned : List ℕ) where
    past_reference : (i : ℕ) → length s.reference ≤ i → looked letter_of s.reference aligned read.offset i ≡ false
    unfolding looked informative
    past_reference i h = rw (get_or-eq_default s.reference 0 {n = i} h, none_informative s.pattern)

    past_marks : (i : ℕ) → length aligned ≤ read.offset + i → looked letter_of s.reference aligned read.offset i ≡ false
    unfolding looked is_aligned
    past_marks i h = rw (get_or-eq_default aligned 0 {n = read.offset + i} h) (and-false (informative letter_of s.reference i))

  module _ (inside : read_leaves (length s.bytes) read ≡ false) where
    reached : (i : ℕ) → i < read.length → reaches s.bytes i read ≡ true
    unfolding reaches
    reached i h = rw (inside, lt-ltb i read.length h)

    past_read : (i : ℕ) → read.length ≤ i → reaches s.bytes i read ≡ false
    unfolding reaches
    past_read i h = rw (inside, le-ltb i read.length h)

    module _ (n letter : ℕ) (xs : List ℕ) (room : n ≤ length xs) where
      -- What is added by the definition.
      abbrev Whole : List ℕ
      Whole = put (added n (λ i. shown s letter i read) xs) xs

      in_everywhere :
          {places : ℕ} {bases : List ℕ}
          → s.aligned ≡ None
          → places ≡ min n read.length
          → bases ≡ part read.offset places s.bytes
          → put (added (length bases) (shows letter bases) xs) xs ≡ Whole
      unfolding shown
      in_everywhere {places} e p b =
          let fits : places ≤ length s.bytes - read.offset = omega (arith, within read (length s.bytes) inside) in
          rw (b, part_length read.offset places s.bytes fits)
          (fewer_places (shows letter (part read.offset places s.bytes)) _ xs (omega arith) room
          (λ i l. same_base read.offset places s.bytes fits i l letter ∙ rw (reached i (omega arith), e) refl)
          (λ i o l. rw (past_read i (omega arith))))

      in_aligned :
          {places reach : ℕ} {aligned bases marks : List ℕ}
          → s.aligned ≡ Some aligned
          → reach ≡ min n read.length
          → places ≡ min (min reach (length s.reference)) (length aligned - read.offset)
          → bases ≡ part read.offset places s.bytes
          → marks ≡ part read.offset places aligned
          → put (added (length bases) (shows_aligned letter_of letter s.reference marks bases) xs) xs ≡ Whole
      unfolding shown
      in_aligned {places} {aligned = aligned} e q p b m =
          let fits : places ≤ length s.bytes - read.offset = omega (arith, within read (length s.bytes) inside) in
          let marked : places ≤ length aligned - read.offset = omega arith in
          rw (b, m, part_length read.offset places s.bytes fits)
          (fewer_places (shows_aligned letter_of letter s.reference (part read.offset places aligned) (part read.offset places s.bytes)) _ xs (omega arith) room
          (λ i l. ap₂ (λ (x y : Bool). x && y) (same_look read.offset places aligned marked i l letter_of s.reference) (same_base read.offset places s.bytes fits i l letter) ∙ rw (reached i (omega arith), e) refl)
          (λ i o l. by_place i read.length
          (λ in_read. by_place i (length s.reference)
          (λ in_reference. rw (e, past_marks aligned i (omega arith)) (and-false (reaches s.bytes i read)))
          (λ past. rw (e, past_reference aligned i past) (and-false (reaches s.bytes i read))))
          (λ past. rw (past_read i past))))

    -- The same for both counts. b are the letters that the code has.
    module _
        (n places : ℕ) (us cs : List ℕ) (us' cs' : List ℕ) {b : PatternBases}
        (letters : b ≡ pattern_bases s.pattern) (roomᵘ : n ≤ length us) (roomᶜ : n ≤ length cs)
        {bases : List ℕ} (own : bases ≡ part read.offset places s.bytes)
      where
        pub added_everywhere :
            s.aligned ≡ None
            → places ≡ min n read.length
            → us' ≡ put (added (length bases) (shows b.unconverted bases) us) us
            → cs' ≡ put (added (length bases) (shows b.converted bases) cs) cs
            → AddedAs s read n us cs us' cs'
        added_everywhere e p u c = record {
          unconverted_ones = rw letters at u ∙ in_everywhere n _ us roomᵘ e p own;
          converted_ones = rw letters at c ∙ in_everywhere n _ cs roomᶜ e p own;
        }

        pub added_aligned :
            {reach : ℕ} {aligned marks : List ℕ}
            → s.aligned ≡ Some aligned
            → reach ≡ min n read.length
            → places ≡ min (min reach (length s.reference)) (length aligned - read.offset)
            → marks ≡ part read.offset places aligned
            → us' ≡ put (added (length bases) (shows_aligned b.reference b.unconverted s.reference marks bases) us) us
            → cs' ≡ put (added (length bases) (shows_aligned b.reference b.converted s.reference marks bases) cs) cs
            → AddedAs s read n us cs us' cs'
        added_aligned e q p m u c = record {
          unconverted_ones = simp letters at u ∙ in_aligned n _ us roomᵘ e q p own m;
          converted_ones = simp letters at c ∙ in_aligned n _ cs roomᶜ e q p own m;
        }
