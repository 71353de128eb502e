-- The refusal of a call that tests the sequence, the evidence and the outputs of counts itself, and leaves those of the texts to
-- `duplex_texts`.
--     needed_lengths               how many counts go to each output
--     given_first                  its first test is that of `duplex_texts`
--     refused_first, refused_texts, all_written     what the call answers and leaves, by the test that refused it, or by none
--     met_first, by_texts          the refusal, by its own test, and by that of the texts where its own refuses nothing
--     passed_first                 what its own test leaves
--     enough_room                  the room that it leaves
-- Assumes nothing.
use mathlib.Core.Path.{◌≡◌, refl, sym, ap, ap₂, ◌∙◌}
use mathlib.Core.Bool.{Bool, true, false, cond, ◌||◌, or-true, or-false}
use mathlib.Core.List.{List}
use Prim.Native.Nat.{ℕ}
use lib.ListN.{length}
use borrow.Author.Tests.{ltb-false}
use Rattle.std.proofs.Common.{Option, Some, None, Ok, Err}
use Rattle.std.proofs.lemmas.Option.{none-some}
use Rattle.refusals.specs.declared.Refusal.{Refusal}
use Rattle.refusals.specs.declared.Refusal.TheVariants.{TooLong, Ragged, OutputTooShort}
use Rattle.refusals.specs.Refusal.{refused}
use Rattle.refusals.proofs.Condition.{neither}
use Rattle.methylation.specs.Methylation.{is_annotated}
use Rattle.methylation.specs.declared.EvidenceLengths.{EvidenceLengths}
use Rattle.methylation.specs.declared.MethylationMode.{MethylationMode}
use Rattle.methylation_evidence.proofs.Counts.{summed_length}
use Rattle.refusals.proofs.Outcome.{refused_by, passed_by}
use Rattle.duplex_texts.specs.Texts.{StrandAnnotation, TextArrays, duplex_texts}
use Rattle.duplex_texts.specs.Outputs.{text_lengths, strand_lengths, given_faults, given_of, texts_too_short, texts_refused, DuplexTextsAs}
use Rattle.duplex_texts.specs.declared.TextLengths.{TextLengths}
use Rattle.duplex_texts.proofs.Refused.{is_long, is_uneven, as_long}
use Rattle.duplex_tags.specs.Tags.{CountArrays, counts_of, kind_counts, duplex_counts}
use Rattle.duplex_tags.specs.Outputs.{kind_lengths, RoomKind, kind_too_short, counts_too_short, duplex_refused, LeavesCounts, DuplexTaggedAs}
use Rattle.duplex_tags.specs.Parts.{needed_counts, counts_refused}
use Rattle.duplex_tags.specs.declared.KindLengths.{KindLengths}
use Rattle.duplex_tags.proofs.Counts.{tag_length, places_by}

pub needed_lengths :
    (n : ℕ) (a b : StrandAnnotation) (xs ys : List ℕ)
    → (is_annotated a.annotation ≡ true → length xs ≡ n)
    → (is_annotated b.annotation ≡ true → length ys ≡ n)
    → needed_counts n (strand_lengths a) (strand_lengths b) ≡ kind_lengths (kind_counts n a.annotation xs b.annotation ys)
unfolding kind_counts
needed_lengths n a b xs ys for_a for_b =
    rw
    (places_by a.annotation n a.evidence, places_by b.annotation n b.evidence, tag_length a.annotation n xs for_a, tag_length b.annotation n ys for_b, summed_length n (counts_of a.annotation xs) (counts_of b.annotation ys))

-- A call's three tests, one after another.
abbrev rows : Bool → Bool → Bool → Option Refusal
rows large odd short = cond large (Some TooLong) (cond odd (Some Ragged) (cond short (Some OutputTooShort) None))

-- The first two alone.
abbrev two : Bool → Bool → Option Refusal
two large odd = cond large (Some TooLong) (cond odd (Some Ragged) None)

-- What refuses by the first two refuses whatever the third.
still : (large odd short : Bool) {row : Refusal} → two large odd ≡ Some row → rows large odd short ≡ Some row
still true odd short e = e
still false true short e = e
still false false short e = absurd (none-some _ e)

-- Where all three tests refuse nothing.
none_met : (large odd short : Bool) → rows large odd short ≡ None → (two large odd ≡ None) × (short ≡ false)
none_met true odd short e = absurd (none-some _ (sym e))
none_met false true short e = absurd (none-some _ (sym e))
none_met false false true e = absurd (none-some _ (sym e))
none_met false false false e = (refl, refl)

-- The call's own third test f is one part of the whole's, and the other's is the rest.
module _ (large odd s f own : Bool) (same : two large odd ≡ None → own ≡ f) where
  first_met : {row : Refusal} → rows large odd own ≡ Some row → rows large odd (s || f) ≡ Some row
  first_met e = go large odd own same e
    where
      go : (l o w : Bool) {row : Refusal} → (two l o ≡ None → w ≡ f) → rows l o w ≡ Some row → rows l o (s || f) ≡ Some row
      go true o w h e = e
      go false true w h e = e
      go false false true h e = rw (sym (h refl), or-true s) e
      go false false false h e = absurd (none-some _ e)

  rest_left : own ≡ false → two large odd ≡ None → rows large odd s ≡ rows large odd (s || f)
  rest_left o e = rw (sym (same e) ∙ o, or-false s)

pub given_first : (n : ℕ) (a b : Option EvidenceLengths) (unconverted converted : KindLengths) {row : Refusal} → refused (given_faults n a b) ≡ Some row → counts_refused n a b unconverted converted ≡ Some row
given_first n a b unconverted converted e = still _ _ _ e

module _ (mode : MethylationMode) (bases : List ℕ) (a b : StrandAnnotation) (texts : TextArrays) (counts : CountArrays) where
  abbrev large : Bool
  large = is_long (length bases) a b

  abbrev odd : Bool
  odd = is_uneven (length bases) a b

  abbrev short : Bool
  short = texts_too_short (text_lengths (duplex_texts mode bases a b)) (text_lengths texts)

  abbrev few : Bool
  few = counts_too_short (duplex_counts (length bases) a b) counts

  -- What the call's own test looks at is what is written, where the sequence and the evidence are not refused.
  abbrev needed_by : KindLengths
  needed_by = needed_counts (length bases) (strand_lengths a) (strand_lengths b)

  abbrev pub own : Bool
  own = kind_too_short needed_by (kind_lengths counts.unconverted) || kind_too_short needed_by (kind_lengths counts.converted)

  abbrev pub by_own : Option Refusal
  by_own = counts_refused (length bases) (strand_lengths a) (strand_lengths b) (kind_lengths counts.unconverted) (kind_lengths counts.converted)

  pub own_is : refused (given_of bases a b) ≡ None → own ≡ few
  own_is z =
      let (for_a, for_b) = as_long bases a b z in
      ap₂ ◌||◌
      (ap (λ (k : KindLengths). kind_too_short k (kind_lengths counts.unconverted)) (needed_lengths (length bases) a b a.evidence.unconverted b.evidence.unconverted for_a.unconverted for_b.unconverted))
      (ap (λ (k : KindLengths). kind_too_short k (kind_lengths counts.converted)) (needed_lengths (length bases) a b a.evidence.converted b.evidence.converted for_a.converted for_b.converted))

  kept : {row : Refusal} → LeavesCounts (Some row) (duplex_counts (length bases) a b) counts counts
  kept = record { unconverted = record { a = refl; b = refl; both = refl }; converted = record { a = refl; b = refl; both = refl } }

  -- Refused by the sequence or the evidence.
  pub by_given : {row : Refusal} → refused (given_of bases a b) ≡ Some row → duplex_refused mode bases a b texts counts ≡ Some row
  by_given e = still large odd (short || few) e

  pub met_first : {row : Refusal} → by_own ≡ Some row → duplex_refused mode bases a b texts counts ≡ Some row
  met_first e = first_met large odd short few own own_is e

  pub refused_first : {row : Refusal} → by_own ≡ Some row → DuplexTaggedAs mode bases a b texts counts texts counts (Err row)
  refused_first e =
      let met = met_first e in
      record { answered = rw met; the_texts = rw met (record { seq = refl; a_mm = refl; b_mm = refl; mm = refl; ml = refl }); the_counts = rw met kept }

  pub passed_first : by_own ≡ None → (refused (given_of bases a b) ≡ None) × (own ≡ false)
  passed_first e = none_met large odd own e

  -- Then the refusal is that of the texts.
  module _ (e : by_own ≡ None) where
    pub by_texts : texts_refused mode bases a b texts ≡ duplex_refused mode bases a b texts counts
    by_texts =
        let (given, room) = passed_first e in
        rest_left large odd short few own own_is room given

    pub refused_texts : {now : TextArrays} {row : Refusal} → DuplexTextsAs mode bases a b texts now (Err row) → DuplexTaggedAs mode bases a b texts counts now counts (Err row)
    refused_texts t =
        let all = rw by_texts at t.answered in
        record { answered = all; the_texts = rw by_texts at t.outputs; the_counts = rw (refused_by _ _ (sym all)) kept }

    pub all_written :
        {now : TextArrays} {n : TextLengths} {counts_now : CountArrays}
        → DuplexTextsAs mode bases a b texts now (Ok n)
        → LeavesCounts None (duplex_counts (length bases) a b) counts counts_now
        → DuplexTaggedAs mode bases a b texts counts now counts_now (Ok n)
    all_written t l =
        let all = rw by_texts at t.answered in
        record { answered = all; the_texts = rw by_texts at t.outputs; the_counts = rw (passed_by _ _ (sym all)).0 l }

kind_room : (needed out : KindLengths) → kind_too_short needed out ≡ false → RoomKind needed out
kind_room needed out e =
    let (h1, r1) = neither _ _ e in
    let (h2, h3) = neither _ _ r1 in
    record { a = ltb-false _ _ h1; b = ltb-false _ _ h2; both = ltb-false _ _ h3 }

pub enough_room : (needed unconverted converted : KindLengths) → (kind_too_short needed unconverted || kind_too_short needed converted) ≡ false → RoomKind needed unconverted × RoomKind needed converted
enough_room needed unconverted converted e =
    let (h, k) = neither _ _ e in
    (kind_room needed unconverted h, kind_room needed converted k)
