-- The refusal of a call that tests the sequence and the evidence first, and the room of its outputs after.
--     as_long                      what the first test leaves
--     refused_given, refused_room, all_written     what the call answers and leaves, by the test that refused it, or by none
-- Assumes nothing.
use mathlib.Core.Path.{◌≡◌, refl, sym, ◌∙◌}
use mathlib.Core.Bool.{Bool, true, false, cond, ◌||◌}
use mathlib.Core.List.{List}
use Prim.Native.Nat.{ℕ, ◌≤◌}
use lib.Dec.{ltb}
use lib.ListN.{length}
use borrow.Author.Tests.{ltb-false}
use Rattle.std.proofs.Common.{Option, Some, None, Ok, Err}
use Rattle.std.proofs.lemmas.Option.{none-some}
use Rattle.refusals.specs.declared.Refusal.{Refusal}
use Rattle.refusals.specs.declared.Refusal.TheVariants.{TooLong, Ragged, OutputTooShort}
use Rattle.refusals.specs.Refusal.{refused}
use Rattle.refusals.proofs.Condition.{Every, neither}
use Rattle.methylation.specs.Methylation.{is_annotated}
use Rattle.methylation.specs.declared.MethylationMode.{MethylationMode}
use Rattle.methylation.specs.Arrays.{evidence_lengths, evidence_uneven, three}
use Rattle.methylation.proofs.Arrays.{as_many_as, where_annotated}
use Rattle.duplex_texts.specs.Texts.{StrandAnnotation, TextArrays, duplex_texts}
use Rattle.duplex_texts.specs.Outputs.{text_lengths, strand_lengths, RoomTexts, long, uneven, given_of, texts_too_short, room_faults, texts_refused, LeavesTexts, DuplexTextsAs}
use Rattle.duplex_texts.specs.Parts.{AsLong}
use Rattle.duplex_texts.specs.declared.TextLengths.{TextLengths}

strand_as_long : (n : ℕ) (s : StrandAnnotation) → n ≤ 1024 → uneven n (strand_lengths s) ≡ false → AsLong n s
strand_as_long n s few e =
    let same : is_annotated s.annotation ≡ true → Every (λ k. k ≡ n) (three (evidence_lengths s.evidence)) = λ h. as_many_as n (evidence_lengths s.evidence) (where_annotated (evidence_uneven n) s.annotation s.evidence e h) in
    record {
      few = few;
      marks = λ h. (same h).0;
      unconverted = λ h. (same h).1.0;
      converted = λ h. (same h).1.1.0;
    }

-- Of the first two tests.
clear : (large odd : Bool) → cond large (Some TooLong) (cond odd (Some Ragged) None) ≡ None → (large ≡ false) × (odd ≡ false)
clear true odd e = absurd (none-some _ (sym e))
clear false true e = absurd (none-some _ (sym e))
clear false false e = (refl, refl)

module _ (n : ℕ) (a b : StrandAnnotation) where
  abbrev pub is_long : Bool
  is_long = ltb 1024 n || (long (strand_lengths a) || long (strand_lengths b))

  abbrev pub is_uneven : Bool
  is_uneven = uneven n (strand_lengths a) || uneven n (strand_lengths b)

pub as_long : (bases : List ℕ) (a b : StrandAnnotation) → refused (given_of bases a b) ≡ None → AsLong (length bases) a × AsLong (length bases) b
as_long bases a b e =
    let n = length bases in
    let (short, even) = clear (is_long n a b) (is_uneven n a b) e in
    let few = ltb-false 1024 n (neither (ltb 1024 n) _ short).0 in
    let (first, second) = neither (uneven n (strand_lengths a)) (uneven n (strand_lengths b)) even in
    (strand_as_long n a few first, strand_as_long n b few second)

module _ (mode : MethylationMode) (bases : List ℕ) (a b : StrandAnnotation) (before : TextArrays) where
  -- The room is tested where neither of the first two is met.
  by_given : {row : Refusal} → refused (given_of bases a b) ≡ Some row → texts_refused mode bases a b before ≡ Some row
  by_given e = go (is_long (length bases) a b) (is_uneven (length bases) a b) _ e
    where
      go : (large odd : Bool) (room : Option Refusal) {row : Refusal} → cond large (Some TooLong) (cond odd (Some Ragged) None) ≡ Some row → cond large (Some TooLong) (cond odd (Some Ragged) room) ≡ Some row
      go true odd room e = e
      go false true room e = e
      go false false room e = absurd (none-some _ e)

  by_room : refused (given_of bases a b) ≡ None → texts_refused mode bases a b before ≡ refused (room_faults (text_lengths (duplex_texts mode bases a b)) (text_lengths before))
  by_room e =
      let (short, even) = clear (is_long (length bases) a b) (is_uneven (length bases) a b) e in
      rw (short, even)

  untouched : {row : Refusal} → texts_refused mode bases a b before ≡ Some row → DuplexTextsAs mode bases a b before before (Err row)
  untouched e = record { answered = rw e; outputs = rw e (record { seq = refl; a_mm = refl; b_mm = refl; mm = refl; ml = refl }) }

  pub refused_given : {row : Refusal} → refused (given_of bases a b) ≡ Some row → DuplexTextsAs mode bases a b before before (Err row)
  refused_given e = untouched (by_given e)

  module _ (e : refused (given_of bases a b) ≡ None) {needed : TextLengths} (n : needed ≡ text_lengths (duplex_texts mode bases a b)) where
    pub refused_room : texts_too_short needed (text_lengths before) ≡ true → DuplexTextsAs mode bases a b before before (Err OutputTooShort)
    refused_room s = untouched (by_room e ∙ rw (rw n at s))

    pub all_written : {now : TextArrays} → texts_too_short needed (text_lengths before) ≡ false → LeavesTexts None (duplex_texts mode bases a b) before now → DuplexTextsAs mode bases a b before now (Ok needed)
    all_written s l =
        let passed : texts_refused mode bases a b before ≡ None = by_room e ∙ rw (rw n at s) in
        record { answered = rw (passed, n); outputs = rw passed l }

pub enough_room : (needed out : TextLengths) → texts_too_short needed out ≡ false → RoomTexts needed out
enough_room needed out e =
    let (h1, r1) = neither _ _ e in
    let (h2, r2) = neither _ _ r1 in
    let (h3, r3) = neither _ _ r2 in
    let (h4, h5) = neither _ _ r3 in
    record {
      seq = ltb-false _ _ h1;
      a_mm = ltb-false _ _ h2;
      b_mm = ltb-false _ _ h3;
      mm = ltb-false _ _ h4;
      ml = ltb-false _ _ h5;
    }
