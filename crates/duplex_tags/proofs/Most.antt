-- For callers: with outputs that are long enough for any tags, row 12 never refuses. Assumes nothing.
use mathlib.Core.Path.{◌≡◌, refl, sym, ◌∙◌}
use mathlib.Core.Bool.{false}
use mathlib.Core.List.{List}
use Prim.Native.Nat.{ℕ}
use native.Mathlib.Omega.{arith}
use borrow.Author.Tests.{le-ltb}
use lib.ListN.{length}
use Rattle.refusals.specs.declared.Refusal.{Refusal}
use Rattle.refusals.specs.Refusal.{refused}
use Rattle.methylation.specs.declared.MethylationMode.{MethylationMode}
use Rattle.duplex_texts.specs.Texts.{StrandAnnotation, TextArrays}
use Rattle.duplex_texts.specs.Outputs.{text_lengths, strand_lengths, RoomTexts, given_of, most_texts}
use Rattle.duplex_texts.proofs.Refused.{as_long}
use Rattle.duplex_texts.proofs.Most.{texts_fit}
use Rattle.duplex_tags.specs.Tags.{KindArrays, CountArrays}
use Rattle.duplex_tags.specs.Outputs.{kind_lengths, RoomKind, kind_too_short, duplex_refused, most_counts}
use Rattle.duplex_tags.specs.Parts.{needed_counts}
use Rattle.duplex_tags.proofs.Counts.{few_places, places_by}
use Rattle.duplex_tags.proofs.Refused.{own_is, by_given}
use Rattle.std.proofs.Common.{Option, Some, None}
use Rattle.methylation.specs.Arrays.{evidence_places}

kind_fits : (n : ℕ) (a b : StrandAnnotation) (out : KindArrays) → RoomKind (most_counts n) (kind_lengths out) → kind_too_short (needed_counts n (strand_lengths a) (strand_lengths b)) (kind_lengths out) ≡ false
kind_fits n a b out ample =
    let few_a = few_places a.annotation n in
    let few_b = few_places b.annotation n in
    rw (places_by a.annotation n a.evidence, places_by b.annotation n b.evidence, le-ltb (length out.a) (evidence_places a.annotation n) (omega (arith, ample.a)), le-ltb (length out.b) (evidence_places b.annotation n) (omega (arith, ample.b)), le-ltb (length out.both) n ample.both)

-- Only the sequence and the evidence decide.
pub ample_outputs :
    (mode : MethylationMode) (bases : List ℕ) (a b : StrandAnnotation) (texts : TextArrays) (counts : CountArrays)
    → RoomTexts (most_texts (length bases)) (text_lengths texts)
    → RoomKind (most_counts (length bases)) (kind_lengths counts.unconverted)
    → RoomKind (most_counts (length bases)) (kind_lengths counts.converted)
    → duplex_refused mode bases a b texts counts ≡ refused (given_of bases a b)
ample_outputs mode bases a b texts counts for_texts for_unconverted for_converted = go (refused (given_of bases a b)) refl
  where
    go : (row : Option Refusal) → refused (given_of bases a b) ≡ row → duplex_refused mode bases a b texts counts ≡ refused (given_of bases a b)
    go None g =
        let few = (as_long bases a b g).0.few in
        let short = texts_fit mode bases a b few texts for_texts in
        let room = rw (kind_fits (length bases) a b counts.unconverted for_unconverted, kind_fits (length bases) a b counts.converted for_converted) at (own_is mode bases a b texts counts g) in
        rw (short, sym room)
    go (Some row) g = by_given mode bases a b texts counts g ∙ sym g
