-- `duplex_tags::duplex_methylation_tags` meets its contract: refused by its own test or by that of the texts, or all is written.
-- Assumes nothing.
use mathlib.Core.Path.{◌≡◌, sym, ◌∙◌}
use mathlib.Core.List.{List}
use Prim.Native.Nat.{ℕ}
use lib.ListN.{length}
use Rattle.std.proofs.Common.{None}
use Rattle.std.proofs.lemmas.Result.{err_from_is_err_and}
use Rattle.refusals.proofs.Outcome.{refused_by, passed_by}
use Rattle.duplex_texts.specs.Lent.{texts_out}
use Rattle.duplex_texts.specs.Texts.{StrandAnnotation, TextArrays, strand_in}
use Rattle.duplex_texts.specs.Outputs.{strand_lengths}
use Rattle.duplex_texts.specs.Parts.{AsLong}
use Rattle.duplex_texts.proofs.Refused.{as_long}
use Rattle.duplex_tags.specs.Lent.{counts_out}
use Rattle.duplex_tags.specs.Tags.{CountArrays, kind_counts}
use Rattle.duplex_tags.specs.Outputs.{RoomKind, kind_lengths}
use Rattle.duplex_tags.specs.Parts.{needed_counts}
use Rattle.duplex_tags.specs.declared.KindLengths.{KindLengths}
use Rattle.duplex_tags.proofs.Counts.{unconverted_seen, converted_seen, countable}
use Rattle.duplex_tags.proofs.Refused.{by_own, refused_first, passed_first, refused_texts, all_written, enough_room}
use Rattle.duplex_tags.proofs.duplex_methylation_tags.Goals as goal
use Rattle.duplex_tags.proofs.duplex_methylation_tags.Goals.{In_ok-counts_refusal}

pub returns-in_err-counts_refusal-clause-tagged : goal.returns-in_err-counts_refusal-clause-tagged
returns-in_err-counts_refusal-clause-tagged c =
    let texts = texts_out c.args.texts.now in
    let counts = counts_out c.args.unconverted.now c.args.converted.now in
    let told = rw (c.lengths_of.ensures, c.lengths_of-2.ensures, c.lengths.ensures, c.lengths-2.ensures) at (sym c.counts_refusal.ensures) in
    let p = err_from_is_err_and c.from_residual.result c.from_residual.ensures.1 in
    rw (p.1, p.2) (refused_first c.args.mode c.args.bases.now (strand_in c.args.a) (strand_in c.args.b) texts counts (refused_by _ _ (told ∙ c.in_err-counts_refusal.was)))

-- Where its own test refuses nothing: how long the evidence is, and that there is room for the counts.
module _ (c : In_ok-counts_refusal) where
  abbrev bases : List ℕ
  bases = c.args.bases.now

  abbrev a : StrandAnnotation
  a = strand_in c.args.a

  abbrev b : StrandAnnotation
  b = strand_in c.args.b

  abbrev texts : TextArrays
  texts = texts_out c.args.texts.now

  abbrev counts : CountArrays
  counts = counts_out c.args.unconverted.now c.args.converted.now

  abbrev needed : KindLengths
  needed = needed_counts (length bases) (strand_lengths a) (strand_lengths b)

  passed : by_own c.args.mode bases a b texts counts ≡ None
  passed =
      let told = rw (c.lengths_of.ensures, c.lengths_of-2.ensures, c.lengths.ensures, c.lengths-2.ensures) at (sym c.counts_refusal.ensures) in
      (passed_by _ _ (told ∙ c.in_ok-counts_refusal.was)).0

  long : AsLong (length bases) a × AsLong (length bases) b
  long = as_long bases a b (passed_first c.args.mode bases a b texts counts passed).0

  room : RoomKind needed (kind_lengths counts.unconverted) × RoomKind needed (kind_lengths counts.converted)
  room = enough_room _ (kind_lengths counts.unconverted) (kind_lengths counts.converted) (passed_first c.args.mode bases a b texts counts passed).1

pub returns-in_err-lengths-clause-tagged : goal.returns-in_err-lengths-clause-tagged
returns-in_err-lengths-clause-tagged c =
    let p = err_from_is_err_and c.from_residual-in_err-lengths.result c.from_residual-in_err-lengths.ensures.1 in
    rw (p.1, p.2) (refused_texts _ _ _ _ _ _ (passed (goal.at.returns-in_err-lengths-clause-tagged c).In_ok-counts_refusal) (rw c.in_err-lengths.was at c.duplex_texts.ensures.texts))

pub write_counts-requires-2-clause-of_b : goal.write_counts-requires-2-clause-of_b
write_counts-requires-2-clause-of_b c =
    let here = (goal.at.write_counts-requires-2-clause-of_b c).In_ok-counts_refusal in
    countable _ _ _ (long here).1.converted (long here).1.few (b here).evidence (converted_seen c.args.b c.evidence_of-b_counts.ensures) (room here).1.b

pub write_counts-requires-2-clause-of_both : goal.write_counts-requires-2-clause-of_both
write_counts-requires-2-clause-of_both c =
    let here = (goal.at.write_counts-requires-2-clause-of_both c).In_ok-counts_refusal in
    record { few = (long here).0.few; room = (room here).1.both }

pub returns-clause-tagged : goal.returns-clause-tagged
unfolding kind_counts
returns-clause-tagged c =
    let for_unconverted = rw (unconverted_seen c.args.a c.evidence_of-a_counts.ensures, unconverted_seen c.args.b c.evidence_of-b_counts.ensures) at c.write_counts.ensures.written in
    let for_converted = rw (converted_seen c.args.a c.evidence_of-a_counts.ensures, converted_seen c.args.b c.evidence_of-b_counts.ensures) at c.write_counts-2.ensures.written in
    all_written _ _ _ _ _ _ (passed (goal.at.returns-clause-tagged c).In_ok-counts_refusal) (rw c.in_ok-lengths.was at c.duplex_texts.ensures.texts) (record { unconverted = for_unconverted; converted = for_converted })
