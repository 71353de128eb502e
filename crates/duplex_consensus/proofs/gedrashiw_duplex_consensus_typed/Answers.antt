-- `duplex_consensus::gedrashiw_duplex_consensus_typed` meets its contract: a strand whose annotation is wrong is turned down, then a
-- ceiling that is outside, then a strand that is too long or over the limit; else what is made without the list is as it is promised once
-- the list's errors are counted. Assumes nothing.
use mathlib.Core.Path.{◌≡◌, refl, sym, ap, ◌∙◌}
use mathlib.Core.Bool.{Bool, true, false, ◌||◌}
use lib.ListN.{length}
use Rattle.std.proofs.Common.{Ok, Err, rules}
use Rattle.std.specs.Prelude.{is_some}
use Rattle.methylation.specs.Choices.{annotation_of}
use Rattle.settings.specs.Settings.{given_of as settings_of}
use Rattle.settings.specs.declared.GivenSettings.{GivenSettings}
use Rattle.settings.proofs.Tested.{passed, turned_down, told_broken, told_outside, told_passed}
use Rattle.replies.specs.Choices.{yes}
use Rattle.replies.proofs.Replied.{refused_by, not_refused}
use Rattle.vanilla_caller.specs.Strand.{arrays, arrays_seen}
use Rattle.methylation.specs.Outputs.{evidence_out}
use Rattle.duplex_outputs.specs.Lent.{record_out}
use Rattle.duplex_outputs.specs.Outputs.{record_of}
use Rattle.duplex_kind.specs.Kind.{given_of}
use Rattle.duplex_kind.specs.Limit.{lengths_of, length_faults}
use Rattle.duplex_kind.proofs.Limit.{lengths_passed, lengths_refused}
use Rattle.duplex_consensus.specs.Consensus.{counted_positions, given_in}
use Rattle.duplex_reply.proofs.Strand.{told_as}
use Rattle.duplex_reply.specs.Strand.{told_by, strand_by, wrong_strand, told_strand}
use Rattle.source_reads.specs.Arrays.{CombinedArrays}
use Rattle.source_reads.specs.Reads.{any_leaves, counted_errors}
use Rattle.duplex_consensus.proofs.Made.{counted_as}
use Rattle.duplex_consensus.proofs.Replied.{refused_in, read_in, given_by, is_listed, list_by, limit_told, numbered}
use Rattle.duplex_consensus.proofs.gedrashiw_duplex_consensus_typed.Goals as goal

pub returns : goal.returns
returns c =
    let a = c.args in
    let m = a.molecule in
    let lab = m.settings in
    let x = arrays a.a_bases.now a.a_quals.now a.a_depths.now a.a_errors.now a.a_marks.now a.a_unconverted.now a.a_converted.now in
    let y = arrays a.b_bases.now a.b_quals.now a.b_depths.now a.b_errors.now a.b_marks.now a.b_unconverted.now a.b_converted.now in
    let r = c.duplex_record-made.new in
    let told_a : strand_by m.a.present m.a.annotation (arrays_seen (annotation_of m.a.annotation) x) ≡ Ok (given_of c.in-Ok.a) = sym (told_as m.a.present m.a.annotation c.new-a.result c.new-a_evidence.result c.strand_in.ensures c.new-a.ensures.arrays c.new-a_evidence.ensures) ∙ ap told_by c.in-Ok.is in
    let told_b : strand_by m.b.present m.b.annotation (arrays_seen (annotation_of m.b.annotation) y) ≡ Ok (given_of c.in-Ok-strand_in.b) = sym (told_as m.b.present m.b.annotation c.new-b.result c.new-b_evidence.result c.strand_in-2.ensures c.new-b.ensures.arrays c.new-b_evidence.ensures) ∙ ap told_by c.in-Ok-strand_in.is in
    let (none, same) = passed lab c.tested.result c.tested.ensures c.in-Ok-tested.settings c.in-Ok-tested.is in
    let list = c.given_list-list.ensures ∙ ap given_in c.then_some.ensures ∙ given_by (yes m.listed) _ in
    let made = list_by (settings_of c.in-Ok-tested.settings) (given_of c.in-Ok.a) (given_of c.in-Ok-strand_in.b) (yes m.listed) (length a.reads.now) (any_leaves (length a.bytes.now) a.reads.now) list c.duplex_record-made.ensures.made in
    let there = ap is_some list ∙ is_listed (yes m.listed) (length a.reads.now) (any_leaves (length a.bytes.now) a.reads.now) in
    let counted =
    numbered lab (yes m.listed) a.reads.now a.bytes.now _ _ _ m.a.present m.a.annotation m.b.present m.b.annotation x y told_a told_b
    (counted_as lab (given_of c.in-Ok.a) (given_of c.in-Ok-strand_in.b) (yes m.listed) a.reads.now a.bytes.now
    (record_of a.bases_out.now a.quals_out.now a.errors_out.now a.a_marks_out.now a.a_unconverted_out.now a.a_converted_out.now a.b_marks_out.now a.b_unconverted_out.now a.b_converted_out.now)
    (record_out r.out (evidence_out r.a_out) (evidence_out r.b_out))
    refl (rw same at made) (c.counted_positions.ensures ∙ ap (λ (l : Bool). counted_positions l c.duplex_record-made.result) (c.is_some.ensures ∙ there))
    (c.count_read_errors.ensures ∙ ap (λ (s : CombinedArrays). counted_errors a.reads.now a.bytes.now s r.out.errors.now) c.combined_bases-s.ensures)) in
    let right : (wrong_strand m.a.present m.a.annotation || wrong_strand m.b.present m.b.annotation) ≡ false =
    rw (read_in m.a.present m.a.annotation _ told_a, read_in m.b.present m.b.annotation _ told_b) in
    let u = lengths_of (told_strand m.a x) in
    let v = lengths_of (told_strand m.b y) in
    let tested = limit_told lab m.a.present m.a.annotation m.b.present m.b.annotation x y told_a told_b c.limit_refusal.ensures (ap (λ (g : GivenSettings). g.limit) same) c.strand_lengths.ensures c.strand_lengths-2.ensures in
    let within = lengths_passed lab.limit u v tested c.in_default.is in
    not_refused c.duplex_record-made.result (told_passed lab (length_faults lab.limit u v) refl right none ∙ within) c.from-2.ensures (search (rules, counted))

pub returns-in-Err : goal.returns-in-Err
returns-in-Err c =
    let a = c.args in
    let m = a.molecule in
    let x = arrays a.a_bases.now a.a_quals.now a.a_depths.now a.a_errors.now a.a_marks.now a.a_unconverted.now a.a_converted.now in
    let y = arrays a.b_bases.now a.b_quals.now a.b_depths.now a.b_errors.now a.b_marks.now a.b_unconverted.now a.b_converted.now in
    let told_a : strand_by m.a.present m.a.annotation (arrays_seen (annotation_of m.a.annotation) x) ≡ Err c.in-Err.refusal = sym (told_as m.a.present m.a.annotation c.new-a.result c.new-a_evidence.result c.strand_in.ensures c.new-a.ensures.arrays c.new-a_evidence.ensures) ∙ ap told_by c.in-Err.is in
    let (wrong, broken) = refused_in m.a.present m.a.annotation _ told_a in
    let met : (wrong_strand m.a.present m.a.annotation || wrong_strand m.b.present m.b.annotation) ≡ true = rw wrong in
    let rest = length_faults m.settings.limit (lengths_of (told_strand m.a x)) (lengths_of (told_strand m.b y)) in
    refused_by c.in-Err.refusal (told_broken m.settings rest refl met ∙ rw broken) c.from.ensures

pub returns-in-Err-strand_in : goal.returns-in-Err-strand_in
returns-in-Err-strand_in c =
    let a = c.args in
    let m = a.molecule in
    let x = arrays a.a_bases.now a.a_quals.now a.a_depths.now a.a_errors.now a.a_marks.now a.a_unconverted.now a.a_converted.now in
    let y = arrays a.b_bases.now a.b_quals.now a.b_depths.now a.b_errors.now a.b_marks.now a.b_unconverted.now a.b_converted.now in
    let told_a : strand_by m.a.present m.a.annotation (arrays_seen (annotation_of m.a.annotation) x) ≡ Ok (given_of c.in-Ok.a) = sym (told_as m.a.present m.a.annotation c.new-a.result c.new-a_evidence.result c.strand_in.ensures c.new-a.ensures.arrays c.new-a_evidence.ensures) ∙ ap told_by c.in-Ok.is in
    let told_b : strand_by m.b.present m.b.annotation (arrays_seen (annotation_of m.b.annotation) y) ≡ Err c.in-Err-strand_in.refusal = sym (told_as m.b.present m.b.annotation c.new-b.result c.new-b_evidence.result c.strand_in-2.ensures c.new-b.ensures.arrays c.new-b_evidence.ensures) ∙ ap told_by c.in-Err-strand_in.is in
    let (wrong, broken) = refused_in m.b.present m.b.annotation _ told_b in
    let met : (wrong_strand m.a.present m.a.annotation || wrong_strand m.b.present m.b.annotation) ≡ true = rw (read_in m.a.present m.a.annotation _ told_a, wrong) in
    let rest = length_faults m.settings.limit (lengths_of (told_strand m.a x)) (lengths_of (told_strand m.b y)) in
    refused_by c.in-Err-strand_in.refusal (told_broken m.settings rest refl met ∙ rw broken) c.from-in-Err-strand_in.ensures

pub returns-in-Err-tested : goal.returns-in-Err-tested
returns-in-Err-tested c =
    let a = c.args in
    let m = a.molecule in
    let x = arrays a.a_bases.now a.a_quals.now a.a_depths.now a.a_errors.now a.a_marks.now a.a_unconverted.now a.a_converted.now in
    let y = arrays a.b_bases.now a.b_quals.now a.b_depths.now a.b_errors.now a.b_marks.now a.b_unconverted.now a.b_converted.now in
    let told_a : strand_by m.a.present m.a.annotation (arrays_seen (annotation_of m.a.annotation) x) ≡ Ok (given_of c.in-Ok.a) = sym (told_as m.a.present m.a.annotation c.new-a.result c.new-a_evidence.result c.strand_in.ensures c.new-a.ensures.arrays c.new-a_evidence.ensures) ∙ ap told_by c.in-Ok.is in
    let told_b : strand_by m.b.present m.b.annotation (arrays_seen (annotation_of m.b.annotation) y) ≡ Ok (given_of c.in-Ok-strand_in.b) = sym (told_as m.b.present m.b.annotation c.new-b.result c.new-b_evidence.result c.strand_in-2.ensures c.new-b.ensures.arrays c.new-b_evidence.ensures) ∙ ap told_by c.in-Ok-strand_in.is in
    let right : (wrong_strand m.a.present m.a.annotation || wrong_strand m.b.present m.b.annotation) ≡ false = rw (read_in m.a.present m.a.annotation _ told_a, read_in m.b.present m.b.annotation _ told_b) in
    let rest = length_faults m.settings.limit (lengths_of (told_strand m.a x)) (lengths_of (told_strand m.b y)) in
    let outside = turned_down m.settings c.tested.result c.tested.ensures c.in-Err-tested.is in
    refused_by c.in-Err-tested.refusal (told_outside m.settings rest refl right outside) c.from-in-Err-tested.ensures

pub returns-in-Err-limit_refusal : goal.returns-in-Err-limit_refusal
returns-in-Err-limit_refusal c =
    let a = c.args in
    let m = a.molecule in
    let x = arrays a.a_bases.now a.a_quals.now a.a_depths.now a.a_errors.now a.a_marks.now a.a_unconverted.now a.a_converted.now in
    let y = arrays a.b_bases.now a.b_quals.now a.b_depths.now a.b_errors.now a.b_marks.now a.b_unconverted.now a.b_converted.now in
    let told_a : strand_by m.a.present m.a.annotation (arrays_seen (annotation_of m.a.annotation) x) ≡ Ok (given_of c.in-Ok.a) = sym (told_as m.a.present m.a.annotation c.new-a.result c.new-a_evidence.result c.strand_in.ensures c.new-a.ensures.arrays c.new-a_evidence.ensures) ∙ ap told_by c.in-Ok.is in
    let told_b : strand_by m.b.present m.b.annotation (arrays_seen (annotation_of m.b.annotation) y) ≡ Ok (given_of c.in-Ok-strand_in.b) = sym (told_as m.b.present m.b.annotation c.new-b.result c.new-b_evidence.result c.strand_in-2.ensures c.new-b.ensures.arrays c.new-b_evidence.ensures) ∙ ap told_by c.in-Ok-strand_in.is in
    let right : (wrong_strand m.a.present m.a.annotation || wrong_strand m.b.present m.b.annotation) ≡ false = rw (read_in m.a.present m.a.annotation _ told_a, read_in m.b.present m.b.annotation _ told_b) in
    let (none, same) = passed m.settings c.tested.result c.tested.ensures c.in-Ok-tested.settings c.in-Ok-tested.is in
    let u = lengths_of (told_strand m.a x) in
    let v = lengths_of (told_strand m.b y) in
    let tested = limit_told m.settings m.a.present m.a.annotation m.b.present m.b.annotation x y told_a told_b c.limit_refusal.ensures (ap (λ (g : GivenSettings). g.limit) same) c.strand_lengths.ensures c.strand_lengths-2.ensures in
    let over = lengths_refused m.settings.limit u v tested c.in-Err-limit_refusal.is in
    refused_by c.in-Err-limit_refusal.refusal (told_passed m.settings (length_faults m.settings.limit u v) refl right none ∙ over) c.from-in-Err-limit_refusal.ensures
