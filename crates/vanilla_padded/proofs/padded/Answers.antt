-- `vanilla_padded::padded` meets its contract: refused by its row, or each output written, where it has room. Assumes nothing.
use mathlib.Core.Path.{ap, ◌∙◌}
use Rattle.std.proofs.lemmas.Result.{err_from_is_err_and}
use Rattle.methylation.specs.Outputs.{evidence_out}
use Rattle.vanilla_caller.specs.Strand.{annotation_in, arrays_in}
use Rattle.vanilla_padded.specs.Lent.{strand_out}
use Rattle.vanilla_padded.specs.Padding.{padding}
use Rattle.vanilla_padded.proofs.Room.{kept_is, turned_down, passed, has_room, written, kept_evidence}
use Rattle.vanilla_padded.proofs.padded.Goals as goal

pub returns-in_err-padded_refusal-clause-padded : goal.returns-in_err-padded_refusal-clause-padded
returns-in_err-padded_refusal-clause-padded c =
    let p = err_from_is_err_and c.from_residual.result c.from_residual.ensures.1 in
    turned_down _ _ _ _ c.lengths-2.ensures (c.annotation-annotation.ensures ∙ ap annotation_in c.kept-kept.ensures ∙ kept_is c.args.strand c.args.new_length) (rw (c.and.ensures, c.lengths.ensures) at c.lengths-room.ensures) c.padded_refusal.ensures c.in_err-padded_refusal.was (rw p.2 at p.1)

pub pad-requires-clause-fits : goal.pad-requires-clause-fits
pad-requires-clause-fits c =
    let a = c.args in
    let before = strand_out a.out.now (evidence_out a.evidence.now) in
    (has_room (annotation_in a.strand) (arrays_in a.strand) (padding a.new_length a.left a.base a.qual) before c.lengths-2.ensures (c.annotation-annotation.ensures ∙ ap annotation_in c.kept-kept.ensures ∙ kept_is c.args.strand c.args.new_length) (rw (c.and.ensures, c.lengths.ensures) at c.lengths-room.ensures) c.padded_refusal.ensures c.in_ok-padded_refusal.was).bases

pub pad-requires-2-clause-fits : goal.pad-requires-2-clause-fits
pad-requires-2-clause-fits c =
    let a = c.args in
    let before = strand_out a.out.now (evidence_out a.evidence.now) in
    (has_room (annotation_in a.strand) (arrays_in a.strand) (padding a.new_length a.left a.base a.qual) before c.lengths-2.ensures (c.annotation-annotation.ensures ∙ ap annotation_in c.kept-kept.ensures ∙ kept_is c.args.strand c.args.new_length) (rw (c.and.ensures, c.lengths.ensures) at c.lengths-room.ensures) c.padded_refusal.ensures c.in_ok-padded_refusal.was).quals

pub pad-requires-3-clause-fits : goal.pad-requires-3-clause-fits
pad-requires-3-clause-fits c =
    let a = c.args in
    let before = strand_out a.out.now (evidence_out a.evidence.now) in
    (has_room (annotation_in a.strand) (arrays_in a.strand) (padding a.new_length a.left a.base a.qual) before c.lengths-2.ensures (c.annotation-annotation.ensures ∙ ap annotation_in c.kept-kept.ensures ∙ kept_is c.args.strand c.args.new_length) (rw (c.and.ensures, c.lengths.ensures) at c.lengths-room.ensures) c.padded_refusal.ensures c.in_ok-padded_refusal.was).depths

pub pad-requires-4-clause-fits : goal.pad-requires-4-clause-fits
pad-requires-4-clause-fits c =
    let a = c.args in
    let before = strand_out a.out.now (evidence_out a.evidence.now) in
    (has_room (annotation_in a.strand) (arrays_in a.strand) (padding a.new_length a.left a.base a.qual) before c.lengths-2.ensures (c.annotation-annotation.ensures ∙ ap annotation_in c.kept-kept.ensures ∙ kept_is c.args.strand c.args.new_length) (rw (c.and.ensures, c.lengths.ensures) at c.lengths-room.ensures) c.padded_refusal.ensures c.in_ok-padded_refusal.was).errors

pub returns-clause-padded : goal.returns-clause-padded
returns-clause-padded c =
    let a = c.args in
    let before = strand_out a.out.now (evidence_out a.evidence.now) in
    let strand = arrays_in a.strand in
    let padding = padding a.new_length a.left a.base a.qual in
    let row = passed (annotation_in a.strand) strand padding before c.lengths-2.ensures (c.annotation-annotation.ensures ∙ ap annotation_in c.kept-kept.ensures ∙ kept_is c.args.strand c.args.new_length) (rw (c.and.ensures, c.lengths.ensures) at c.lengths-room.ensures) c.padded_refusal.ensures c.in_ok-padded_refusal.was in
    let r = has_room (annotation_in a.strand) strand padding before c.lengths-2.ensures (c.annotation-annotation.ensures ∙ ap annotation_in c.kept-kept.ensures ∙ kept_is c.args.strand c.args.new_length) (rw (c.and.ensures, c.lengths.ensures) at c.lengths-room.ensures) c.padded_refusal.ensures c.in_ok-padded_refusal.was in
    written (annotation_in a.strand) strand padding before row (c.annotation-annotation.ensures ∙ ap annotation_in c.kept-kept.ensures ∙ kept_is c.args.strand c.args.new_length) (record {
      bases = c.pad.ensures;
      quals = c.pad-2.ensures;
      depths = c.pad-3.ensures;
      errors = c.pad-4.ensures;
      evidence = kept_evidence a.strand before.evidence _ a.new_length c.kept-kept.ensures r.evidence (c.write_evidence.ensures.marks, c.write_evidence.ensures.unconverted, c.write_evidence.ensures.converted);
    })
