-- `duplex_single::gated_single_strand` meets its contract: refused by its row, or each output written, where it has room. Assumes
-- nothing.
use mathlib.Core.Path.{◌∙◌}
use Rattle.std.proofs.lemmas.Result.{err_from_is_err_and}
use Rattle.lists.proofs.Output.{put_fitting, put_none}
use Rattle.vanilla_caller.specs.Strand.{annotation_in, arrays_in}
use Rattle.methylation.specs.Outputs.{evidence_out, no_evidence}
use Rattle.duplex_outputs.specs.Lent.{record_out}
use Rattle.duplex_single.proofs.Gated.{gated_of, none_of}
use Rattle.duplex_single.proofs.Room.{turned_down, has_room, written}
use Rattle.duplex_single.proofs.gated_single_strand.Goals as goal

pub returns-in_err-single_refusal-clause-single : goal.returns-in_err-single_refusal-clause-single
returns-in_err-single_refusal-clause-single c =
    let p = err_from_is_err_and c.from_residual.result c.from_residual.ensures.1 in
    turned_down _ _ _ c.lengths-2.ensures (rw (c.and.ensures, c.annotation.ensures, c.lengths.ensures) at c.lengths-room.ensures) c.single_refusal.ensures c.in_err-single_refusal.was (rw p.2 at p.1)

pub returns-in-Some-clause-single : goal.returns-in-Some-clause-single
returns-in-Some-clause-single c =
    let a = c.args in
    let before = record_out a.out.now (evidence_out a.evidence.now) no_evidence in
    let lent = rw (c.and.ensures, c.annotation.ensures, c.lengths.ensures) at c.lengths-room.ensures in
    let r = has_room (annotation_in a.strand) (arrays_in a.strand) before c.lengths-2.ensures lent c.single_refusal.ensures c.in_ok-single_refusal.was in
    written (annotation_in a.strand) (arrays_in a.strand) before c.lengths-2.ensures lent c.single_refusal.ensures c.in_ok-single_refusal.was (record {
      bases = c.copy.ensures ∙ put_fitting _ _ r.bases;
      quals = c.copy-2.ensures ∙ put_fitting _ _ r.quals;
      errors = c.copy-3.ensures ∙ put_fitting _ _ r.errors;
      a = gated_of _ c.in-Some.is c.write_gated.ensures.puts;
      b = record { marks = put_none _; unconverted = put_none _; converted = put_none _ };
    })

pub returns-in_default-clause-single : goal.returns-in_default-clause-single
returns-in_default-clause-single c =
    let a = c.args in
    let before = record_out a.out.now (evidence_out a.evidence.now) no_evidence in
    let lent = rw (c.and.ensures, c.annotation.ensures, c.lengths.ensures) at c.lengths-room.ensures in
    let r = has_room (annotation_in a.strand) (arrays_in a.strand) before c.lengths-2.ensures lent c.single_refusal.ensures c.in_ok-single_refusal.was in
    written (annotation_in a.strand) (arrays_in a.strand) before c.lengths-2.ensures lent c.single_refusal.ensures c.in_ok-single_refusal.was (record {
      bases = c.copy.ensures ∙ put_fitting _ _ r.bases;
      quals = c.copy-2.ensures ∙ put_fitting _ _ r.quals;
      errors = c.copy-3.ensures ∙ put_fitting _ _ r.errors;
      a = none_of _ c.in_default.is;
      b = record { marks = put_none _; unconverted = put_none _; converted = put_none _ };
    })
