-- `duplex_evidence::write_evidence` meets its contract: the marks are written, and the counts by them. Assumes nothing.
use mathlib.Core.Path.{sym, ◌∙◌}
use Rattle.std.proofs.Common.{Some}
use Rattle.lists.specs.Part.{only_if}
use Rattle.methylation.specs.Arrays.{evidence_in}
use Rattle.vanilla_caller.specs.Strand.{Arrays, arrays_in}
use Rattle.duplex_arrays.proofs.Short.{all_written}
use Rattle.duplex_evidence.specs.Kept.{kept_marks, kept_unconverted, kept_converted}
use Rattle.duplex_evidence.proofs.Kept.{by_marks}
use Rattle.duplex_evidence.proofs.write_evidence.Goals as goal

pub returns-clause-written : goal.returns-clause-written
unfolding kept_marks kept_unconverted kept_converted only_if
returns-clause-written c =
    let given = c.args in
    let m = c.in-Some.annotation in
    let own : Arrays = record { bases = given.own.bases.now; quals = given.own.quals.now; depths = given.own.depths.now; errors = given.own.errors.now; evidence = evidence_in m.evidence } in
    let enough = rw (c.lengths.ensures, c.lengths-2.ensures) at (sym c.evidence_short.ensures ∙ c.if-evidence_short.false) in
    let written = by_marks (Some m.pattern) given.ct (arrays_in given.a) (arrays_in given.b) own given.n (c.fill_counts.ensures.marks ∙ c.fill_marks.ensures) (rw c.fill_counts.ensures.marks c.fill_counts.ensures.unconverted) (rw c.fill_counts.ensures.marks c.fill_counts.ensures.converted) in
    rw c.in-Some.is
    (record {
      marks = all_written _ _ enough written.marks;
      unconverted = all_written _ _ enough written.unconverted;
      converted = all_written _ _ enough written.converted;
    })
