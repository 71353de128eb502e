-- What the loop keeps.
use Rattle.methylation.specs.Arrays.{evidence_arrays, evidence_in}
use Rattle.methylation.proofs.Filling.{FillingEvidence}
use Rattle.methylation_evidence.specs.Gate.{gated_at}
use Rattle.duplex_single.proofs.write_gated.Given as goal

abbrev pub invariant-loop-i : goal.invariant-loop-i
invariant-loop-i l =
    FillingEvidence l.places (gated_at (evidence_in l.evidence)) (evidence_arrays l.initial.marks_out l.initial.unconverted_out l.initial.converted_out) l.i (evidence_arrays l.marks_out l.unconverted_out l.converted_out)
