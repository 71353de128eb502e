-- What the loop keeps.
use Rattle.methylation.specs.Arrays.{evidence_arrays}
use Rattle.methylation.proofs.Filling.{FillingEvidence}
use Rattle.methylation_evidence.specs.Gate.{gated_at}
use Rattle.methylation_evidence.proofs.gate_to_informative.Given as goal

abbrev pub invariant-loop-i : goal.invariant-loop-i
invariant-loop-i l =
    let e = evidence_arrays l.initial.marks l.initial.unconverted l.initial.converted in
    FillingEvidence l.n (gated_at e) e l.i (evidence_arrays l.marks l.unconverted l.converted)
