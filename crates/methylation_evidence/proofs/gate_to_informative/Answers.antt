-- `methylation_evidence::gate_to_informative` meets its contract: its loop gates each array in place. Assumes nothing.
use Rattle.std.proofs.Common.{◌≡◌, false, rules}
use Rattle.methylation.specs.Arrays.{evidence_ragged}
use Rattle.methylation.proofs.Arrays.{equal_lengths}
use Rattle.methylation_evidence.proofs.Gating.{begin_gate, next_gate}
use Rattle.methylation_evidence.proofs.gate_to_informative.Goals as goal

pub loop-i-init : goal.loop-i-init
loop-i-init c =
    let even : evidence_ragged c.lengths-lengths.result ≡ false = search rules in
    let same = rw c.lengths-lengths.ensures at (equal_lengths c.lengths-lengths.result even) in
    begin_gate _ same.0 same.1

pub loop-i-preserved : goal.loop-i-preserved
loop-i-preserved c = next_gate c.loop-i.invariant c.loop-i-test.true c.evidence_if-evidence.ensures
