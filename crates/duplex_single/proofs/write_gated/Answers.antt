-- `duplex_single::write_gated` meets its contract: its loop fills the three outputs with the gated evidence. Assumes nothing.
use Rattle.methylation.proofs.Filling.{begin_evidence, next_evidence}
use Rattle.duplex_single.proofs.write_gated.Goals as goal

pub loop-i-init : goal.loop-i-init
loop-i-init c = begin_evidence c.requires.room.0 c.requires.room.1 c.requires.room.2

pub loop-i-preserved : goal.loop-i-preserved
loop-i-preserved c = next_evidence c.loop-i.invariant c.loop-i-test.true c.evidence_if-kept.ensures
