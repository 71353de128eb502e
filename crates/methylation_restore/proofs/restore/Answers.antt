-- `methylation_restore::restore` meets its contract: its loop restores the bases in place. Assumes nothing.
use Rattle.lists.proofs.Output.{begin}
use Rattle.lists.proofs.Table.{length_tabulate}
use Rattle.lists.proofs.Told.{next_table}
use Rattle.lists.proofs.Written.{unwritten}
use Rattle.methylation_restore.proofs.restore.Goals as goal

pub loop-i-init : goal.loop-i-init
loop-i-init c = begin (length_tabulate _ _) c.requires

pub loop-i-preserved : goal.loop-i-preserved
loop-i-preserved c = next_table _ _ c.loop-i.invariant c.loop-i-test.true (rw (unwritten 0 c.loop-i.invariant) at c.restored_base.ensures)
