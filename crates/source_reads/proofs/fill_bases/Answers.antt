-- `source_reads::fill_bases` meets its contract: its loop fills the output with what the closure answers. Assumes nothing.
use Rattle.lists.proofs.Told.{next_table}
use Rattle.source_reads.proofs.fill_bases.Goals as goal

pub loop-i-preserved : goal.loop-i-preserved
loop-i-preserved g c told t = next_table told _ (c.loop-i.invariant told t) c.loop-i-test.true (t c.loop-i.i c.loop-i-test.true _ c.at.ensures)
