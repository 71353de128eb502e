-- `lists::copy` meets its contract: its loop fills the front of the output. Assumes nothing.
use Rattle.lists.proofs.Output.{begin_copy, next_copy, done}
use Rattle.lists.proofs.copy.Goals as goal

pub loop-i-init : goal.loop-i-init
loop-i-init g c = begin_copy _ _ c.min-n.ensures

pub returns : goal.returns
returns g c = done c.loop-i.invariant.filling c.loop-i-test.false

pub loop-i-preserved : goal.loop-i-preserved
loop-i-preserved g c = rw c.index-xs-i.is (next_copy c.index-xs-i.result c.loop-i.invariant c.loop-i-test.true)
