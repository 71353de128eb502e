-- `source_reads::add_shown_errors` meets its contract: its loop adds the errors of the bases, one position a turn. Assumes nothing.
use mathlib.Core.Path.{refl}
use borrow.Author.Rules.{rules}
use Rattle.source_reads.proofs.Adding.{start, turn, end}
use Rattle.source_reads.proofs.add_shown_errors.Goals as goal

pub loop-i-init : goal.loop-i-init
loop-i-init c = start (search rules)

pub loop-i-preserved : goal.loop-i-preserved
loop-i-preserved c = turn c.loop-i.invariant c.loop-i-test.true refl c.is_error.ensures c.one_more.ensures

pub returns : goal.returns
returns c = end c.loop-i.invariant c.loop-i-test.false
