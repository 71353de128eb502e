-- `methylation_evidence::summed_counts` meets its contract: a turn writes the sum at a position. Assumes nothing.
use mathlib.Core.Path.{ap, ◌∙◌}
use Rattle.lists.proofs.Told.{next_table}
use Rattle.numbers.proofs.Numbers.{saturated}
use Rattle.methylation_evidence.specs.Counts.{tag_count}
use Rattle.methylation_evidence.proofs.summed_counts.Goals as goal

pub loop-i-preserved : goal.loop-i-preserved
loop-i-preserved c =
    let sum = (rw (c.get_or.ensures, c.get_or-in-loop-i.ensures) at c.saturating_add.ensures) in
    next_table _ _ c.loop-i.invariant c.loop-i-test.true (c.tag_count.ensures ∙ ap tag_count (saturated 32 _ _ sum))
