-- What the loop keeps.
use lib.ListN.{length}
use Rattle.lists.proofs.Output.{Filling}
use Rattle.methylation_evidence.specs.Counts.{tag_counts}
use Rattle.methylation_evidence.proofs.tag_counts.Given as goal

abbrev pub invariant-loop-i : goal.invariant-loop-i
invariant-loop-i l = Filling (length l.counts) (tag_counts l.counts) l.initial.out l.i l.out
