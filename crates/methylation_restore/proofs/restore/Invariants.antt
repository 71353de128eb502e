-- What the loop keeps.
use lib.ListN.{length}
use Rattle.lists.proofs.Output.{Filling}
use Rattle.methylation_restore.specs.Restore.{restored_to}
use Rattle.methylation_restore.proofs.restore.Given as goal

abbrev pub invariant-loop-i : goal.invariant-loop-i
invariant-loop-i l = Filling (length l.marks) (restored_to (length l.marks) l.letters l.marks l.initial.bases) l.initial.bases l.i l.bases
