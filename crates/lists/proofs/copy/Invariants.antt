-- What the loop keeps.
use Rattle.lists.proofs.Output.{Copying}
use Rattle.lists.proofs.copy.Given as goal

abbrev pub invariant-loop-i : goal.invariant-loop-i
invariant-loop-i g l = Copying l.n l.xs l.initial.out l.i l.out
