-- What the loop keeps.
use Rattle.lists.proofs.Output.{Copying}
use Rattle.hexadecimal.specs.Hexadecimal.{hexadecimal}
use Rattle.hexadecimal.proofs.write_hexadecimal.Given as goal

abbrev pub invariant-loop-i : goal.invariant-loop-i
invariant-loop-i l = Copying l.i-end (hexadecimal l.n) l.initial.out l.i l.out
