-- What the loop keeps.
use Rattle.lists.proofs.Output.{Copying}
use Rattle.byte_numbers.specs.Groups.{by_group}
use Rattle.byte_numbers.proofs.read.Given as goal

abbrev pub invariant-loop-i : goal.invariant-loop-i
invariant-loop-i g l = Copying l.n (by_group g.N.LittleEndian.SIZE g.N.LittleEndian.of_bytes l.bytes) l.initial.out l.i l.out
