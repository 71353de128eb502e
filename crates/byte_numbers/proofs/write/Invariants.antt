-- What the loop keeps.
use Rattle.byte_numbers.proofs.Groups.{Writing}
use Rattle.byte_numbers.proofs.write.Given as goal

abbrev pub invariant-loop-i : goal.invariant-loop-i
invariant-loop-i g l = Writing g.N.LittleEndian.SIZE l.n (λ x k. g.N.LittleEndian.to_bytes x) g.N.LittleEndian.nought l.numbers l.initial.out l.i l.out
