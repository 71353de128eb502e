-- What the loop keeps: the blocks so far have that orientation.
use mathlib.Core.Path.{◌≡◌}
use mathlib.Core.Bool.{true}
use Prim.Native.Nat.{◌*◌}
use lib.ListN.{take}
use Rattle.duplex_reads.specs.Reads.{all_reverse_as}
use Rattle.duplex_reads.proofs.all_blocks_reverse_as.Given as goal

abbrev pub invariant-loop-block : goal.invariant-loop-block
invariant-loop-block l = all_reverse_as l.reverse (take (16 * l.block) l.reads) ≡ true
