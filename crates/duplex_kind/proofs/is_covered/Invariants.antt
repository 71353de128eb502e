-- What the loop keeps: the blocks so far have no depth above 0.
use mathlib.Core.Path.{◌≡◌}
use mathlib.Core.Bool.{false}
use Prim.Native.Nat.{◌*◌}
use lib.ListN.{take}
use Rattle.duplex_kind.specs.Kind.{some_depth}
use Rattle.duplex_kind.proofs.is_covered.Given as goal

abbrev pub invariant-loop-block : goal.invariant-loop-block
invariant-loop-block l = some_depth (take (32 * l.block) l.depths) ≡ false
