-- `hexadecimal::write_hexadecimal` meets its contract: its loop fills the front of the output with the digits. Assumes nothing.
use mathlib.Core.Path.{◌∙◌}
use Prim.Native.Nat.{◌<◌}
use native.Mathlib.Omega.{arith}
use Rattle.lists.proofs.Output.{begin_copy, next_copy}
use Rattle.hexadecimal.specs.Hexadecimal.{hexadecimal}
use Rattle.hexadecimal.proofs.Hexadecimal.{length_hexadecimal, digit_is}
use Rattle.hexadecimal.proofs.write_hexadecimal.Goals as goal

pub loop-i-init : goal.loop-i-init
loop-i-init c = begin_copy (hexadecimal _) _ (c.min-i-end.ensures ∙ rw length_hexadecimal)

pub loop-i-preserved : goal.loop-i-preserved
loop-i-preserved c =
    let few : c.loop-i.i < 8 = omega (arith, length_hexadecimal c.args.n) in
    rw (c.digit_at.ensures ∙ digit_is _ _ few) (next_copy 0 c.loop-i.invariant c.loop-i-test.true)
