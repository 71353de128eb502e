-- `hexadecimal::digit_at` meets its contract: the number by the place's weight, and of that the last digit. Assumes nothing.
use Prim.Native.Nat.{◌-◌, ◌≤◌, ◌^◌}
use native.Mathlib.Omega.{arith}
use native.Mathlib.Nat.{one-le-pow, pow-le-pow_right}
use Rattle.hexadecimal.proofs.digit_at.Goals as goal

pub pow-weight-requires : goal.pow-weight-requires
pow-weight-requires c =
    let most : 16 ^ (7 - c.args.place) ≤ 16 ^ 7 = pow-le-pow_right (omega arith) {i = 7 - c.args.place} {j = 7} (omega arith) in
    omega arith

pub nonzero_div-n : goal.nonzero_div-n
nonzero_div-n c = omega (arith, c.pow-weight.ensures, one-le-pow (7 - c.args.place) 16 (omega arith))
