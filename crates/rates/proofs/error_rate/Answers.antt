-- `rates::error_rate` meets its contract: each arm returns what `rate_of` picks where the test is as the arm found it. Assumes nothing.
use mathlib.Core.Path.{sym}
use native.Mathlib.Omega.{arith}
use lib.Ieee.{of_bits}
use Rattle.rates.specs.Rate.{rate_of}
use Rattle.rates.proofs.Rates.{divides}
use Rattle.rates.proofs.error_rate.Goals as goal

pub returns-then-depth-eq0 : goal.returns-then-depth-eq0
unfolding rate_of of_bits
returns-then-depth-eq0 c = rw c.if-depth-eq0.true

pub returns-else-depth-eq0 : goal.returns-else-depth-eq0
returns-else-depth-eq0 c = rw (c.nearest_u32_to_f32.ensures, c.nearest_u32_to_f32-else-depth-eq0.ensures) (sym (divides c.args.errors c.args.depth (omega arith)))
