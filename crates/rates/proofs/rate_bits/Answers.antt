-- `rates::rate_bits` meets its contract: no rate is a NaN. Assumes nothing.
use native.Mathlib.Omega.{arith}
use Rattle.rates.proofs.Rates.{number}
use Rattle.rates.proofs.rate_bits.Goals as goal

pub float_to_bits-result : goal.float_to_bits-result
float_to_bits-result c = rw c.error_rate.ensures (number c.args.errors c.args.depth (omega arith) (omega arith))
