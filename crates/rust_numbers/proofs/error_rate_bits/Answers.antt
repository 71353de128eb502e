-- A rate is a number, so that its bits may be asked for. Assumes nothing.
use mathlib.Core.Path.{sym, ◌∙◌}
use native.Mathlib.Omega.{arith}
use Rattle.rust_numbers.proofs.Rates.{rate_is_number}
use Rattle.rust_numbers.proofs.error_rate_bits.Goals as goal

pub float_to_bits-result : goal.float_to_bits-result
float_to_bits-result c =
    rate_is_number c.args.depths.now c.args.errors.now
    (λ i. omega (arith, (c.type_inv.depths i).fits))
    (λ i. omega (arith, (c.type_inv.errors i).fits))
    (sym c.calculate_error_rate.ensures ∙ c.in_ok-rate.was)
