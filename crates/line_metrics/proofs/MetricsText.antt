-- How long the texts are of numbers that fit their types. Assumes nothing.
use mathlib.Core.Path.{◌≡◌, ap}
use Prim.Native.Nat.{ℕ, suc, ◌^◌, ◌≤◌, ◌<◌}
use native.Mathlib.Omega.{arith}
use lib.ListN.{length, length-append}
use Rattle.decimal.proofs.Decimal.{few_digits}
use Rattle.hexadecimal.proofs.Hexadecimal.{length_hexadecimal}
use Rattle.metrics_bits.specs.declared.MetricsBits.{MetricsBits}
use Rattle.line_metrics.specs.MetricsText.{field, rate_field, figures_text, metrics_text}

pub field_most : (n : ℕ) → n < 2 ^ 32 → length (field n) ≤ 11
unfolding field
field_most n h = omega (arith, few_digits 9 n (omega arith))

pub rate_length : (bits : ℕ) → length (rate_field bits) ≡ 9
unfolding rate_field
rate_length bits = ap suc (length_hexadecimal bits)

pub figures_most : (largest smallest rate : ℕ) → length (field largest) ≤ 11 → length (field smallest) ≤ 11 → length (figures_text largest smallest rate) ≤ 31
unfolding figures_text
figures_most largest smallest rate h g = simp length-append (omega (arith, rate_length rate))

pub metrics_most :
    (m : MetricsBits)
    → length (figures_text m.aD m.aM m.aE) ≤ 31
    → length (figures_text m.bD m.bM m.bE) ≤ 31
    → length (figures_text m.cD m.cM m.cE) ≤ 31
    → length (field m.nc) ≤ 11
    → length (metrics_text m) ≤ 104
unfolding metrics_text
metrics_most m a b c n = simp length-append (omega arith)
