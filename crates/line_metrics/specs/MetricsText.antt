-- The metrics of a record as document 01's line has them: aD aM aE bD bM bE cD cM cE nc, rates as float bits in hexadecimal.
use Rattle.std.specs.Prelude.{ℕ, List, ◌∷◌, ◌++◌}
use Rattle.decimal.specs.Decimal.{decimal}
use Rattle.hexadecimal.specs.Hexadecimal.{hexadecimal}
use Rattle.metrics_bits.specs.declared.MetricsBits.{MetricsBits}

-- A blank (32) and a number.
unfoldable pub field : ℕ → List ℕ
field n = 32 ∷ decimal n

-- A blank and a rate.
unfoldable pub rate_field : ℕ → List ℕ
rate_field bits = 32 ∷ hexadecimal bits

-- The largest depth, the smallest, and the rate.
unfoldable pub figures_text : ℕ → ℕ → ℕ → List ℕ
figures_text largest smallest rate = field largest ++ field smallest ++ rate_field rate

unfoldable pub metrics_text : MetricsBits → List ℕ
metrics_text m = figures_text m.aD m.aM m.aE ++ figures_text m.bD m.bM m.bE ++ figures_text m.cD m.cM m.cE ++ field m.nc
