-- The rates of a record that is answered are no NaN. Assumes nothing.
use mathlib.Core.Path.{◌≡◌}
use Rattle.std.proofs.Common.{Ok}
use Rattle.duplex_metrics.specs.Metrics.{Input, metrics_of}
use Rattle.duplex_metrics.specs.declared.MetricsRecord.{MetricsRecord}
use Rattle.duplex_metrics.proofs.Returned.{a_number, b_number, c_number}
use Rattle.metrics_bits.specs.Bits.{Numbers}

pub numbers : (x : Input) (r : MetricsRecord) → metrics_of x ≡ Ok r → Numbers r
numbers x r e = record { a = a_number x r e; b = b_number x r e; c = c_number x r e }
