-- `metrics_bits::metrics_bits` meets its contract: the rates of a record that is answered have bits. Assumes nothing.
use mathlib.Core.Path.{sym, ◌∙◌}
use Rattle.duplex_metrics.specs.Metrics.{input_given}
use Rattle.metrics_bits.proofs.Bits.{numbers}
use Rattle.metrics_bits.proofs.metrics_bits.Goals as goal

pub in_bits-requires : goal.in_bits-requires
in_bits-requires c = numbers (input_given c.args.x) _ (sym c.duplex_metrics.ensures ∙ c.in_ok-record.was)
