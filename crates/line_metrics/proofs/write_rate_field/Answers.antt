-- `line_metrics::write_rate_field` meets its contract: a blank, and the bits right behind it. Assumes nothing.
use Rattle.line_output.proofs.Text.{then}
use Rattle.line_metrics.specs.MetricsText.{rate_field}
use Rattle.line_metrics.proofs.write_rate_field.Goals as goal

pub returns : goal.returns
unfolding rate_field
returns c = then c.write_text.ensures c.write_bits.ensures
