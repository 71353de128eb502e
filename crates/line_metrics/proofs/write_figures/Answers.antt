-- `line_metrics::write_figures` meets its contract: one field behind the other. Assumes nothing.
use Rattle.line_output.proofs.Text.{then}
use Rattle.line_metrics.specs.MetricsText.{figures_text}
use Rattle.line_metrics.proofs.write_figures.Goals as goal

pub returns-clause-written : goal.returns-clause-written
unfolding figures_text
returns-clause-written c = then (then c.write_field.ensures.written c.write_field-2.ensures.written) c.write_rate_field.ensures
