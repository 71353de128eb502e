-- `line_metrics::write_metrics` meets its contract: one part behind the other. Assumes nothing.
use Rattle.line_output.proofs.Text.{then}
use Rattle.line_metrics.specs.MetricsText.{metrics_text}
use Rattle.line_metrics.proofs.write_metrics.Goals as goal

pub returns-clause-written : goal.returns-clause-written
unfolding metrics_text
returns-clause-written c = then (then (then c.write_figures.ensures.written c.write_figures-2.ensures.written) c.write_figures-3.ensures.written) c.write_field.ensures.written
