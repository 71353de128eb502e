-- `line_metrics::write_field` meets its contract: a blank, and the number right behind it. Assumes nothing.
use Rattle.line_output.proofs.Text.{then}
use Rattle.line_metrics.specs.MetricsText.{field}
use Rattle.line_metrics.proofs.write_field.Goals as goal

pub returns-clause-written : goal.returns-clause-written
unfolding field
returns-clause-written c = rw c.from.ensures at (then c.write_text.ensures c.write_number.ensures)
