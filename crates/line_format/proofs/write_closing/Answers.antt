-- `line_format::write_closing` meets its contract: the metrics, and the line feed right behind them. Assumes nothing.
use Rattle.line_output.proofs.Text.{then}
use Rattle.line_format.specs.Line.{closing}
use Rattle.line_format.proofs.write_closing.Goals as goal

pub returns-clause-written : goal.returns-clause-written
unfolding closing
returns-clause-written c = then c.write_metrics.ensures.written c.write_text.ensures
