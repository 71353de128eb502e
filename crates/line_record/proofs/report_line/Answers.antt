-- `line_record::report_line` meets its contract: that there is no record is said whatever the arrays are. Assumes nothing.
use Rattle.line_format.specs.Line.{columns_in}
use Rattle.line_record.proofs.Holds.{of_any}
use Rattle.line_record.proofs.report_line.Goals as goal

pub returns-in-None : goal.returns-in-None
returns-in-None c = rw (c.in-Ok.is, c.in-None.is) (of_any (columns_in c.args.row) c.none_line.ensures)
