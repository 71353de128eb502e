-- `line_format::write_columns` meets its contract: one column behind the other. Assumes nothing.
use Rattle.line_output.proofs.Text.{then}
use Rattle.line_format.specs.Line.{columns_text}
use Rattle.line_format.proofs.write_columns.Goals as goal

pub returns-clause-written : goal.returns-clause-written
unfolding columns_text
returns-clause-written c = then (then (then (then c.write_printed.ensures c.write_text.ensures) c.write_u8s.ensures.written) c.write_text-2.ensures) c.write_u16s.ensures.written
