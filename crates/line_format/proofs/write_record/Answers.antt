-- `line_format::write_record` meets its contract: its columns between what stands before and after them. Assumes nothing.
use Rattle.std.proofs.Common.{rules}
use Rattle.line_output.proofs.Text.{then}
use Rattle.line_format.specs.Line.{line_text}
use Rattle.line_format.proofs.write_record.Goals as goal

pub returns-clause-written : goal.returns-clause-written
unfolding line_text
returns-clause-written c =
    let all = then (then c.write_opening.ensures c.write_columns.ensures.written) c.write_closing.ensures.written in
    search (rules, all.appended.written)
