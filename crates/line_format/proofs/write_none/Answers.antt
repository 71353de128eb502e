-- `line_format::write_none` meets its contract: the line right behind the header. Assumes nothing.
use Rattle.std.proofs.Common.{rules}
use Rattle.line_output.specs.Writer.{Writes}
use Rattle.line_output.proofs.Text.{then}
use Rattle.line_format.specs.Line.{none_text, header}
use Rattle.line_format.proofs.write_none.Goals as goal

pub returns-clause-written : goal.returns-clause-written
unfolding none_text header
returns-clause-written c =
    let all : Writes none_text c.new-to.result c.write_text-2.new.self = then c.write_text.ensures c.write_text-2.ensures in
    search (rules, all.appended.written)
