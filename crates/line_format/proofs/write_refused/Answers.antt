-- `line_format::write_refused` meets its contract: the number between its texts. Assumes nothing.
use Rattle.std.proofs.Common.{rules}
use Rattle.line_output.proofs.Text.{then}
use Rattle.line_format.specs.Line.{refused_text}
use Rattle.line_format.proofs.write_refused.Goals as goal

pub returns-clause-written : goal.returns-clause-written
unfolding refused_text
returns-clause-written c =
    let all = then (then c.write_text.ensures c.write_number.ensures) c.write_text-2.ensures in
    search (rules, all.appended.written)
