-- `line_molecule::duplex_line` meets its contract: by what the bytes encode. Assumes nothing.
use Rattle.std.proofs.Common.{rules}
use Rattle.line_molecule.proofs.Text.{by_decoded, by_refusal, by_molecule}
use Rattle.line_molecule.proofs.duplex_line.Goals as goal

pub returns-in-Err : goal.returns-in-Err
returns-in-Err c = by_decoded c.args.bytes.now c.read_molecule.ensures (by_refusal _ c.in-Err.is (search rules))

pub returns-in-Ok : goal.returns-in-Ok
returns-in-Ok c = by_decoded c.args.bytes.now c.read_molecule.ensures (by_molecule _ c.in-Ok.is c.molecule_line.ensures)
