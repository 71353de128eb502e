-- `molecule_strand::read_strand` meets its contract: of an absent strand nothing is read. Assumes nothing.
use Rattle.molecule_strand.specs.Strand.{numbers}
use Rattle.molecule_strand.proofs.Strand.{none_read}
use Rattle.molecule_strand.proofs.read_strand.Goals as goal

pub returns-in_default-clause-read : goal.returns-in_default-clause-read
returns-in_default-clause-read c =
    let e = c.args.evidence.now in
    let none = none_read (numbers c.args.depths_out.now c.args.errors_out.now e.marks.now e.unconverted.now e.converted.now) in
    let read = rw c.in_default.is at c.read_numbers.ensures in
    rw c.in_default.is (record { depths = read.depths; errors = read.errors; marks = none.marks; unconverted = none.unconverted; converted = none.converted })
