-- `line_molecule::molecule_line` meets its contract: by what its thresholds are. Assumes nothing.
use mathlib.Core.Path.{◌≡◌}
use Rattle.std.proofs.Common.{rules}
use Rattle.refusals.specs.Refusal.{number_of}
use Rattle.molecule_encoding.specs.Parts.{value_in}
use Rattle.line_molecule.specs.Line.{value_or, parts_of}
use Rattle.line_molecule.proofs.Parts.{read_is}
use Rattle.line_molecule.proofs.Thresholds.{slice_read, text_refused, text_passed}
use Rattle.line_molecule.proofs.molecule_line.Goals as goal

pub returns : goal.returns
returns c =
    let m = c.args.m in
    let v : c.unwrap_or-values.result.now ≡ value_or (value_in m.thresholds) = search rules in
    text_passed (parts_of m) v (slice_read c.unwrap_or-values.result.now c.read.ensures c.min-count.ensures) c.validate_min_reads-answer.ensures c.in-Ok.is
    (read_is _ m c.strand_of.ensures c.strand_of-2.ensures c.strands_line.ensures)

pub returns-in_default : goal.returns-in_default
returns-in_default c =
    let m = c.args.m in
    let v : c.unwrap_or-values.result.now ≡ value_or (value_in m.thresholds) = search rules in
    let n : c.map_or.result ≡ number_of c.in_default.field-0 = search rules in
    rw (text_refused (parts_of m) v (slice_read c.unwrap_or-values.result.now c.read.ensures c.min-count.ensures) c.validate_min_reads-answer.ensures c.in_default.is) (rw n at c.refused_line.ensures)
