-- `molecule_encoding::molecule_places` meets its contract: it is refused as the reader is, and what that accepts is in order. Assumes nothing.
use mathlib.Core.Path.{sym, ap, ◌∙◌}
use Rattle.std.proofs.lemmas.Result.{err_from_is_err_and}
use Rattle.molecule_encoding.specs.Parts.{molecule_in}
use Rattle.molecule_encoding.proofs.Places.{accepted_ascending, placed_accepted, placed_refused}
use Rattle.molecule_encoding.proofs.molecule_places.Goals as goal

pub returns-in_err-read_molecule : goal.returns-in_err-read_molecule
returns-in_err-read_molecule c =
    let p = err_from_is_err_and c.from_residual.result c.from_residual.ensures.1 in
    rw (p.1, p.2) (sym (placed_refused c.args.bytes.now (sym (ap molecule_in c.in_err-read_molecule.was) ∙ c.read_molecule.ensures)))

pub invariant_of-fields : goal.invariant_of-fields
invariant_of-fields c = record { ordered = accepted_ascending c.args.bytes.now (sym (ap molecule_in c.in_ok-read_molecule.was) ∙ c.read_molecule.ensures) }

pub returns : goal.returns
returns c =
    rw (c.place.ensures, c.strand_places.ensures, c.strand_places-2.ensures, c.reads_place.ensures)
    (sym (placed_accepted c.args.bytes.now (sym (ap molecule_in c.in_ok-read_molecule.was) ∙ c.read_molecule.ensures)))
