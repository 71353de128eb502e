-- `c_interface::told_molecule` meets its contract: neither strand is refused. Assumes nothing.
use mathlib.Core.Path.{sym, ap, ◌∙◌}
use Rattle.c_interface.specs.Entry.{told_by}
use Rattle.c_interface.proofs.Entry.{both_told}
use Rattle.c_interface.proofs.told_molecule.Goals as goal

pub returns : goal.returns
returns c =
    both_told c.args.told _ _ c.args.reads c.in_ok-a.a c.in_ok-b.b
    (sym (ap told_by c.in_ok-a.was) ∙ c.strand_told.ensures)
    (sym (ap told_by c.in_ok-b.was) ∙ c.strand_told-2.ensures)
    c.then_some-reads.ensures
