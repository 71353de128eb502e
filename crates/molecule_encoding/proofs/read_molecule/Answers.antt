-- `molecule_encoding::read_molecule` meets its contract: at each exit the tests that led there decide. Assumes nothing.
use mathlib.Core.Path.{sym, ap, ◌∙◌}
use Rattle.std.proofs.lemmas.Result.{err_from_is_err_and}
use Rattle.molecule_encoding.specs.Parts.{fields_in, strand_in, reads_in}
use Rattle.molecule_encoding.proofs.Accepted.{too_big, small, fit, unfit, a_unfit, b_unfit, reads_unfit, completed}
use Rattle.molecule_encoding.proofs.read_molecule.Goals as goal

pub returns-in_err-refuse : goal.returns-in_err-refuse
returns-in_err-refuse c =
    let p = err_from_is_err_and c.from_residual.result c.from_residual.ensures.1 in
    rw (p.1, p.2) (sym (too_big c.args.bytes.now (sym c.refuse.ensures ∙ c.in_err-refuse.was)))

pub returns-in_err-fields : goal.returns-in_err-fields
returns-in_err-fields c =
    let few = small c.args.bytes.now (sym c.refuse.ensures ∙ c.in_ok-refuse.was) in
    let p = err_from_is_err_and c.from_residual-in_err-fields.result c.from_residual-in_err-fields.ensures.1 in
    rw (p.1, p.2) (sym (unfit c.args.bytes.now few (sym c.check_fields.ensures ∙ ap fields_in c.in_err-fields.was)))

pub returns-in_err-a : goal.returns-in_err-a
returns-in_err-a c =
    let bytes = c.args.bytes.now in
    let few = small bytes (sym c.refuse.ensures ∙ c.in_ok-refuse.was) in
    let (fits, same) = fit bytes (sym c.check_fields.ensures ∙ ap fields_in c.in_ok-fields.was) in
    let p = err_from_is_err_and c.from_residual-in_err-a.result c.from_residual-in_err-a.ensures.1 in
    rw (p.1, p.2) (sym (a_unfit bytes few fits (sym (rw same at c.strand.ensures) ∙ ap strand_in c.in_err-a.was)))

pub returns-in_err-b : goal.returns-in_err-b
returns-in_err-b c =
    let bytes = c.args.bytes.now in
    let few = small bytes (sym c.refuse.ensures ∙ c.in_ok-refuse.was) in
    let (fits, same) = fit bytes (sym c.check_fields.ensures ∙ ap fields_in c.in_ok-fields.was) in
    let a = sym (rw same at c.strand.ensures) ∙ ap strand_in c.in_ok-a.was in
    let p = err_from_is_err_and c.from_residual-in_err-b.result c.from_residual-in_err-b.ensures.1 in
    rw (p.1, p.2) (sym (b_unfit bytes few fits a (sym (rw same at c.strand-2.ensures) ∙ ap strand_in c.in_err-b.was)))

pub returns-in_err-reads : goal.returns-in_err-reads
returns-in_err-reads c =
    let bytes = c.args.bytes.now in
    let few = small bytes (sym c.refuse.ensures ∙ c.in_ok-refuse.was) in
    let (fits, same) = fit bytes (sym c.check_fields.ensures ∙ ap fields_in c.in_ok-fields.was) in
    let a = sym (rw same at c.strand.ensures) ∙ ap strand_in c.in_ok-a.was in
    let b = sym (rw same at c.strand-2.ensures) ∙ ap strand_in c.in_ok-b.was in
    let p = err_from_is_err_and c.from_residual-in_err-reads.result c.from_residual-in_err-reads.ensures.1 in
    rw (p.1, p.2) (sym (reads_unfit bytes few fits a b (sym (rw same at c.reads.ensures) ∙ ap reads_in c.in_err-reads.was)))

pub returns : goal.returns
returns c =
    let bytes = c.args.bytes.now in
    let few = small bytes (sym c.refuse.ensures ∙ c.in_ok-refuse.was) in
    let (fits, same) = fit bytes (sym c.check_fields.ensures ∙ ap fields_in c.in_ok-fields.was) in
    let a = sym (rw same at c.strand.ensures) ∙ ap strand_in c.in_ok-a.was in
    let b = sym (rw same at c.strand-2.ensures) ∙ ap strand_in c.in_ok-b.was in
    rw (rw same at c.value-thresholds.ensures) (sym (completed bytes few fits a b (sym (rw same at c.reads.ensures) ∙ ap reads_in c.in_ok-reads.was)))
