-- `molecule_encoding::check_fields` meets its contract: what is left of the test at each field is the whole test. Assumes nothing.
use mathlib.Core.Path.{◌≡◌, sym, ap, ◌∙◌}
use mathlib.Core.Bool.{◌&&◌}
use Rattle.std.proofs.Common.{Ok}
use Rattle.std.proofs.lemmas.Result.{err_from_is_err_and}
use Rattle.fields.specs.Slices.{field_in}
use Rattle.fields.proofs.Fields.{rest_shorter}
use Rattle.fields.proofs.Walk.{begun, ended, broken}
use Rattle.molecule_fields.specs.Widths.{well_formed}
use Rattle.molecule_encoding.specs.Format.{follows}
use Rattle.molecule_encoding.proofs.Order.{fit_end, fit_cut, fit_next, fit_not, told_fit, told_not}
use Rattle.molecule_encoding.proofs.Accepted.{fit_ascending}
use Rattle.molecule_encoding.proofs.check_fields.Goals as goal

pub returns-in_err-f : goal.returns-in_err-f
returns-in_err-f c =
    let p = err_from_is_err_and c.from_residual.result c.from_residual.ensures.1 in
    let (cut, is) = broken _ c.in_err-f.was c.next_field.ensures in
    rw (p.1, p.2, sym c.loop-f.invariant, fit_cut _ _ cut, is)

pub returns-in_err-refuse : goal.returns-in_err-refuse
returns-in_err-refuse c =
    let f = c.in-Some.f in
    let p = err_from_is_err_and c.from_residual-in_err-refuse.result c.from_residual-in_err-refuse.ensures.1 in
    let (off, is) = told_not _ _ (sym c.refuse.ensures ∙ c.in_err-refuse.was) in
    let here = begun _ (c.in_ok-f.was ∙ ap Ok c.in-Some.is) c.next_field.ensures in
    let asked : (c.tag_follows.result && c.field_fits.result) ≡ (follows c.loop-f.last f.tag && well_formed (field_in f)) = rw (c.tag_follows.ensures, c.field_fits.ensures) in
    rw (p.1, p.2, sym c.loop-f.invariant, fit_not _ _ here (sym asked ∙ off), is)

pub loop-f-smaller : goal.loop-f-smaller
loop-f-smaller c =
    rest_shorter c.loop-f.rest.now (begun _ (c.in_ok-f.was ∙ ap Ok c.in-Some.is) c.next_field.ensures)

pub loop-f-preserved : goal.loop-f-preserved
loop-f-preserved c =
    let f = c.in-Some.f in
    let here = begun _ (c.in_ok-f.was ∙ ap Ok c.in-Some.is) c.next_field.ensures in
    let asked : (c.tag_follows.result && c.field_fits.result) ≡ (follows c.loop-f.last f.tag && well_formed (field_in f)) = rw (c.tag_follows.ensures, c.field_fits.ensures) in
    sym (fit_next _ _ here (sym asked ∙ told_fit _ _ (sym c.refuse.ensures ∙ c.in_ok-refuse.was))) ∙ c.loop-f.invariant

pub invariant_of-result : goal.invariant_of-result
invariant_of-result c =
    let end = ended _ (c.in_ok-f.was ∙ ap Ok c.in_default.is) c.next_field.ensures in
    record { ordered = fit_ascending c.args.bytes.now (sym c.loop-f.invariant ∙ fit_end _ _ end) }

pub returns : goal.returns
returns c =
    let end = ended _ (c.in_ok-f.was ∙ ap Ok c.in_default.is) c.next_field.ensures in
    rw (sym c.loop-f.invariant ∙ fit_end _ _ end)
