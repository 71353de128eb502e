-- `duplex_kind::limit_refusal` meets its contract where row 7 refuses. Assumes nothing.
use mathlib.Core.Path.{sym, ap, ◌∙◌}
use Rattle.std.proofs.Common.{Err}
use Rattle.std.proofs.lemmas.Result.{err_from_is_err_and}
use Rattle.refusals.proofs.Outcome.{is_met}
use Rattle.duplex_kind.proofs.limit_refusal.Goals as goal

pub returns-in_err-refuse : goal.returns-in_err-refuse
returns-in_err-refuse c =
    let (met, row) = is_met _ _ (sym (rw (c.is_over.ensures, c.is_over-2.ensures) at c.refuse.ensures) ∙ c.in_err-refuse.was) in
    let p = err_from_is_err_and c.from_residual.result c.from_residual.ensures.1 in
    rw met (p.1 ∙ ap Err (p.2 ∙ sym row))
