-- `duplex_tags::counts_refusal` meets its contract: one test after another. Assumes nothing.
use mathlib.Core.Path.{sym, ◌∙◌}
use Rattle.std.proofs.lemmas.Result.{err_from_is_err_and}
use Rattle.refusals.proofs.Outcome.{refused_by}
use Rattle.duplex_tags.proofs.Refused.{given_first}
use Rattle.duplex_tags.proofs.counts_refusal.Goals as goal

pub returns-in_err-given_refusal : goal.returns-in_err-given_refusal
returns-in_err-given_refusal c =
    let p = err_from_is_err_and c.from_residual.result c.from_residual.ensures.1 in
    let met = given_first c.args.bases c.args.a c.args.b c.args.unconverted c.args.converted (refused_by _ _ (sym c.given_refusal.ensures ∙ c.in_err-given_refusal.was)) in
    rw (p.1, p.2, met)
