-- `duplex_metrics::duplex_metrics` meets its contract where it is refused: the refusal is that of the lengths. Assumes nothing.
use mathlib.Core.Path.{sym, ◌∙◌}
use Rattle.std.proofs.lemmas.Result.{err_from_is_err_and}
use Rattle.duplex_metrics.specs.Metrics.{metrics_refused, record_of, input_given}
use Rattle.duplex_metrics.proofs.Given.{told_given, refused_alike}
use Rattle.duplex_metrics.proofs.duplex_metrics.Goals as goal

pub returns-in_err-metrics_refusal : goal.returns-in_err-metrics_refusal
returns-in_err-metrics_refusal c =
    let a = c.args.x in
    let x = input_given a in
    let told = told_given a.a a.bases.now a.errors.now a.b c.lengths.ensures c.metrics_refusal.ensures in
    let p = err_from_is_err_and c.from_residual.result c.from_residual.ensures.1 in
    rw (p.1, p.2) (refused_alike (metrics_refused x) (record_of x) (sym told ∙ c.in_err-metrics_refusal.was))
