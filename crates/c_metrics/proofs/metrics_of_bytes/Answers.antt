-- `c_metrics::metrics_of_bytes` meets its contract: its tests in the table's order, and the record of the library's call as bytes.
-- Assumes nothing.
use mathlib.Core.Path.{refl, sym, ap, ◌∙◌}
use mathlib.Core.Bool.{true, false}
use lib.Dec.{ltb}
use lib.ListN.{length}
use Rattle.std.proofs.Common.{Some, None, Err}
use Rattle.std.proofs.lemmas.Result.{err_from_is_err_and}
use Rattle.refusals.specs.declared.Refusal.TheVariants.{Broken, OutputTooShort}
use Rattle.refusals.proofs.Outcome.{refused_by, passed_by, is_met, not_met}
use Rattle.duplex_metrics.specs.Metrics.{input_given, metrics_refused}
use Rattle.c_metrics.specs.Bytes.{decoded}
use Rattle.c_metrics.proofs.Bytes.{entry_at, told_given, odd_given, always, refused_as}
use Rattle.c_metrics.proofs.metrics_of_bytes.Goals as goal

pub returns-in_err-metrics_refusal : goal.returns-in_err-metrics_refusal
returns-in_err-metrics_refusal c =
    let a = c.args.x in
    let before = c.args.out.now in
    let x = input_given a in
    let odd = sym (odd_given a.a a.bases.now a.errors.now a.b c.lengths-n.ensures c.odd_bytes.ensures) ∙ not_met c.odd_bytes.result Broken (sym c.refuse.ensures ∙ c.in_ok-refuse.was) in
    let told = told_given a.a a.bases.now a.errors.now a.b c.lengths-n.ensures c.halved_lengths.ensures c.metrics_refusal.ensures in
    let refused = refused_by (metrics_refused (decoded x)) tt (sym told ∙ c.in_err-metrics_refusal.was) in
    let p = err_from_is_err_and c.from_residual-in_err-metrics_refusal.result c.from_residual-in_err-metrics_refusal.ensures.1 in
    refused_as x before (p.1 ∙ ap Err p.2) (entry_at x before false (Some c.in_err-metrics_refusal.field-0.0) (ltb (length before) 40) odd refused refl)

pub returns-in_err-refuse-2 : goal.returns-in_err-refuse-2
returns-in_err-refuse-2 c =
    let a = c.args.x in
    let before = c.args.out.now in
    let x = input_given a in
    let odd = sym (odd_given a.a a.bases.now a.errors.now a.b c.lengths-n.ensures c.odd_bytes.ensures) ∙ not_met c.odd_bytes.result Broken (sym c.refuse.ensures ∙ c.in_ok-refuse.was) in
    let told = told_given a.a a.bases.now a.errors.now a.b c.lengths-n.ensures c.halved_lengths.ensures c.metrics_refusal.ensures in
    let passed = (passed_by (metrics_refused (decoded x)) tt (sym told ∙ c.in_ok-metrics_refusal.was)).0 in
    let short = is_met (ltb (length before) 40) OutputTooShort (sym c.refuse-2.ensures ∙ c.in_err-refuse-2.was) in
    let p = err_from_is_err_and c.from_residual-in_err-refuse-2.result c.from_residual-in_err-refuse-2.ensures.1 in
    refused_as x before (p.1 ∙ ap Err (p.2 ∙ sym short.1)) (entry_at x before false None true odd passed short.0)

pub returns-in_err-record : goal.returns-in_err-record
returns-in_err-record c =
    let a = c.args.x in
    let before = c.args.out.now in
    let x = input_given a in
    let odd = sym (odd_given a.a a.bases.now a.errors.now a.b c.lengths-n.ensures c.odd_bytes.ensures) ∙ not_met c.odd_bytes.result Broken (sym c.refuse.ensures ∙ c.in_ok-refuse.was) in
    let told = told_given a.a a.bases.now a.errors.now a.b c.lengths-n.ensures c.halved_lengths.ensures c.metrics_refusal.ensures in
    let passed = (passed_by (metrics_refused (decoded x)) tt (sym told ∙ c.in_ok-metrics_refusal.was)).0 in
    absurd (always (decoded x) passed (sym c.decoded_metrics.ensures ∙ c.in_err-record.was))
