-- A metrics record that was returned.
--     record_is                        it is the one that was promised
--     a_number, b_number, c_number     its rates are no NaN, so that their bits may be asked for
-- Assumes nothing.
use mathlib.Core.Path.{◌≡◌, sym}
use mathlib.Core.Bool.{not}
use native.Mathlib.Omega.{arith}
use lib.Dec.{T}
use lib.ListN.{length}
use lib.Ieee.{is_nan}
use Rattle.std.proofs.Common.{None, Ok}
use Rattle.lists.specs.Part.{only_if}
use Rattle.refusals.proofs.Outcome.{passed_by}
use Rattle.rates.proofs.Rates.{number}
use Rattle.duplex_metrics.specs.Metrics.{Input, strand_figures, record_figures, figures_a, figures_b, figures_c, no_calls, lengths, metrics_refused, metrics_record, record_of, metrics_of}
use Rattle.duplex_metrics.specs.declared.MetricsRecord.{MetricsRecord}
use Rattle.duplex_metrics.proofs.Depths.{depths_sum, capped_sum}
use Rattle.duplex_metrics.proofs.Few.{Few, few, second_few, only_few}

module _ (x : Input) (r : MetricsRecord) (e : metrics_of x ≡ Ok r) where
  both : (metrics_refused x ≡ None) × (r ≡ record_of x)
  both =
      let (passed, is) = passed_by (metrics_refused x) (record_of x) e in
      (passed, sym is)

  pub record_is : r ≡ metrics_record (figures_a x) (figures_b x) (figures_c x) (no_calls x)
  record_is = both.1

  -- No array is too long.
  short : Few (lengths x)
  short = few (lengths x) both.0

  pub a_number : T (not (is_nan r.aE))
  unfolding strand_figures
  a_number = rw record_is (number _ _ (omega (arith, capped_sum x.a_errors, short.a.errors)) (omega (arith, capped_sum x.a, short.a.depths)))

  pub b_number : T (not (is_nan r.bE))
  unfolding strand_figures
  b_number =
      let b = only_if x.second x.b in
      let errors = only_if x.second x.b_errors in
      rw record_is
      (number _ _ (omega (arith, capped_sum errors, only_few x.second x.b_errors (λ h. (second_few x short h).1))) (omega (arith, capped_sum b, only_few x.second x.b (λ h. (second_few x short h).0))))

  pub c_number : T (not (is_nan r.cE))
  unfolding record_figures
  c_number =
      rw record_is
      (number _ _ (omega (arith, capped_sum x.errors, short.errors)) (omega (arith, depths_sum (length x.errors) x.a (only_if x.second x.b), short.errors)))
