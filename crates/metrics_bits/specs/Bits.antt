-- The metrics of a record with its rates as their bits.
use Rattle.std.specs.Prelude.{not, T, Result, Ok, Err}
use Rattle.std.specs.Float.{binary32}
use Rattle.std.specs.Float.Ieee.{to_bits, is_nan}
use Rattle.refusals.specs.declared.Refusal.{Refusal}
use Rattle.duplex_metrics.specs.declared.MetricsRecord.{MetricsRecord}
use Rattle.metrics_bits.specs.declared.MetricsBits.{MetricsBits}

abbrev pub in_bits : MetricsRecord → MetricsBits
in_bits r = record {
  aD = r.aD;
  aM = r.aM;
  aE = to_bits binary32 r.aE;
  bD = r.bD;
  bM = r.bM;
  bE = to_bits binary32 r.bE;
  cD = r.cD;
  cM = r.cM;
  cE = to_bits binary32 r.cE;
  nc = r.nc;
}

-- The library's answer: the record so, and a refusal as it is.
abbrev pub metrics_words : Result MetricsRecord Refusal → Result MetricsBits Refusal
metrics_words (Ok r) = Ok (in_bits r)
metrics_words (Err refusal) = Err refusal

-- A record whose rates are no NaN, so that their bits may be asked for.
pub record Numbers (r : MetricsRecord) : Type 0 where
  pub a : T (not (is_nan r.aE))
  pub b : T (not (is_nan r.bE))
  pub c : T (not (is_nan r.cE))
