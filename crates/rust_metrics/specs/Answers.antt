-- The answers about depths and metrics as numbers.
use Rattle.std.specs.Prelude.{Result, Ok, Err}
use Rattle.refusals.specs.declared.Refusal.{Refusal}
use Rattle.refusals.specs.Refusal.{number_of}
use Rattle.duplex_depths.specs.declared.DepthRange.{DepthRange}
use Rattle.duplex_metrics.specs.declared.Figures.{Figures}
use Rattle.metrics_bits.specs.declared.MetricsBits.{MetricsBits}
use Rattle.rust_metrics.specs.declared.Range.{Range}
use Rattle.rust_metrics.specs.declared.FiguresReply.{FiguresReply}
use Rattle.rust_metrics.specs.declared.MetricsReply.{MetricsReply}

abbrev pub range_reply : Result DepthRange Refusal → Range
range_reply (Err refusal) = record { refused = number_of refusal; min = 0; max = 0 }
range_reply (Ok r) = record { refused = 0; min = r.min; max = r.max }

abbrev pub figures_reply : Result Figures Refusal → FiguresReply
figures_reply (Err refusal) = record { refused = number_of refusal; largest = 0; smallest = 0; depths = 0; errors = 0 }
figures_reply (Ok f) = record { refused = 0; largest = f.largest; smallest = f.smallest; depths = f.depths; errors = f.errors }

abbrev pub metrics_reply : Result MetricsBits Refusal → MetricsReply
metrics_reply (Err refusal) = record { refused = number_of refusal; aD = 0; aM = 0; aE = 0; bD = 0; bM = 0; bE = 0; cD = 0; cM = 0; cE = 0; nc = 0 }
metrics_reply (Ok b) = record {
  refused = 0;
  aD = b.aD;
  aM = b.aM;
  aE = b.aE;
  bD = b.bD;
  bM = b.bM;
  bE = b.bE;
  cD = b.cD;
  cM = b.cM;
  cE = b.cE;
  nc = b.nc;
}
