-- Each answer can be read back from its numbers, so that a member which stands for another breaks this, in the code and its definition
-- alike.
use Rattle.duplex_depths.specs.declared.DepthRange.{DepthRange}
use Rattle.duplex_metrics.specs.declared.Figures.{Figures}
use Rattle.metrics_bits.specs.declared.MetricsBits.{MetricsBits}
use Rattle.replies.specs.ReadBack.{AnswersBack}
use Rattle.rust_metrics.specs.Answers.{range_reply, figures_reply, metrics_reply}
use Rattle.rust_metrics.specs.declared.Range.{Range}
use Rattle.rust_metrics.specs.declared.FiguresReply.{FiguresReply}
use Rattle.rust_metrics.specs.declared.MetricsReply.{MetricsReply}

abbrev pub range_back : Range → DepthRange
range_back r = record { min = r.min; max = r.max }

abbrev pub figures_back : FiguresReply → Figures
figures_back r = record { largest = r.largest; smallest = r.smallest; depths = r.depths; errors = r.errors }

abbrev pub metrics_back : MetricsReply → MetricsBits
metrics_back r = record {
  aD = r.aD;
  aM = r.aM;
  aE = r.aE;
  bD = r.bD;
  bM = r.bM;
  bE = r.bE;
  cD = r.cD;
  cM = r.cM;
  cE = r.cE;
  nc = r.nc;
}

-- That of how many depths were written is read back too: `NumbersBack` of replies.
pub record ReadBack : Type 0 where
  pub range : AnswersBack range_reply (λ (r : Range). r.refused) range_back
  pub figures : AnswersBack figures_reply (λ (r : FiguresReply). r.refused) figures_back
  pub metrics : AnswersBack metrics_reply (λ (r : MetricsReply). r.refused) metrics_back
