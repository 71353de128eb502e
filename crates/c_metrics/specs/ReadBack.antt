-- The metrics can be read back from their ten words, so that a word which stands for another breaks this, in the code and its definition
-- alike.
use Rattle.std.specs.Prelude.{ℕ, ◌≡◌, Option, Some, None, List, [], ◌∷◌}
use Rattle.metrics_bits.specs.declared.MetricsBits.{MetricsBits}
use Rattle.c_metrics.specs.Bytes.{record_words}

-- The record whose words, in the order of the tags, are these.
abbrev pub words_back : List ℕ → Option MetricsBits
words_back (aD ∷ aM ∷ aE ∷ bD ∷ bM ∷ bE ∷ cD ∷ cM ∷ cE ∷ nc ∷ []) = Some (record {
  aD = aD;
  aM = aM;
  aE = aE;
  bD = bD;
  bM = bM;
  bE = bE;
  cD = cD;
  cM = cM;
  cE = cE;
  nc = nc;
})
words_back words = None

abbrev pub ReadBack : Type 0
ReadBack = (r : MetricsBits) → words_back (record_words r) ≡ Some r
