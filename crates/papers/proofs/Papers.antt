-- The claims of specs/Papers.antt: the general ones by their laws, the others computed. Assumes nothing.
use mathlib.Core.Path.{refl}
use Rattle.lists.specs.Count.{count_if, count_of}
use Rattle.lists.specs.Part.{only_if}
use Rattle.lists.specs.Table.{tabulate}
use Rattle.dna.specs.Dna.{upper, same_letter}
use Rattle.flags.specs.Flags.{is_set}
use Rattle.decimal.specs.Decimal.{decimal_in, decimal, listed}
use Rattle.decimal.proofs.Decimal.{value_decimal}
use Rattle.mm_ml.specs.Tags.{called_at, calls, mm_text, ml_array}
use Rattle.mm_ml.specs.Text.{places_below, letters, skips_from, group_text}
use Rattle.mm_reading.specs.Reading.{numbers, skips_of, called_from, read_calls}
use Rattle.duplex_metrics.specs.Metrics.{capped, strand_figures}
use Rattle.papers.specs.Papers.{SamTags, Sam, Fgbio}
use Rattle.papers.proofs.Decimal.{no_leading_zero}
use Rattle.papers.proofs.Ml.{ml_em_seq, ml_taps, ml_only, no_counts}
use Rattle.papers.proofs.Quality.{quality}

pub sam_tags : SamTags
unfolding tabulate count_of count_if only_if upper same_letter decimal decimal_in listed called_at calls mm_text ml_array places_below letters skips_from group_text numbers skips_of called_from read_calls
sam_tags = record {
  ml_em_seq = ml_em_seq;
  ml_taps = ml_taps;
  ml_only = ml_only;
  ml_192 = refl;
  ml_204 = refl;
  ml_64 = refl;
  no_counts = no_counts;
  example_c = refl;
  example_g = refl;
  example_ml = refl;
  example_read = refl;
  count_value = value_decimal;
  no_leading_zero = no_leading_zero;
  zero_itself = refl;
}

pub sam : Sam
unfolding is_set
sam = record {
  first = refl;
  first_77 = refl;
  last = refl;
  last_141 = refl;
  fragment = refl;
  has_first = refl;
  not_reverse = refl;
  not_last = refl;
  has_last = refl;
  not_first = refl;
  largest = refl;
  quality = quality;
  tag_count_is = refl;
}

pub fgbio : Fgbio
unfolding strand_figures capped
fgbio = record {
  two_values = refl;
  one_value = refl;
  three_values = refl;
  reached = refl;
  total_missed = refl;
  better_missed = refl;
  other_missed = refl;
  both_needed = refl;
  one_enough = refl;
  capped = refl;
  below_the_cap = refl;
}
