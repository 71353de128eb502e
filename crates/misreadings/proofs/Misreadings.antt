-- The rows of specs/Misreadings.antt, each computed. Assumes nothing.
use mathlib.Core.Path.{refl}
use lib.Ieee.{of_int, round, div, to_bits}
use Rattle.lists.specs.Count.{count_if, count_of}
use Rattle.lists.specs.Part.{leaves, only_if}
use Rattle.lists.specs.Table.{tabulate}
use Rattle.numbers.specs.Numbers.{saturating_add}
use Rattle.settings.specs.declared.GivenSettings.{GivenSettings}
use Rattle.dna.specs.Dna.{upper}
use Rattle.phred.specs.Phred.{capped_quality}
use Rattle.flags.specs.Flags.{is_set}
use Rattle.rates.specs.Rate.{rate_of}
use Rattle.duplex_molecule.specs.Molecule.{is_error, molecule_call, ct_input, call_at}
use Rattle.duplex_position.specs.Combination.{agreed, disagreed, masked, unmasked, uncalled}
use Rattle.duplex_errors.specs.Errors.{agreeing, disagreeing}
use Rattle.duplex_call.specs.Annotated.{combined, estimated_uncalled, estimated, expected}
use Rattle.duplex_arrays.specs.Positions.{combined_bases, estimates, combined_errors}
use Rattle.source_reads.specs.Reads.{read_leaves, reaches, read_error, read_errors}
use Rattle.duplex_depths.specs.Depths.{combined_depths}
use Rattle.duplex_metrics.specs.Metrics.{capped, strand_figures, record_depth, record_depths, record_figures, record_no_calls}
use Rattle.duplex_consensus.specs.Consensus.{list_errors}
use Rattle.misreadings.specs.Misreadings.{Depths, Figures, Estimates, UnmaskedBase, ReadsAtCalls}

pub depths : Depths
unfolding record_depth combined_depths tabulate saturating_add
depths = record {
  two_at_the_cap = refl;
  one_above_the_cap = refl;
  combined_depths_is = refl;
  gate_reached = refl;
  gate_missed = refl;
}

pub figures : Figures
unfolding count_of count_if only_if tabulate strand_figures record_figures record_no_calls record_depths record_depth capped rate_of of_int round div to_bits
figures = record {
  no_calls_is = refl;
  padded_ends = refl;
  either_strand = refl;
  past_a_strand = refl;
  within_the_record = refl;
  absent_strand = refl;
  ten_figures = refl;
}

pub estimates_by_winner : (lab : GivenSettings) → Estimates lab
unfolding ct_input combined_errors estimates tabulate estimated estimated_uncalled call_at molecule_call upper agreeing disagreeing
estimates_by_winner lab = record {
  a_wins = refl;
  b_wins = refl;
  a_wins_ties = refl;
  call_adds = refl;
}

pub unmasked_base : (lab : GivenSettings) → UnmaskedBase lab
unfolding ct_input combined_errors combined_bases tabulate combined call_at uncalled unmasked masked agreed disagreed capped_quality list_errors read_errors read_error reaches read_leaves leaves count_of count_if expected is_set is_error
unmasked_base lab = record {
  masked = refl;
  masked_error = refl;
  masked_none = refl;
  close = refl;
  close_b = refl;
  low_sum = refl;
  beside_n = refl;
  below_n = refl;
}

pub reads_at_calls : (lab : GivenSettings) → ReadsAtCalls lab
unfolding ct_input combined_errors tabulate call_at molecule_call upper list_errors read_errors read_error reaches read_leaves leaves count_of count_if expected is_set is_error
reads_at_calls lab = record {
  c_to_t_first = refl;
  c_to_t_last = refl;
  g_to_a_first = refl;
  g_to_a_last = refl;
  c_to_t_first_b = refl;
  c_to_t_last_b = refl;
  g_to_a_first_b = refl;
  g_to_a_last_b = refl;
  own_byte = refl;
  first_shows_t = refl;
  first_shows_c = refl;
  last_shows_t = refl;
  last_shows_c = refl;
  first_shows_g = refl;
  first_shows_a = refl;
  last_shows_g = refl;
  last_shows_a = refl;
  no_flags_show_t = refl;
  pattern_of_first = refl;
  pattern_of_last = refl;
  pattern_of_none = refl;
}
