-- Small encoded molecules, and bytes that are none: each row computes. Assumes nothing.
use mathlib.Core.Path.{refl}
use Rattle.lists.specs.Every.{every}
use Rattle.lists.specs.Table.{tabulate}
use Rattle.fields.specs.Encoding.{front, fields_within, fields_of}
use Rattle.molecule_fields.specs.Widths.{known_tag, length_fits, marks, bits_fit, well_formed}
use Rattle.molecule_encoding.specs.Format.{follows, ascend_after, has, whole_strand, annotated_strand, announced, valid, accepted, value_of, place_from, strand_of, molecule, decoded}
use Rattle.molecule_encoding.specs.Small.{Small}

pub small : Small
unfolding front fields_within fields_of every known_tag length_fits tabulate marks bits_fit well_formed follows ascend_after has whole_strand annotated_strand announced valid accepted value_of place_from strand_of molecule decoded
small = record {
  no_bytes = refl;
  no_thresholds = refl;
  one_threshold = refl;
  a_of_none = refl;
  b_of_none = refl;
  both_of_none = refl;
  annotation_of_none = refl;
  marked = refl;
  empty_list = refl;
  two_reads = refl;
  cut_tag = refl;
  cut_length = refl;
  cut_value = refl;
  cut_read = refl;
  tag_00 = refl;
  tag_02 = refl;
  tag_0f = refl;
  tag_15 = refl;
  tag_1f = refl;
  tag_25 = refl;
  tag_2e = refl;
  tag_31 = refl;
  out_of_order = refl;
  b_before_a = refl;
  read_before_marker = refl;
  repeated = refl;
  marker_repeated = refl;
  odd_thresholds = refl;
  odd_depths = refl;
  odd_errors = refl;
  annotation_of_nothing = refl;
  annotation_of_nine = refl;
  marker_with_value = refl;
  read_of_one_byte = refl;
  pattern_2 = refl;
  pattern_2_of_b = refl;
  mark_2 = refl;
  mark_2_of_b = refl;
  a_without_bases = refl;
  a_without_quals = refl;
  a_without_depths = refl;
  a_without_errors = refl;
  b_without_bases = refl;
  b_without_quals = refl;
  b_without_depths = refl;
  b_without_errors = refl;
  annotation_alone = refl;
  annotation_of_b_alone = refl;
  read_without_list = refl;
}
