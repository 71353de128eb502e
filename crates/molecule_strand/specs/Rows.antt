-- The rows that are tested of strands given as bytes before their numbers are read, document 01: 13 and 7, by byte counts; and the kind of
-- the record that they make, by their depths.
use Rattle.std.specs.Prelude.{ℕ, Option, Some, None, Result, Err, option_map, ◌/◌, ◌%◌, Bool, false, cond, not, ◌&&◌, ◌||◌, List, [], ◌∷◌, eqb, length, take}
use Rattle.refusals.specs.declared.Refusal.{Refusal}
use Rattle.refusals.specs.declared.Refusal.TheVariants.{Broken, TooLong}
use Rattle.refusals.specs.Refusal.{Fault, ◌if◌}
use Rattle.std.specs.Option.{option_and, option_map_or}
use Rattle.methylation.specs.Arrays.{evidence_of_length}
use Rattle.methylation.specs.Methylation.{is_annotated}
use Rattle.vanilla_caller.specs.Strand.{strand_too_long}
use Rattle.vanilla_caller.specs.declared.Lengths.{Lengths}
use Rattle.byte_numbers.specs.Bytes.{odd_count}
use Rattle.duplex_kind.specs.Kind.{Given, kind_given, record_kind}
use Rattle.duplex_kind.specs.declared.DuplexConsensus.{DuplexConsensus}
use Rattle.molecule_strand.specs.declared.ByteLengths.{ByteLengths}
use Rattle.molecule_strand.specs.Strand.{StrandBytes, strand_of}

-- Refusal 13's condition for a strand: a byte count that does not fit the widths. An absent strand's are not looked at, nor that of
-- evidence without an annotation.
abbrev pub misfit_in : StrandBytes → Bool
misfit_in s = s.present && ((odd_count (length s.depths) || odd_count (length s.errors)) || (is_annotated s.annotation && not (eqb (length s.evidence % 9) 0)))

-- How many positions the bytes are, of each array; of evidence where there is an annotation.
abbrev pub numbers_in : StrandBytes → Lengths
numbers_in s =
    record {
      bases = length s.bases;
      quals = length s.quals;
      depths = length s.depths / 2;
      errors = length s.errors / 2;
      evidence = option_and s.annotation (Some (evidence_of_length (length s.evidence / 9)));
    }

-- Refusal 7's.
abbrev pub long_in : StrandBytes → Bool
long_in s = s.present && strand_too_long (numbers_in s)

-- The rows in their order.
abbrev pub early_faults : StrandBytes → StrandBytes → List Fault
early_faults a b =
    (Broken if (misfit_in a || misfit_in b))
    ∷ (TooLong if (long_in a || long_in b))
    ∷ []

-- The same by the lengths alone: of a strand that is there how many bytes each array is, of evidence where there is an annotation.
abbrev pub byte_lengths : StrandBytes → Option ByteLengths
byte_lengths s =
    cond s.present
    (Some
    (record {
      bases = length s.bases;
      quals = length s.quals;
      depths = length s.depths;
      errors = length s.errors;
      evidence = option_and s.annotation (Some (length s.evidence));
    }))
    None

abbrev pub is_misfit : ByteLengths → Bool
is_misfit n = (odd_count n.depths || odd_count n.errors) || option_map_or (λ k. not (eqb (k % 9) 0)) n.evidence false

abbrev pub positions_of : ByteLengths → Lengths
positions_of n = record { bases = n.bases; quals = n.quals; depths = n.depths / 2; errors = n.errors / 2; evidence = option_map (λ k. evidence_of_length (k / 9)) n.evidence }

abbrev pub is_long : ByteLengths → Bool
is_long n = strand_too_long (positions_of n)

abbrev pub length_faults : Option ByteLengths → Option ByteLengths → List Fault
length_faults a b =
    (Broken if (option_map_or is_misfit a false || option_map_or is_misfit b false))
    ∷ (TooLong if (option_map_or is_long a false || option_map_or is_long b false))
    ∷ []

-- What is given of a strand by its byte counts, and by depths that were read to the front of an array.
abbrev pub given_by : StrandBytes → List ℕ → Given
given_by s depths = record { present = s.present; lengths = numbers_in s; depths = take (length s.depths / 2) depths }

-- The kind of the record that two strands make, or the refusal: 13 for a byte count before all others.
abbrev pub kind_by : StrandBytes → StrandBytes → Result (Option DuplexConsensus) Refusal
kind_by a b = cond (misfit_in a || misfit_in b) (Err Broken) (record_kind (strand_of a) (strand_of b) false 0 false)

-- The same by depths that were read.
abbrev pub kind_read : StrandBytes → StrandBytes → List ℕ → List ℕ → Result (Option DuplexConsensus) Refusal
kind_read a b a_depths b_depths = cond (misfit_in a || misfit_in b) (Err Broken) (kind_given (given_by a a_depths) (given_by b b_depths) false 0 false)
