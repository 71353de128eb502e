-- One strand alone as a record, document 01: its arrays copied untruncated, evidence cleared where not informative.
use Rattle.std.specs.Prelude.{None, Option, Result, ℕ, ◌≡◌, List, [], ◌∷◌, length}
use Rattle.refusals.specs.declared.Refusal.{Refusal}
use Rattle.refusals.specs.declared.Refusal.TheVariants.{TooLong, Ragged, OutputTooShort}
use Rattle.refusals.specs.Refusal.{Fault, ◌if◌, refused}
use Rattle.refusals.specs.Outcome.{answer}
use Rattle.methylation.specs.Arrays.{evidence_arrays, evidence_only_if}
use Rattle.methylation.specs.Methylation.{is_annotated}
use Rattle.vanilla_caller.specs.Strand.{Arrays, lengths, strand_too_long, strand_ragged}
use Rattle.vanilla_caller.specs.declared.Lengths.{Lengths}
use Rattle.methylation_evidence.specs.Gate.{gated}
use Rattle.duplex_outputs.specs.Outputs.{RecordArrays, record_lengths, record_too_short, LeavesRecord}
use Rattle.duplex_outputs.specs.declared.RecordLengths.{RecordLengths}
use Rattle.methylation.specs.declared.ConversionPattern.{ConversionPattern}

-- What is written of a strand alone: evidence where there is an annotation. It is stored as the first strand; there is no second.
abbrev pub single_arrays : Option ConversionPattern → Arrays → RecordArrays
single_arrays annotation s = record {
  bases = s.bases;
  quals = s.quals;
  errors = s.errors;
  a = evidence_only_if (is_annotated annotation) (gated (length s.bases) s.evidence);
  b = evidence_arrays [] [] [];
}

-- By the lengths of its arrays, and those of the outputs.
abbrev pub single_faults : Lengths → RecordLengths → List Fault
single_faults s out =
    (TooLong if strand_too_long s)
    ∷ (Ragged if strand_ragged s)
    ∷ (OutputTooShort if record_too_short s.bases out)
    ∷ []

abbrev pub single_refused : Option ConversionPattern → Arrays → RecordArrays → Option Refusal
single_refused annotation s out = refused (single_faults (lengths annotation s) (record_lengths annotation None out))

-- What a call of `gated_single_strand` answers and leaves in its outputs.
pub record SingleAs (annotation : Option ConversionPattern) (s : Arrays) (before now : RecordArrays) (r : Result ℕ Refusal) : Type 0 where
  pub answered : r ≡ answer (single_refused annotation s before) (length s.bases)
  pub outputs : LeavesRecord (single_refused annotation s before) (single_arrays annotation s) before now
