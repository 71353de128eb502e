-- Two strands combined position by position, document 01.
use Rattle.std.specs.Prelude.{Option, Result, ℕ, min, ◌≡◌, Bool, ◌||◌, List, [], ◌∷◌}
use Rattle.refusals.specs.declared.Refusal.{Refusal}
use Rattle.refusals.specs.declared.Refusal.TheVariants.{TooLong, Ragged, OutputTooShort}
use Rattle.refusals.specs.Refusal.{Fault, ◌if◌, refused}
use Rattle.refusals.specs.Outcome.{answer}
use Rattle.settings.specs.declared.GivenSettings.{GivenSettings}
use Rattle.methylation.specs.Arrays.{EvidenceArrays, evidence_arrays}
use Rattle.vanilla_caller.specs.Strand.{Arrays, lengths, strand_too_long, strand_ragged}
use Rattle.vanilla_caller.specs.declared.Lengths.{Lengths}
use Rattle.duplex_molecule.specs.declared.CtInput.{CtInput}
unfoldable pub use Rattle.duplex_arrays.specs.Positions.{combined_bases, combined_quals, estimates, combined_errors}
pub use Rattle.duplex_arrays.specs.Positions.{uncounted}
unfoldable pub use Rattle.duplex_evidence.specs.Kept.{kept_marks, kept_unconverted, kept_converted}
use Rattle.duplex_outputs.specs.Outputs.{RecordArrays, record_lengths, record_too_short, LeavesRecord}
use Rattle.duplex_outputs.specs.declared.RecordLengths.{RecordLengths}
use Rattle.methylation.specs.declared.ConversionPattern.{ConversionPattern}

-- How many positions two strands of these lengths have in common.
abbrev pub common_length : Lengths → Lengths → ℕ
common_length a b = min a.bases b.bases

-- The evidence that is written of a strand s of this annotation.
abbrev pub kept_evidence : ℕ → CtInput → Arrays → Arrays → Option ConversionPattern → Arrays → EvidenceArrays
kept_evidence n ct a b annotation s =
    evidence_arrays (kept_marks n ct a b annotation s) (kept_unconverted n ct a b annotation s) (kept_converted n ct a b annotation s)

-- What is written of two strands, by a lab's settings.
abbrev pub both_arrays : GivenSettings → Bool → (ℕ → ℕ) → ℕ → CtInput → Option ConversionPattern → Arrays → Option ConversionPattern → Arrays → RecordArrays
both_arrays lab listed counted n ct ma a mb b = record {
  bases = combined_bases lab.ceiling n ct a b;
  quals = combined_quals lab.ceiling n ct a b;
  errors = combined_errors listed counted n ct a b;
  a = kept_evidence n ct a b ma a;
  b = kept_evidence n ct a b mb b;
}

-- Rows 7 and 8 are tested over both strands, by their lengths and the outputs'.
abbrev pub combine_faults : Lengths → Lengths → RecordLengths → List Fault
combine_faults a b out =
    (TooLong if (strand_too_long a || strand_too_long b))
    ∷ (Ragged if (strand_ragged a || strand_ragged b))
    ∷ (OutputTooShort if record_too_short (common_length a b) out)
    ∷ []

abbrev pub combine_refused : Option ConversionPattern → Arrays → Option ConversionPattern → Arrays → RecordArrays → Option Refusal
combine_refused ma a mb b out = refused (combine_faults (lengths ma a) (lengths mb b) (record_lengths ma mb out))

-- What a call that combines two strands answers and leaves in its outputs.
pub record CombinedAs (lab : GivenSettings) (ct : CtInput) (ma : Option ConversionPattern) (a : Arrays) (mb : Option ConversionPattern) (b : Arrays) (listed : Bool) (before now : RecordArrays) (r : Result ℕ Refusal) : Type 0 where
  pub answered : r ≡ answer (combine_refused ma a mb b before) (common_length (lengths ma a) (lengths mb b))
  pub outputs : LeavesRecord (combine_refused ma a mb b before) (both_arrays lab listed uncounted (common_length (lengths ma a) (lengths mb b)) ct ma a mb b) before now
