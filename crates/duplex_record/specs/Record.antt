-- The duplex record, document 01: of two strands, one or none.
use Rattle.std.specs.Prelude.{Option, Some, None, Result, ℕ, ◌≡◌, Bool, false, List, [], ◌∷◌, ◌++◌}
use Rattle.refusals.specs.declared.Refusal.{Refusal}
use Rattle.refusals.specs.declared.Refusal.TheVariants.{OutputTooShort}
use Rattle.refusals.specs.Refusal.{Fault, ◌if◌, refused}
use Rattle.refusals.specs.Outcome.{answer}
use Rattle.settings.specs.declared.GivenSettings.{GivenSettings}
use Rattle.duplex_molecule.specs.Molecule.{ct_input}
use Rattle.duplex_outputs.specs.Outputs.{RecordArrays, record_of, record_lengths, record_too_short, LeavesRecord}
use Rattle.duplex_strands.specs.Combine.{both_arrays}
use Rattle.duplex_single.specs.Single.{single_arrays}
use Rattle.duplex_kind.specs.Kind.{Strand, kind_of, strand_faults}
use Rattle.duplex_kind.specs.declared.DuplexConsensus.{DuplexConsensus}
use Rattle.duplex_kind.specs.declared.DuplexConsensus.TheVariants.{Ab, Ba, Both}

-- Nothing is written.
abbrev pub nothing : RecordArrays
nothing = record_of [] [] [] [] [] [] [] [] []

-- What is written, by a lab's settings. `counted` is what was counted of a list of reads at each position of a record of two strands.
abbrev pub record_arrays : GivenSettings → Strand → Strand → Bool → (ℕ → ℕ) → Option DuplexConsensus → RecordArrays
record_arrays lab a b listed counted None = nothing
record_arrays lab a b listed counted (Some (Ab n)) = single_arrays a.annotation a.arrays
record_arrays lab a b listed counted (Some (Ba n)) = single_arrays b.annotation b.arrays
record_arrays lab a b listed counted (Some (Both n)) =
    both_arrays lab listed counted n (ct_input a.annotation b.annotation) a.annotation a.arrays b.annotation b.arrays

-- Refusal 12's condition: only for what is written.
abbrev pub outputs_short : Strand → Strand → RecordArrays → Option DuplexConsensus → Bool
outputs_short a b out None = false
outputs_short a b out (Some (Ab n)) = record_too_short n (record_lengths a.annotation None out)
outputs_short a b out (Some (Ba n)) = record_too_short n (record_lengths b.annotation None out)
outputs_short a b out (Some (Both n)) = record_too_short n (record_lengths a.annotation b.annotation out)

-- Rows 7 to 10 are tested over all that is given, whether or not there will be a record.
abbrev pub duplex_faults : Strand → Strand → Bool → ℕ → Bool → RecordArrays → List Fault
duplex_faults a b listed count leaving out = strand_faults a b listed count leaving ++ (OutputTooShort if outputs_short a b out (kind_of a b)) ∷ []

abbrev pub duplex_refused : Strand → Strand → Bool → ℕ → Bool → RecordArrays → Option Refusal
duplex_refused a b listed count leaving out = refused (duplex_faults a b listed count leaving out)

-- What a call answers and leaves in its outputs.
pub record DuplexAs (lab : GivenSettings) (a b : Strand) (listed : Bool) (count : ℕ) (leaving : Bool) (counted : ℕ → ℕ) (before now : RecordArrays) (r : Result (Option DuplexConsensus) Refusal) : Type 0 where
  pub answered : r ≡ answer (duplex_refused a b listed count leaving before) (kind_of a b)
  pub outputs : LeavesRecord (duplex_refused a b listed count leaving before) (record_arrays lab a b listed counted (kind_of a b)) before now
