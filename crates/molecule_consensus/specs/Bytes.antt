-- The duplex record of strands given as bytes, document 01's forms for the viewer and for an encoded molecule: depths and errors
-- two bytes a position, low byte first, evidence nine, and the reads as a run.
use Rattle.std.specs.Prelude.{ℕ, ◌%◌, ◌≡◌, Bool, false, not, ◌&&◌, ◌||◌, Option, Result, List, ◌∷◌, eqb, length}
use Rattle.lists.specs.Part.{only_if}
use Rattle.refusals.specs.declared.Refusal.TheVariants.{Broken}
use Rattle.refusals.specs.declared.Refusal.{Refusal}
use Rattle.refusals.specs.Refusal.{Fault, ◌if◌, refused}
use Rattle.refusals.specs.Outcome.{answer}
use Rattle.settings.specs.declared.GivenSettings.{GivenSettings}
use Rattle.methylation.specs.Methylation.{is_annotated}
use Rattle.byte_numbers.specs.Bytes.{odd_count}
use Rattle.molecule_fields.specs.Widths.{is_run}
use Rattle.molecule_reads.specs.Run.{reads_of}
use Rattle.duplex_outputs.specs.Outputs.{RecordArrays, LeavesRecord}
use Rattle.duplex_kind.specs.Kind.{kind_of, strand_faults}
use Rattle.duplex_kind.specs.declared.DuplexConsensus.{DuplexConsensus}
use Rattle.duplex_record.specs.Record.{record_arrays, duplex_faults}
use Rattle.molecule_errors.specs.Run.{run_errors}
use Rattle.molecule_strand.specs.Strand.{StrandBytes, strand_bytes, strand_of}

abbrev pub evident : StrandBytes → Bool
evident s = s.present && is_annotated s.annotation

-- What is looked at: nothing of an absent strand, and evidence only with an annotation.
abbrev pub seen : StrandBytes → StrandBytes
seen s = strand_bytes s.present s.annotation (only_if s.present s.bases) (only_if s.present s.quals) (only_if s.present s.depths) (only_if s.present s.errors) (only_if (evident s) s.evidence)

-- Byte counts of depths, errors or evidence that do not fit the widths.
abbrev pub misfit : StrandBytes → Bool
misfit s = odd_count (length s.depths) || (odd_count (length s.errors) || not (eqb (length s.evidence % 9) 0))

-- Refusal 13's condition: a byte count that does not fit, or a list that is a broken run.
abbrev pub broken : StrandBytes → StrandBytes → Bool → List ℕ → Bool
broken a b listed run = misfit a || (misfit b || (listed && not (is_run run)))

-- Refusal 13, then what refuses the library's call on the numbers and the reads of the run, of which no part leaves it.
abbrev pub bytes_faults : StrandBytes → StrandBytes → Bool → List ℕ → RecordArrays → List Fault
bytes_faults a b listed run out = (Broken if broken a b listed run) ∷ duplex_faults (strand_of a) (strand_of b) listed (length (reads_of run)) false out

abbrev pub bytes_refused : StrandBytes → StrandBytes → Bool → List ℕ → RecordArrays → Option Refusal
bytes_refused a b listed run out = refused (bytes_faults a b listed run out)

-- The rows that are tested over all that is given: what refuses a call whose outputs are long enough.
abbrev pub inputs_faults : StrandBytes → StrandBytes → Bool → List ℕ → List Fault
inputs_faults a b listed run = (Broken if broken a b listed run) ∷ strand_faults (strand_of a) (strand_of b) listed (length (reads_of run)) false

abbrev pub inputs_refused : StrandBytes → StrandBytes → Bool → List ℕ → Option Refusal
inputs_refused a b listed run = refused (inputs_faults a b listed run)

-- What the library's call writes, by a lab's settings.
abbrev pub bytes_record : GivenSettings → StrandBytes → StrandBytes → Bool → List ℕ → RecordArrays
bytes_record lab a b listed run = record_arrays lab (strand_of a) (strand_of b) listed (run_errors (strand_of a) (strand_of b) run) (kind_of (strand_of a) (strand_of b))

-- What a call answers and leaves in its outputs, given what is looked at.
pub record BytesAs (lab : GivenSettings) (a b : StrandBytes) (listed : Bool) (run : List ℕ) (before now : RecordArrays) (r : Result (Option DuplexConsensus) Refusal) : Type 0 where
  pub answered : r ≡ answer (bytes_refused a b listed run before) (kind_of (strand_of a) (strand_of b))
  pub outputs : LeavesRecord (bytes_refused a b listed run before) (bytes_record lab a b listed run) before now
