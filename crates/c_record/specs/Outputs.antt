-- A duplex record as bytes: a base and a quality are one byte, errors two bytes a position, low byte first, evidence nine.
use Rattle.std.specs.Prelude.{ℕ, ◌/◌, ◌≡◌, Bool, Option, Some, None, List, [], ◌∷◌}
use Rattle.std.specs.Option.{option_and}
use Rattle.refusals.specs.declared.Refusal.{Refusal}
use Rattle.refusals.specs.declared.Refusal.TheVariants.{OutputTooShort}
use Rattle.refusals.specs.Refusal.{◌if◌, refused}
use Rattle.refusals.specs.Outcome.{after}
use Rattle.methylation.specs.Arrays.{evidence_of_length}
use Rattle.methylation.specs.declared.ConversionPattern.{ConversionPattern}
use Rattle.byte_numbers.specs.Bytes.{words16, bytes16}
use Rattle.molecule_evidence.specs.Evidence.{marks_of, unconverted_of, converted_of, evidence_bytes}
use Rattle.duplex_outputs.specs.Outputs.{RecordArrays, record_of, record_lengths, record_too_short}
use Rattle.duplex_outputs.specs.declared.RecordLengths.{RecordLengths}
use Rattle.duplex_kind.specs.declared.DuplexConsensus.{DuplexConsensus}
use Rattle.duplex_kind.specs.declared.DuplexConsensus.TheVariants.{Ab, Ba, Both}
use Rattle.c_record.specs.declared.Written.{Written}

-- The outputs of a record, and what is written to them.
pub record RecordBytes : Type 0 where
  pub bases : List ℕ
  pub quals : List ℕ
  pub errors : List ℕ
  pub evidence_a : List ℕ
  pub evidence_b : List ℕ

abbrev pub record_bytes : List ℕ → List ℕ → List ℕ → List ℕ → List ℕ → RecordBytes
record_bytes bases quals errors evidence_a evidence_b = record { bases = bases; quals = quals; errors = errors; evidence_a = evidence_a; evidence_b = evidence_b }

-- The bytes of a record's arrays.
abbrev pub as_bytes : RecordArrays → RecordBytes
as_bytes r =
    record_bytes r.bases r.quals (bytes16 r.errors) (evidence_bytes r.a.marks r.a.unconverted r.a.converted)
    (evidence_bytes r.b.marks r.b.unconverted r.b.converted)

-- The arrays that some bytes are: outputs of so many bytes hold so many numbers.
unfoldable pub as_arrays : RecordBytes → RecordArrays
as_arrays r =
    record_of r.bases r.quals (words16 r.errors) (marks_of r.evidence_a) (unconverted_of r.evidence_a) (converted_of r.evidence_a)
    (marks_of r.evidence_b) (unconverted_of r.evidence_b) (converted_of r.evidence_b)

-- What a call leaves there, where it was refused or else writes these bytes.
pub record LeavesBytes (refused : Option Refusal) (written before now : RecordBytes) : Type 0 where
  pub bases : now.bases ≡ after refused written.bases before.bases
  pub quals : now.quals ≡ after refused written.quals before.quals
  pub errors : now.errors ≡ after refused written.errors before.errors
  pub evidence_a : now.evidence_a ≡ after refused written.evidence_a before.evidence_a
  pub evidence_b : now.evidence_b ≡ after refused written.evidence_b before.evidence_b

abbrev pub written : ℕ → Option ConversionPattern → Option ConversionPattern → Written
written n first second = record { positions = n; first = first; second = second }

-- How many positions are written of an answer, and with which annotations the first strand and the second, by those of A and of B. A
-- strand alone is the first.
abbrev pub written_of : Option ConversionPattern → Option ConversionPattern → Option DuplexConsensus → Written
written_of a b None = written 0 None None
written_of a b (Some (Ab n)) = written n a None
written_of a b (Some (Ba n)) = written n b None
written_of a b (Some (Both n)) = written n a b

-- Refusal 12's condition for it.
abbrev pub short_for : Written → RecordArrays → Bool
short_for w out = record_too_short w.positions (record_lengths w.first w.second out)

abbrev pub outputs_refused : Written → RecordBytes → Option Refusal
outputs_refused w out = refused ((OutputTooShort if short_for w (as_arrays out)) ∷ [])

-- For the functions below the call: how many positions outputs of so many bytes hold, of evidence where it is written.
abbrev pub positions_in : Written → ℕ → ℕ → ℕ → ℕ → ℕ → RecordLengths
positions_in w bases quals errors a b = record {
  bases = bases;
  quals = quals;
  errors = errors / 2;
  a = option_and w.first (Some (evidence_of_length (a / 9)));
  b = option_and w.second (Some (evidence_of_length (b / 9)));
}
