-- The outputs that a duplex record is written to.
use Rattle.std.specs.Prelude.{ℕ, ◌≡◌, Bool, false, ◌||◌, Option, List, [], ◌∷◌, length}
use Rattle.std.specs.Option.{option_map_or}
use Rattle.refusals.specs.declared.Refusal.{Refusal}
use Rattle.refusals.specs.Refusal.{too_short}
use Rattle.refusals.specs.Outcome.{after}
use Rattle.methylation.specs.Arrays.{EvidenceArrays, evidence_arrays, annotated_lengths, evidence_too_short, LeavesEvidence}
use Rattle.methylation.specs.declared.ConversionPattern.{ConversionPattern}
use Rattle.duplex_outputs.specs.declared.RecordLengths.{RecordLengths}

-- The record's own arrays, and the evidence of strands A and B.
pub record RecordArrays : Type 0 where
  pub bases : List ℕ
  pub quals : List ℕ
  pub errors : List ℕ
  pub a : EvidenceArrays
  pub b : EvidenceArrays

abbrev pub record_of : List ℕ → List ℕ → List ℕ → List ℕ → List ℕ → List ℕ → List ℕ → List ℕ → List ℕ → RecordArrays
record_of bases quals errors ma ua ca mb ub cb = record {
  bases = bases;
  quals = quals;
  errors = errors;
  a = evidence_arrays ma ua ca;
  b = evidence_arrays mb ub cb;
}

-- How many places they have, where the evidence goes there of strands with these annotations or none.
abbrev pub record_lengths : Option ConversionPattern → Option ConversionPattern → RecordArrays → RecordLengths
record_lengths for_a for_b r = record {
  bases = length r.bases;
  quals = length r.quals;
  errors = length r.errors;
  a = annotated_lengths for_a r.a;
  b = annotated_lengths for_b r.b;
}

-- The record's own.
abbrev pub own_lengths : RecordLengths → List ℕ
own_lengths out = out.bases ∷ out.quals ∷ out.errors ∷ []

-- Row 12's condition for n positions.
abbrev pub record_too_short : ℕ → RecordLengths → Bool
record_too_short n out =
    too_short n (own_lengths out)
    || (option_map_or (evidence_too_short n) out.a false || option_map_or (evidence_too_short n) out.b false)

-- What a call leaves there, where it was refused or else writes these arrays.
pub record LeavesRecord (refused : Option Refusal) (written before now : RecordArrays) : Type 0 where
  pub bases : now.bases ≡ after refused written.bases before.bases
  pub quals : now.quals ≡ after refused written.quals before.quals
  pub errors : now.errors ≡ after refused written.errors before.errors
  pub a : LeavesEvidence refused written.a before.a now.a
  pub b : LeavesEvidence refused written.b before.b now.b
