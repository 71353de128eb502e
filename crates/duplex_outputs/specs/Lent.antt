-- The outputs lent for a record, as arrays.
use Rattle.std.specs.Prelude.{◌≡◌, Option, length}
use Rattle.methylation.specs.Arrays.{EvidenceArrays}
use Rattle.methylation.specs.declared.EvidenceLengths.{EvidenceLengths}
use Rattle.duplex_outputs.specs.Outputs.{RecordArrays}
use Rattle.duplex_outputs.specs.declared.RecordLengths.{RecordLengths}
use Rattle.duplex_outputs.specs.declared.RecordOutputs.{RecordOutputs}

-- What stands in them, beside what stands in those for the evidence of A and of B.
abbrev pub record_out : RecordOutputs → EvidenceArrays → EvidenceArrays → RecordArrays
record_out out a b = record {
  bases = out.bases.now;
  quals = out.quals.now;
  errors = out.errors.now;
  a = a;
  b = b;
}

abbrev pub lengths_beside : RecordOutputs → Option EvidenceLengths → Option EvidenceLengths → RecordLengths
lengths_beside out a b = record {
  bases = length out.bases.now;
  quals = length out.quals.now;
  errors = length out.errors.now;
  a = a;
  b = b;
}

-- A call that was lent them left each slice where it was, so that who lent them knows what it holds.
pub record SameOutputs (before now : RecordOutputs) : Type 0 where
  pub bases : now.bases.ghost_name ≡ before.bases.ghost_name
  pub quals : now.quals.ghost_name ≡ before.quals.ghost_name
  pub errors : now.errors.ghost_name ≡ before.errors.ghost_name
