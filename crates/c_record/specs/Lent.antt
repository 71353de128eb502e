-- The outputs lent for a record as bytes.
use Rattle.std.specs.Prelude.{◌≡◌}
use Rattle.c_record.specs.Outputs.{RecordBytes, record_bytes}
use Rattle.c_record.specs.declared.ByteOutputs.{ByteOutputs}

-- What stands in them.
abbrev pub bytes_out : ByteOutputs → RecordBytes
bytes_out out = record_bytes out.bases.now out.quals.now out.errors.now out.a_evidence.now out.b_evidence.now

-- A call that was lent them left each slice where it was, so that who lent them knows what it holds.
pub record SameBytes (before now : ByteOutputs) : Type 0 where
  pub bases : now.bases.ghost_name ≡ before.bases.ghost_name
  pub quals : now.quals.ghost_name ≡ before.quals.ghost_name
  pub errors : now.errors.ghost_name ≡ before.errors.ghost_name
  pub a_evidence : now.a_evidence.ghost_name ≡ before.a_evidence.ghost_name
  pub b_evidence : now.b_evidence.ghost_name ≡ before.b_evidence.ghost_name
