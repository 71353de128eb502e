-- The duplex record from bytes to bytes, document 01's form for the viewer: the library's call on the numbers, its outputs as bytes.
use Rattle.std.specs.Prelude.{ℕ, ◌≡◌, Bool, Option, Result, List, ◌++◌}
use Rattle.refusals.specs.declared.Refusal.{Refusal}
use Rattle.refusals.specs.Refusal.{Fault, refused}
use Rattle.refusals.specs.Outcome.{answer}
use Rattle.settings.specs.Settings.{settings_faults}
use Rattle.settings.specs.declared.GivenSettings.{GivenSettings}
use Rattle.duplex_kind.specs.Kind.{kind_of}
use Rattle.duplex_kind.specs.Limit.{lengths_of, limit_faults}
use Rattle.duplex_kind.specs.declared.DuplexConsensus.{DuplexConsensus}
use Rattle.molecule_strand.specs.Strand.{StrandBytes, strand_of}
use Rattle.molecule_consensus.specs.Bytes.{bytes_faults, bytes_record}
use Rattle.molecule_consensus.specs.Molecule.{MoleculeBytes}
use Rattle.c_record.specs.Outputs.{RecordBytes, as_bytes, as_arrays, LeavesBytes}

-- What refuses the settings, row 19 by the lab's limit, and what refuses that call. Outputs of so many bytes hold so many numbers.
abbrev pub call_faults : GivenSettings → StrandBytes → StrandBytes → Bool → List ℕ → RecordBytes → List Fault
call_faults lab a b listed run out =
    settings_faults lab ++ limit_faults lab.limit (lengths_of (strand_of a)) (lengths_of (strand_of b)) ++ bytes_faults a b listed run (as_arrays out)

abbrev pub call_refused : GivenSettings → StrandBytes → StrandBytes → Bool → List ℕ → RecordBytes → Option Refusal
call_refused lab a b listed run out = refused (call_faults lab a b listed run out)

-- What a call answers and leaves in its outputs, given the lab's settings and what is looked at.
pub record ConsensusBytesAs (lab : GivenSettings) (a b : StrandBytes) (listed : Bool) (run : List ℕ) (before now : RecordBytes) (r : Result (Option DuplexConsensus) Refusal) : Type 0 where
  pub answered : r ≡ answer (call_refused lab a b listed run before) (kind_of (strand_of a) (strand_of b))
  pub outputs : LeavesBytes (call_refused lab a b listed run before) (as_bytes (bytes_record lab a b listed run)) before now

-- The same of a molecule.
abbrev pub MoleculeBytesAs : GivenSettings → MoleculeBytes → RecordBytes → RecordBytes → Result (Option DuplexConsensus) Refusal → Type 0
MoleculeBytesAs lab m before now r = ConsensusBytesAs lab m.a m.b m.listed m.run before now r
