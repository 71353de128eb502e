-- The entry over bytes, `gedrashiw_duplex_consensus`, as that over numbers: 14 in its turn, and two calls of it at two ceilings. Proved in
-- proofs/Bytes.antt.
use Rattle.std.specs.Prelude.{◌≡◌, Bool, true, false, ◌||◌, List, ℕ, ◌≤◌, ◌<◌}
use Rattle.settings.specs.declared.GivenSettings.{GivenSettings}
use Rattle.replies.specs.Choices.{yes}
use Rattle.duplex_reply.specs.Reply.{no_record}
use Rattle.duplex_reply.specs.declared.DuplexRecord.{DuplexRecord}
use Rattle.molecule_strand.specs.Strand.{StrandBytes}
use Rattle.molecule_consensus.specs.Bytes.{broken}
use Rattle.c_record.specs.Outputs.{RecordBytes}
use Rattle.c_interface.specs.Entry.{wrong_molecule, ConsensusEntry}
use Rattle.c_interface.specs.declared.ToldEncodedMolecule.{ToldEncodedMolecule}
use Rattle.ceiling_claims.specs.Positions.{Ceilings}
use Rattle.ceiling_claims.specs.Records.{LoweredQuals}
use Rattle.ceiling_claims.specs.Entries.{of_two_told, settings_of}

-- Row 13's condition: a pattern that stands for nothing, a byte count that does not fit, or a list that is a broken run.
abbrev pub row_13 : ToldEncodedMolecule → StrandBytes → StrandBytes → List ℕ → Bool
row_13 m a b run = wrong_molecule m || broken a b (yes m.listed) run

-- 14 after 13 and exactly outside 3 to 93, of whatever is told, lent and listed.
pub record AtTheByteEntry (m : ToldEncodedMolecule) (a b : StrandBytes) (run : List ℕ) (before now : RecordBytes) (r : DuplexRecord) : Type 0 where
  pub broken : row_13 m a b run ≡ true → (r ≡ no_record 13) × (now ≡ before)
  pub below : row_13 m a b run ≡ false → m.settings.ceiling < 3 → (r ≡ no_record 14) × (now ≡ before)
  pub above : row_13 m a b run ≡ false → 93 < m.settings.ceiling → (r ≡ no_record 14) × (now ≡ before)
  pub within : 3 ≤ m.settings.ceiling → m.settings.ceiling ≤ 93 → r.refused ≡ 14 → ⊥

abbrev pub TestedAtTheByteEntry : Type 0
TestedAtTheByteEntry =
    (m : ToldEncodedMolecule) (a b : StrandBytes) (run : List ℕ) (before now : RecordBytes) (r : DuplexRecord)
    → ConsensusEntry m a b run before now r
    → AtTheByteEntry m a b run before now r

-- The outputs at the lower of two ceilings, and at the higher, as `LoweredRecord` has them over numbers.
pub record LoweredBytes (ceiling n : ℕ) (lower higher : RecordBytes) : Type 0 where
  pub bases : lower.bases ≡ higher.bases
  pub quals : LoweredQuals ceiling n lower.quals higher.quals
  pub errors : lower.errors ≡ higher.errors
  pub evidence_a : lower.evidence_a ≡ higher.evidence_a
  pub evidence_b : lower.evidence_b ≡ higher.evidence_b

-- A molecule that is told of, by other settings.
abbrev pub encoded_under : GivenSettings → ToldEncodedMolecule → ToldEncodedMolecule
encoded_under lab m = record { a = m.a; b = m.b; listed = m.listed; settings = lab }

-- Two calls at two ceilings, with the same of all else, the limit too.
abbrev pub BytesAtTwo : Type 0
BytesAtTwo =
    (lower higher limit : ℕ) (m : ToldEncodedMolecule) (a b : StrandBytes) (run : List ℕ)
    (before at_lower at_higher : RecordBytes) (r s : DuplexRecord)
    → Ceilings lower higher
    → ConsensusEntry (encoded_under (settings_of lower limit) m) a b run before at_lower r
    → ConsensusEntry (encoded_under (settings_of higher limit) m) a b run before at_higher s
    → (r ≡ s) × LoweredBytes lower (of_two_told r) at_lower at_higher
