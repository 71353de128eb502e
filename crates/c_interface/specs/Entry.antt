-- What the entries for C give, document 01's forms for the viewer: the library's calls from bytes to bytes, with numbers for what is
-- there or not and for an answer.
use Rattle.std.specs.Prelude.{Option, Result, Ok, Err, ℕ, ◌≡◌, Bool, cond, ◌&&◌, ◌||◌, List, ◌++◌}
use Rattle.lists.specs.Part.{only_if}
use Rattle.refusals.specs.declared.Refusal.{Refusal}
use Rattle.refusals.specs.declared.Refusal.TheVariants.{Broken}
use Rattle.refusals.specs.Refusal.{refused}
use Rattle.refusals.specs.Outcome.{answer}
use Rattle.settings.specs.Settings.{limited_to, told_faults}
use Rattle.settings.specs.declared.GivenSettings.{GivenSettings}
use Rattle.replies.specs.Choices.{yes}
use Rattle.duplex_kind.specs.Kind.{kind_of}
use Rattle.duplex_kind.specs.Limit.{lengths_of, limit_faults}
use Rattle.duplex_reply.specs.Reply.{record_for}
use Rattle.duplex_reply.specs.declared.DuplexRecord.{DuplexRecord}
use Rattle.molecule_strand.specs.Strand.{StrandBytes, encoded_annotation, wrong_encoded_pattern, strand_bytes, encoded_in, strand_of}
use Rattle.molecule_strand.specs.declared.EncodedStrand.{EncodedStrand}
use Rattle.molecule_consensus.specs.Bytes.{seen, bytes_faults, bytes_record}
use Rattle.molecule_consensus.specs.Molecule.{MoleculeBytes, molecule_in}
use Rattle.molecule_consensus.specs.declared.EncodedMolecule.{EncodedMolecule}
use Rattle.c_interface.specs.declared.ToldEncodedMolecule.{ToldEncodedMolecule}
use Rattle.c_interface.specs.declared.ToldEncodedStrand.{ToldEncodedStrand}
use Rattle.c_record.specs.Outputs.{RecordBytes, as_bytes, as_arrays, LeavesBytes}

-- A pattern is looked at of a strand that is there and annotated.
abbrev pub told : ℕ → ℕ → Bool
told present annotated = yes present && yes annotated

-- Row 13's condition for what C tells of a strand: a pattern that is looked at and stands for nothing; and for a molecule, either strand's.
abbrev pub wrong_strand : ToldEncodedStrand → Bool
wrong_strand s = wrong_encoded_pattern (told s.present s.annotated) s.pattern

abbrev pub wrong_molecule : ToldEncodedMolecule → Bool
wrong_molecule m = wrong_strand m.a || wrong_strand m.b

-- A strand as C gives it, as far as it is looked at.
abbrev pub strand_given : ℕ → ℕ → ℕ → List ℕ → List ℕ → List ℕ → List ℕ → List ℕ → StrandBytes
strand_given present annotated pattern bases quals depths errors evidence =
    seen (strand_bytes (yes present) (encoded_annotation (told present annotated) pattern) bases quals depths errors evidence)

-- The strand, or 13 for a pattern that is looked at.
abbrev pub strand_told : ℕ → ℕ → ℕ → List ℕ → List ℕ → List ℕ → List ℕ → List ℕ → Result StrandBytes Refusal
strand_told present annotated pattern bases quals depths errors evidence =
    cond (wrong_encoded_pattern (told present annotated) pattern) (Err Broken) (Ok (strand_given present annotated pattern bases quals depths errors evidence))

-- As the code has it.
abbrev pub told_by : Result (Option EncodedStrand) Refusal → Result StrandBytes Refusal
told_by (Ok s) = Ok (encoded_in s)
told_by (Err refusal) = Err refusal

-- The molecule as C gives it, of strands as far as they are looked at: its reads where they are listed. Or 13 for a pattern that is looked
-- at.
abbrev pub molecule_told : ToldEncodedMolecule → StrandBytes → StrandBytes → List ℕ → Result MoleculeBytes Refusal
molecule_told m a b run = cond (wrong_molecule m) (Err Broken) (Ok (record { a = a; b = b; listed = yes m.listed; run = only_if (yes m.listed) run }))

-- As the code has it.
abbrev pub molecule_by : Result EncodedMolecule Refusal → Result MoleculeBytes Refusal
molecule_by (Ok m) = Ok (molecule_in m)
molecule_by (Err refusal) = Err refusal

-- Refusal 13 for a pattern, 14 for the settings and 19 by the lab's limit, with all that refuses the library's call.
abbrev pub entry_refused : Bool → GivenSettings → StrandBytes → StrandBytes → Bool → List ℕ → RecordBytes → Option Refusal
entry_refused wrong lab a b listed run out =
    refused (told_faults wrong lab ++ limit_faults lab.limit (lengths_of (strand_of a)) (lengths_of (strand_of b)) ++ bytes_faults a b listed run (as_arrays out))

-- A molecule of which a preview is asked: it shows no more than 256 positions, whatever the lab's limit.
abbrev pub previewed : ToldEncodedMolecule → ToldEncodedMolecule
previewed m = record { a = m.a; b = m.b; listed = m.listed; settings = limited_to 256 m.settings }

-- What an entry for the combination answers, as numbers, and leaves of a molecule that it is told of, with what is looked at of its strands.
pub record ConsensusEntry (m : ToldEncodedMolecule) (a b : StrandBytes) (run : List ℕ) (before now : RecordBytes) (r : DuplexRecord) : Type 0 where
  pub answered : r ≡ record_for (answer (entry_refused (wrong_molecule m) m.settings a b (yes m.listed) run before) (kind_of (strand_of a) (strand_of b)))
  pub outputs : LeavesBytes (entry_refused (wrong_molecule m) m.settings a b (yes m.listed) run before) (as_bytes (bytes_record m.settings a b (yes m.listed) run)) before now
