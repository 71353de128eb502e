-- What the entries answer of strands over a lab's limit, in their numbers. Proved in proofs/Over.antt.
use Rattle.std.specs.Prelude.{◌≡◌, Bool, false, Option, Some, None, List, ℕ, ◌≤◌}
use Rattle.settings.specs.Settings.{limited_to}
use Rattle.settings.specs.declared.GivenSettings.{GivenSettings}
use Rattle.methylation.specs.declared.ConversionPattern.{ConversionPattern}
use Rattle.replies.specs.Replies.{not_counted}
use Rattle.replies.specs.declared.Count.{Count}
use Rattle.vanilla_caller.specs.Strand.{Arrays, lengths}
use Rattle.vanilla_caller.specs.declared.Lengths.{Lengths}
use Rattle.duplex_molecule.specs.declared.CtInput.{CtInput}
use Rattle.duplex_outputs.specs.Outputs.{RecordArrays}
use Rattle.duplex_kind.specs.Limit.{lengths_of}
use Rattle.duplex_reply.specs.Reply.{no_record}
use Rattle.duplex_reply.specs.Strand.{wrong_molecule, told_strand}
use Rattle.duplex_reply.specs.declared.DuplexRecord.{DuplexRecord}
use Rattle.duplex_reply.specs.declared.ToldMolecule.{ToldMolecule}
use Rattle.duplex_consensus.specs.Consensus.{EntryAs}
use Rattle.source_reads.specs.declared.SourceRead.{SourceRead}
use Rattle.molecule_strand.specs.Strand.{StrandBytes, strand_of}
use Rattle.c_record.specs.Outputs.{RecordBytes}
use Rattle.c_interface.specs.Entry.{previewed, ConsensusEntry}
use Rattle.c_interface.specs.declared.ToldEncodedMolecule.{ToldEncodedMolecule}
use Rattle.ceiling_claims.specs.Entries.{AnnotatedEntry, PlainEntry}
use Rattle.ceiling_claims.specs.Bytes.{row_13}
use Rattle.limit_claims.specs.Arrays.{Over, Within}

-- An entry, by whether 13 refuses it, a lab's settings and the lengths of its strands. That 13 and 14 come first is said in
-- `ceiling_claims`.
pub record AtTheLimit {Outputs Answer : Type 0} (no : ℕ → Answer) (number : Answer → ℕ) (row_13 : Bool) (lab : GivenSettings) (a b : Option Lengths) (before now : Outputs) (r : Answer) : Type 0 where
  -- Over the limit, and none over 1,024: 19, whatever else is wrong, and nothing is written.
  pub over : row_13 ≡ false → 3 ≤ lab.ceiling → lab.ceiling ≤ 93 → Within 1024 a b → Over lab.limit a b → (r ≡ no 19) × (now ≡ before)
  -- Over 1,024: 7, whatever the limit, of either strand before 19 of the other.
  pub long : row_13 ≡ false → 3 ≤ lab.ceiling → lab.ceiling ≤ 93 → Over 1024 a b → (r ≡ no 7) × (now ≡ before)
  -- Not over the limit: never 19, whatever else is wrong.
  pub within : Within lab.limit a b → number r ≡ 19 → ⊥

pub record OverTheLimit : Type 0 where
  -- `gedrashiw_duplex_consensus_typed`.
  pub typed :
      (m : ToldMolecule) (a b : Arrays) (reads : List SourceRead) (bytes : List ℕ) (before now : RecordArrays) (r : DuplexRecord)
      → EntryAs m a b reads bytes before now r
      → AtTheLimit no_record (λ (d : DuplexRecord). d.refused) (wrong_molecule m) m.settings (lengths_of (told_strand m.a a)) (lengths_of (told_strand m.b b)) before now r
  -- `gedrashiw_combine_strands_annotated`.
  pub annotated :
      (wrong : Bool) (lab : GivenSettings) (ct : CtInput) (ma : Option ConversionPattern) (a : Arrays) (mb : Option ConversionPattern) (b : Arrays) (listed : Bool)
      (before now : RecordArrays) (r : Count)
      → AnnotatedEntry wrong lab ct ma a mb b listed before now r
      → AtTheLimit not_counted (λ (c : Count). c.refused) wrong lab (Some (lengths ma a)) (Some (lengths mb b)) before now r
  -- `gedrashiw_combine_strands`.
  pub plain :
      (lab : GivenSettings) (a b : Arrays) (listed : Bool) (before now : RecordArrays) (r : Count)
      → PlainEntry lab a b listed before now r
      → AtTheLimit not_counted (λ (c : Count). c.refused) false lab (Some (lengths None a)) (Some (lengths None b)) before now r
  -- `gedrashiw_duplex_consensus`, over bytes.
  pub bytes :
      (m : ToldEncodedMolecule) (a b : StrandBytes) (run : List ℕ) (before now : RecordBytes) (r : DuplexRecord)
      → ConsensusEntry m a b run before now r
      → AtTheLimit no_record (λ (d : DuplexRecord). d.refused) (row_13 m a b run) m.settings (lengths_of (strand_of a)) (lengths_of (strand_of b)) before now r
  -- `gedrashiw_preview_consensus`: the same with no more than 256, and 19 of 257 to 1,024 whatever the lab's limit.
  pub preview :
      (m : ToldEncodedMolecule) (a b : StrandBytes) (run : List ℕ) (before now : RecordBytes) (r : DuplexRecord)
      → ConsensusEntry (previewed m) a b run before now r
      → AtTheLimit no_record (λ (d : DuplexRecord). d.refused) (row_13 m a b run) (limited_to 256 m.settings) (lengths_of (strand_of a)) (lengths_of (strand_of b)) before now r
  pub over_256 :
      (m : ToldEncodedMolecule) (a b : StrandBytes) (run : List ℕ) (before now : RecordBytes) (r : DuplexRecord)
      → ConsensusEntry (previewed m) a b run before now r
      → row_13 m a b run ≡ false
      → 3 ≤ m.settings.ceiling
      → m.settings.ceiling ≤ 93
      → Within 1024 (lengths_of (strand_of a)) (lengths_of (strand_of b))
      → Over 256 (lengths_of (strand_of a)) (lengths_of (strand_of b))
      → (r ≡ no_record 19) × (now ≡ before)
