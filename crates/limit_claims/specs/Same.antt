-- Two calls of an entry by two limits, with the same of all else, strands, reads, ceiling and outputs: where neither limit is below the
-- strands they answer the same and leave the same, refusals included. Proved in proofs/Same.antt.
use Rattle.std.specs.Prelude.{◌≡◌, Bool, Option, Some, None, List, ℕ, ◌≤◌}
use Rattle.methylation.specs.declared.ConversionPattern.{ConversionPattern}
use Rattle.replies.specs.declared.Count.{Count}
use Rattle.vanilla_caller.specs.Strand.{Arrays, lengths}
use Rattle.vanilla_caller.specs.declared.Lengths.{Lengths}
use Rattle.duplex_molecule.specs.declared.CtInput.{CtInput}
use Rattle.duplex_outputs.specs.Outputs.{RecordArrays}
use Rattle.duplex_kind.specs.Limit.{lengths_of}
use Rattle.duplex_reply.specs.Strand.{told_strand}
use Rattle.duplex_reply.specs.declared.DuplexRecord.{DuplexRecord}
use Rattle.duplex_reply.specs.declared.ToldMolecule.{ToldMolecule}
use Rattle.duplex_consensus.specs.Consensus.{EntryAs}
use Rattle.source_reads.specs.declared.SourceRead.{SourceRead}
use Rattle.molecule_strand.specs.Strand.{StrandBytes, strand_of}
use Rattle.c_record.specs.Outputs.{RecordBytes}
use Rattle.c_interface.specs.Entry.{previewed, ConsensusEntry}
use Rattle.c_interface.specs.declared.ToldEncodedMolecule.{ToldEncodedMolecule}
use Rattle.ceiling_claims.specs.Entries.{settings_of, under, AnnotatedEntry, PlainEntry}
use Rattle.ceiling_claims.specs.Bytes.{encoded_under}
use Rattle.limit_claims.specs.Arrays.{Within}

-- The same answer, and the same in the outputs.
pub record SameCall {Outputs Answer : Type 0} (now also : Outputs) (r s : Answer) : Type 0 where
  pub answer : r ≡ s
  pub outputs : now ≡ also

-- Of strands whose lengths fit, two calls of any entry by the limits one and other.
pub record SameCalls (Fits : Option Lengths → Option Lengths → Type 0) (one other : ℕ) : Type 0 where
  -- `gedrashiw_duplex_consensus_typed`.
  pub typed :
      (ceiling : ℕ) (m : ToldMolecule) (a b : Arrays) (reads : List SourceRead) (bytes : List ℕ) (before now also : RecordArrays) (r s : DuplexRecord)
      → Fits (lengths_of (told_strand m.a a)) (lengths_of (told_strand m.b b))
      → EntryAs (under (settings_of ceiling one) m) a b reads bytes before now r
      → EntryAs (under (settings_of ceiling other) m) a b reads bytes before also s
      → SameCall now also r s
  -- `gedrashiw_combine_strands_annotated`.
  pub annotated :
      (ceiling : ℕ) (wrong : Bool) (ct : CtInput) (ma : Option ConversionPattern) (a : Arrays) (mb : Option ConversionPattern) (b : Arrays) (listed : Bool)
      (before now also : RecordArrays) (r s : Count)
      → Fits (Some (lengths ma a)) (Some (lengths mb b))
      → AnnotatedEntry wrong (settings_of ceiling one) ct ma a mb b listed before now r
      → AnnotatedEntry wrong (settings_of ceiling other) ct ma a mb b listed before also s
      → SameCall now also r s
  -- `gedrashiw_combine_strands`.
  pub plain :
      (ceiling : ℕ) (a b : Arrays) (listed : Bool) (before now also : RecordArrays) (r s : Count)
      → Fits (Some (lengths None a)) (Some (lengths None b))
      → PlainEntry (settings_of ceiling one) a b listed before now r
      → PlainEntry (settings_of ceiling other) a b listed before also s
      → SameCall now also r s
  -- `gedrashiw_duplex_consensus`, over bytes.
  pub bytes :
      (ceiling : ℕ) (m : ToldEncodedMolecule) (a b : StrandBytes) (run : List ℕ) (before now also : RecordBytes) (r s : DuplexRecord)
      → Fits (lengths_of (strand_of a)) (lengths_of (strand_of b))
      → ConsensusEntry (encoded_under (settings_of ceiling one) m) a b run before now r
      → ConsensusEntry (encoded_under (settings_of ceiling other) m) a b run before also s
      → SameCall now also r s

-- The one statement over the limit: of strands of up to so many positions an array, by any two limits that let so many pass.
abbrev pub SameWithin : Type 0
SameWithin = (most one other : ℕ) → most ≤ one → most ≤ other → SameCalls (Within most) one other

-- So every limit up to 1,024 gives of strands within it what 1,024 gives, the limit of 256 too.
abbrev pub AsAt1024 : Type 0
AsAt1024 = (limit : ℕ) → limit ≤ 1024 → SameCalls (Within limit) limit 1024

abbrev pub ShortRecords : Type 0
ShortRecords = SameCalls (Within 256) 256 1024

-- `gedrashiw_preview_consensus` is `gedrashiw_duplex_consensus` by a limit of 256 at most: of strands of up to 256 positions an array they
-- are the same, by whichever limit of 256 or more the other is called: the lab's own, or the batch product's 1,024.
abbrev pub Previewed : Type 0
Previewed =
    (m : ToldEncodedMolecule) (limit : ℕ) (a b : StrandBytes) (run : List ℕ) (before now also : RecordBytes) (r s : DuplexRecord)
    → 256 ≤ m.settings.limit
    → 256 ≤ limit
    → Within 256 (lengths_of (strand_of a)) (lengths_of (strand_of b))
    → ConsensusEntry (previewed m) a b run before now r
    → ConsensusEntry (encoded_under (settings_of m.settings.ceiling limit) m) a b run before also s
    → SameCall now also r s

-- A limit above 1,024 is as 1,024, whatever the strands, since 7 comes first. So no limit is wrong.
abbrev pub Any : Option Lengths → Option Lengths → Type 0
Any a b = Unit {0}

abbrev pub NoneAbove1024 : Type 0
NoneAbove1024 = (limit : ℕ) → 1024 ≤ limit → SameCalls Any limit 1024
