-- At the ceiling 93 and the limit 1,024 everything is as it was before a lab could choose them. No old definition is kept beside the new:
-- the old rule is the new one with these put in, by a lab whose settings are `usual`. Proved in proofs/Before.antt.
use Rattle.std.specs.Prelude.{None, Option, Err, ◌≡◌, Bool, true, List, ◌∷◌, ℕ, ◌+◌, ◌-◌, ◌<◌, min, max, get_or}
use Rattle.refusals.specs.declared.Refusal.TheVariants.{Broken}
use Rattle.refusals.specs.Refusal.{◌if◌, refused}
use Rattle.refusals.specs.Outcome.{answer}
use Rattle.phred.specs.Phred.{capped_quality, ceiling_faults}
use Rattle.settings.specs.Settings.{usual, settings_faults}
use Rattle.methylation.specs.declared.ConversionPattern.{ConversionPattern}
use Rattle.replies.specs.Choices.{yes}
use Rattle.replies.specs.Replies.{not_counted, numbered, count_reply, number_reply, PassedOn, RepliedAs}
use Rattle.replies.specs.declared.Count.{Count}
use Rattle.vanilla_caller.specs.Strand.{Arrays}
use Rattle.duplex_molecule.specs.declared.CtInput.{CtInput}
use Rattle.duplex_molecule.specs.declared.CtInput.TheVariants.{Neither}
use Rattle.duplex_position.specs.Combination.{agreed, disagreed, masked, called}
use Rattle.duplex_call.specs.Annotated.{combined}
use Rattle.duplex_arrays.specs.Positions.{position_of}
use Rattle.duplex_outputs.specs.Outputs.{RecordArrays}
use Rattle.duplex_strands.specs.Combine.{both_arrays, CombinedAs}
use Rattle.duplex_reply.specs.Reply.{record_for}
use Rattle.duplex_reply.specs.Strand.{wrong_molecule, told_strand}
use Rattle.duplex_reply.specs.declared.DuplexRecord.{DuplexRecord}
use Rattle.duplex_reply.specs.declared.ToldMolecule.{ToldMolecule}
use Rattle.duplex_consensus.specs.Consensus.{ConsensusAs, EntryAs}
use Rattle.molecule_strand.specs.Strand.{StrandBytes}
use Rattle.molecule_consensus.specs.Bytes.{bytes_faults}
use Rattle.c_record.specs.Outputs.{RecordBytes, as_arrays}
use Rattle.c_interface.specs.Entry.{entry_refused}
use Rattle.source_reads.specs.declared.SourceRead.{SourceRead}
use Rattle.ceiling_claims.specs.Positions.{Unheld}
use Rattle.ceiling_claims.specs.Entries.{under, AnnotatedEntry, PlainEntry}

pub record AsBefore : Type 0 where
  -- The usual ceiling is 93, the usual limit 1,024, and nothing refuses them.
  pub chosen : usual.ceiling ≡ 93
  pub limit : usual.limit ≡ 1024
  pub taken : refused (settings_faults usual) ≡ None
  -- The old rule held a quality to 2 and 93: a sum, a difference, and at a call the confirming strand's own.
  pub held : (score : ℕ) → capped_quality 93 score ≡ max 2 (min score 93)
  pub sum : (p q : ℕ) → agreed 93 p q ≡ max 2 (min (p + q) 93)
  pub difference : (p q : ℕ) → disagreed 93 p q ≡ max 2 (min ((p - q) + (q - p)) 93)
  pub alone : (a qa b qb confirmed confirming : ℕ) → called 93 a qa b qb confirmed true confirming ≡ masked a b confirmed (max 2 (min confirming 93))
  -- So a position: what it is before its quality is held takes no ceiling.
  pub position : (ct : CtInput) (a qa ma b qb mb : ℕ) (u : Unheld ct a qa ma b qb mb) → combined 93 ct a qa ma b qb mb ≡ masked a b u.base (max 2 (min u.qual 93))
  -- And every position of a record of two strands. Its errors and evidence take no settings, nor does a record of one strand.
  pub two_strands :
      (listed : Bool) (counted : ℕ → ℕ) (n : ℕ) (ct : CtInput) (ma : Option ConversionPattern) (a : Arrays) (mb : Option ConversionPattern) (b : Arrays) (i : ℕ)
      → i < n
      → (get_or (both_arrays usual listed counted n ct ma a mb b).bases i 0 ≡ (position_of 93 ct a b i).base)
      × (get_or (both_arrays usual listed counted n ct ma a mb b).quals i 0 ≡ (position_of 93 ct a b i).qual)
  -- The entries promise what they did: 13 where a number stands for nothing, else the library's call. That one by the usual settings. 19 is
  -- never met by them: an array over 1,024 is refused by 7, of the entry or of the call.
  pub typed :
      (m : ToldMolecule) (a b : Arrays) (reads : List SourceRead) (bytes : List ℕ) (before now : RecordArrays) (r : DuplexRecord)
      → EntryAs (under usual m) a b reads bytes before now r
      → RepliedAs (wrong_molecule m) (record_for (Err Broken)) record_for (ConsensusAs usual (told_strand m.a a) (told_strand m.b b) (yes m.listed) reads bytes) before now r
  pub annotated :
      (wrong : Bool) (ct : CtInput) (ma : Option ConversionPattern) (a : Arrays) (mb : Option ConversionPattern) (b : Arrays) (listed : Bool)
      (before now : RecordArrays) (r : Count)
      → AnnotatedEntry wrong usual ct ma a mb b listed before now r
      → RepliedAs wrong (not_counted 13) count_reply (CombinedAs usual ct ma a mb b listed) before now r
  pub plain :
      (a b : Arrays) (listed : Bool) (before now : RecordArrays) (r : Count)
      → PlainEntry usual a b listed before now r
      → PassedOn count_reply (CombinedAs usual Neither None a None b listed) before now r
  -- That over bytes is refused by the rows that it had; what else it promises is the library's call by the usual settings.
  pub bytes :
      (wrong : Bool) (a b : StrandBytes) (listed : Bool) (run : List ℕ) (out : RecordBytes)
      → entry_refused wrong usual a b listed run out ≡ refused ((Broken if wrong) ∷ bytes_faults a b listed run (as_arrays out))
  pub cap : (score : ℕ) → number_reply (answer (refused (ceiling_faults 93)) (capped_quality 93 score)) ≡ numbered (max 2 (min score 93))
