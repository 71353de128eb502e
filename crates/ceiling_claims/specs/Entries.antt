-- The entries over numbers that take a lab's settings. Proved in proofs/Entries.antt.
use Rattle.std.specs.Prelude.{Result, Err, ◌≡◌, Bool, true, false, cond, List, ◌++◌, ℕ, ◌≤◌, ◌<◌, min, max, eqb, Option, Some, None}
use Rattle.refusals.specs.declared.Refusal.{Refusal}
use Rattle.refusals.specs.declared.Refusal.TheVariants.{Broken, CeilingOutside}
use Rattle.refusals.specs.Refusal.{refused}
use Rattle.refusals.specs.Outcome.{answer}
use Rattle.phred.specs.Phred.{capped_quality, ceiling_faults}
use Rattle.settings.specs.Settings.{settings_faults, told_faults}
use Rattle.settings.specs.declared.GivenSettings.{GivenSettings}
use Rattle.methylation.specs.declared.ConversionPattern.{ConversionPattern}
use Rattle.replies.specs.Replies.{no_number, numbered, number_reply, count_reply, TurnedDown, RefusedOr}
use Rattle.replies.specs.declared.Count.{Count}
use Rattle.replies.specs.declared.Number.{Number}
use Rattle.vanilla_caller.specs.Strand.{Arrays, lengths}
use Rattle.vanilla_caller.specs.declared.Lengths.{Lengths}
use Rattle.duplex_molecule.specs.declared.CtInput.{CtInput}
use Rattle.duplex_molecule.specs.declared.CtInput.TheVariants.{Neither}
use Rattle.duplex_outputs.specs.Outputs.{RecordArrays}
use Rattle.duplex_strands.specs.Combine.{CombinedAs}
use Rattle.duplex_kind.specs.Limit.{length_faults}
use Rattle.duplex_reply.specs.Reply.{no_record}
use Rattle.duplex_reply.specs.Strand.{wrong_molecule}
use Rattle.duplex_reply.specs.declared.DuplexRecord.{DuplexRecord}
use Rattle.duplex_reply.specs.declared.ToldMolecule.{ToldMolecule}
use Rattle.duplex_consensus.specs.Consensus.{EntryAs}
use Rattle.source_reads.specs.declared.SourceRead.{SourceRead}
use Rattle.ceiling_claims.specs.Positions.{Ceilings}
use Rattle.ceiling_claims.specs.Records.{LoweredCall}

-- Any entry that refuses by 13, the settings and its strands' lengths before its call: 13 comes first, then 14, exactly outside 3 to 93.
-- Both come before the rows by lengths and all of the call, so before 7, whatever else is wrong, and nothing is written. Within, the entry
-- is as one that refuses by the lengths alone. So `gedrashiw_combine_strands_annotated`, and with no wrong number
-- `gedrashiw_combine_strands`.
pub record InTurn {Told Numbers Outputs : Type 0} (reply : Result Told Refusal → Numbers) (As : Outputs → Outputs → Result Told Refusal → Type 0) (wrong : Bool) (lab : GivenSettings) (a b : Option Lengths) (before now : Outputs) (r : Numbers) : Type 0 where
  pub broken : wrong ≡ true → TurnedDown (reply (Err Broken)) before now r
  pub below : wrong ≡ false → lab.ceiling < 3 → TurnedDown (reply (Err CeilingOutside)) before now r
  pub above : wrong ≡ false → 93 < lab.ceiling → TurnedDown (reply (Err CeilingOutside)) before now r
  pub within : wrong ≡ false → 3 ≤ lab.ceiling → lab.ceiling ≤ 93 → RefusedOr (refused (length_faults lab.limit a b)) reply As before now r

abbrev pub TestedInTurn : Type 1
TestedInTurn =
    (Told Numbers Outputs : Type 0) (reply : Result Told Refusal → Numbers) (As : Outputs → Outputs → Result Told Refusal → Type 0)
    (wrong : Bool) (lab : GivenSettings) (a b : Option Lengths) (before now : Outputs) (r : Numbers)
    → RefusedOr (refused (told_faults wrong lab ++ length_faults lab.limit a b)) reply As before now r
    → InTurn reply As wrong lab a b before now r

-- `gedrashiw_cap_quality`, in the numbers that it answers, by its contract.
pub record AtTheCap (score ceiling : ℕ) (r : Number) : Type 0 where
  pub below : ceiling < 3 → r ≡ no_number 14
  pub above : 93 < ceiling → r ≡ no_number 14
  pub within : 3 ≤ ceiling → ceiling ≤ 93 → r ≡ numbered (max 2 (min score ceiling))

abbrev pub TestedAtTheCap : Type 0
TestedAtTheCap = (score ceiling : ℕ) (r : Number) → r ≡ number_reply (answer (refused (ceiling_faults ceiling)) (capped_quality ceiling score)) → AtTheCap score ceiling r

-- `gedrashiw_duplex_consensus_typed`, in the numbers that it answers: 14 after 13 and exactly outside, of whatever is told, lent and listed.
pub record AtTheEntry (m : ToldMolecule) (before now : RecordArrays) (r : DuplexRecord) : Type 0 where
  pub broken : wrong_molecule m ≡ true → (r ≡ no_record 13) × (now ≡ before)
  pub below : wrong_molecule m ≡ false → m.settings.ceiling < 3 → (r ≡ no_record 14) × (now ≡ before)
  pub above : wrong_molecule m ≡ false → 93 < m.settings.ceiling → (r ≡ no_record 14) × (now ≡ before)
  pub within : 3 ≤ m.settings.ceiling → m.settings.ceiling ≤ 93 → r.refused ≡ 14 → ⊥

abbrev pub TestedAtTheEntry : Type 0
TestedAtTheEntry =
    (m : ToldMolecule) (a b : Arrays) (reads : List SourceRead) (bytes : List ℕ) (before now : RecordArrays) (r : DuplexRecord)
    → EntryAs m a b reads bytes before now r
    → AtTheEntry m before now r

-- How many positions of the answer are of two strands.
abbrev pub of_two_told : DuplexRecord → ℕ
of_two_told r = cond (eqb r.kind 3) r.positions 0

-- Settings of a ceiling and a limit.
abbrev pub settings_of : ℕ → ℕ → GivenSettings
settings_of ceiling limit = record { ceiling = ceiling; limit = limit }

-- A molecule that is told of, by other settings.
abbrev pub under : GivenSettings → ToldMolecule → ToldMolecule
under lab m = record { a = m.a; b = m.b; listed = m.listed; settings = lab }

-- What `gedrashiw_combine_strands_annotated` promises of strands with these annotations and arrays, by whether the number of one stands for
-- nothing; and `gedrashiw_combine_strands`, to which no annotation is told.
abbrev pub AnnotatedEntry : Bool → GivenSettings → CtInput → Option ConversionPattern → Arrays → Option ConversionPattern → Arrays → Bool → RecordArrays → RecordArrays → Count → Type 0
AnnotatedEntry wrong lab ct ma a mb b listed =
    RefusedOr (refused (told_faults wrong lab ++ length_faults lab.limit (Some (lengths ma a)) (Some (lengths mb b)))) count_reply
    (CombinedAs lab ct ma a mb b listed)

abbrev pub PlainEntry : GivenSettings → Arrays → Arrays → Bool → RecordArrays → RecordArrays → Count → Type 0
PlainEntry lab a b listed =
    RefusedOr (refused (settings_faults lab ++ length_faults lab.limit (Some (lengths None a)) (Some (lengths None b)))) count_reply
    (CombinedAs lab Neither None a None b listed)

-- Two calls of an entry at two ceilings, with the same of all else, the limit too, answer the same numbers and leave what `LoweredCall` says.
pub record EntriesAtTwo : Type 0 where
  -- `gedrashiw_duplex_consensus_typed`.
  pub typed :
      (lower higher limit : ℕ) (m : ToldMolecule) (a b : Arrays) (reads : List SourceRead) (bytes : List ℕ)
      (before at_lower at_higher : RecordArrays) (r s : DuplexRecord)
      → Ceilings lower higher
      → EntryAs (under (settings_of lower limit) m) a b reads bytes before at_lower r
      → EntryAs (under (settings_of higher limit) m) a b reads bytes before at_higher s
      → LoweredCall of_two_told lower at_lower at_higher r s
  -- `gedrashiw_combine_strands_annotated`; and `gedrashiw_combine_strands`, where no annotation can be wrong.
  pub combined :
      (lower higher limit : ℕ) (wrong : Bool) (ct : CtInput) (ma : Option ConversionPattern) (a : Arrays) (mb : Option ConversionPattern) (b : Arrays) (listed : Bool)
      (before at_lower at_higher : RecordArrays) (r s : Count)
      → Ceilings lower higher
      → AnnotatedEntry wrong (settings_of lower limit) ct ma a mb b listed before at_lower r
      → AnnotatedEntry wrong (settings_of higher limit) ct ma a mb b listed before at_higher s
      → LoweredCall (λ (answer : Count). answer.count) lower at_lower at_higher r s
