-- Records of two strands, of one or of none, by the settings of two labs. Proved in proofs/Records.antt.
-- That no error count, nor what a read should show, nor evidence depends on a ceiling is seen from the types already: `expected`,
-- `estimated`, `list_errors`, `combined_errors` and `kept_evidence` take no settings and no ceiling, nor do the conditions that refuse a
-- record. What follows for all that calls answer and leave is said here.
use Rattle.std.specs.Prelude.{Option, Some, Result, Ok, Err, ◌≡◌, Bool, true, List, ℕ, ◌≤◌, ◌<◌, min, length, get_or}
use Rattle.lists.specs.Output.{put}
use Rattle.refusals.specs.declared.Refusal.{Refusal}
use Rattle.settings.specs.declared.GivenSettings.{GivenSettings}
use Rattle.methylation.specs.declared.ConversionPattern.{ConversionPattern}
use Rattle.vanilla_caller.specs.Strand.{Arrays}
use Rattle.duplex_molecule.specs.declared.CtInput.{CtInput}
use Rattle.duplex_outputs.specs.Outputs.{RecordArrays}
use Rattle.duplex_strands.specs.Combine.{CombinedAs}
use Rattle.duplex_kind.specs.Kind.{Strand}
use Rattle.duplex_kind.specs.declared.DuplexConsensus.{DuplexConsensus}
use Rattle.duplex_kind.specs.declared.DuplexConsensus.TheVariants.{Ab, Ba}
use Rattle.duplex_record.specs.Record.{record_arrays, DuplexAs}
use Rattle.duplex_consensus.specs.Consensus.{counted_positions}
use Rattle.ceiling_claims.specs.Positions.{Ceilings}

-- How many positions of an answer are combined of two strands: all of a record of two strands, those whose errors a list would be
-- counted at; and all that a call which combines two strands answers.
abbrev pub of_two : Result (Option DuplexConsensus) Refusal → ℕ
of_two made = counted_positions true made

abbrev pub combined_in : Result ℕ Refusal → ℕ
combined_in (Ok n) = n
combined_in (Err refusal) = 0

-- Qualities at the lower of two ceilings, and at the higher. They differ only at the first n positions, those of two strands. There each
-- is the smaller of the lower ceiling and the other.
pub record LoweredQuals (ceiling n : ℕ) (lower higher : List ℕ) : Type 0 where
  pub two_strands : (i : ℕ) → i < n → get_or lower i 0 ≡ min ceiling (get_or higher i 0)
  pub others : (i : ℕ) → n ≤ i → get_or lower i 0 ≡ get_or higher i 0
  pub places : length lower ≡ length higher

-- What stands in the outputs: the same bases, errors and evidence, and such qualities.
pub record LoweredRecord (ceiling n : ℕ) (lower higher : RecordArrays) : Type 0 where
  pub bases : lower.bases ≡ higher.bases
  pub quals : LoweredQuals ceiling n lower.quals higher.quals
  pub errors : lower.errors ≡ higher.errors
  pub evidence_a : lower.a ≡ higher.a
  pub evidence_b : lower.b ≡ higher.b

-- The same of two calls with the same strands, reads and outputs: they also answer the same, or refuse by the same row.
pub record LoweredCall {Answer : Type 0} (positions : Answer → ℕ) (ceiling : ℕ) (at_lower at_higher : RecordArrays) (r s : Answer) : Type 0 where
  pub answer : r ≡ s
  pub outputs : LoweredRecord ceiling (positions r) at_lower at_higher

-- What is written of two strands, of one or of none, with a list of reads or without, whatever is counted of it; two calls that combine
-- two strands, annotated or not; and two calls of the record.
pub record OfTwoStrands : Type 0 where
  pub written :
      (lower higher : GivenSettings) (a b : Strand) (listed : Bool) (counted : ℕ → ℕ) (kind : Option DuplexConsensus)
      → Ceilings lower.ceiling higher.ceiling
      → LoweredRecord lower.ceiling (of_two (Ok kind)) (record_arrays lower a b listed counted kind) (record_arrays higher a b listed counted kind)
  pub combined :
      (lower higher : GivenSettings) (ct : CtInput) (ma : Option ConversionPattern) (a : Arrays) (mb : Option ConversionPattern) (b : Arrays) (listed : Bool)
      (before at_lower at_higher : RecordArrays) (r s : Result ℕ Refusal)
      → Ceilings lower.ceiling higher.ceiling
      → CombinedAs lower ct ma a mb b listed before at_lower r
      → CombinedAs higher ct ma a mb b listed before at_higher s
      → LoweredCall combined_in lower.ceiling at_lower at_higher r s
  pub made :
      (lower higher : GivenSettings) (a b : Strand) (listed : Bool) (count : ℕ) (leaving : Bool) (counted : ℕ → ℕ)
      (before at_lower at_higher : RecordArrays) (r s : Result (Option DuplexConsensus) Refusal)
      → Ceilings lower.ceiling higher.ceiling
      → DuplexAs lower a b listed count leaving counted before at_lower r
      → DuplexAs higher a b listed count leaving counted before at_higher s
      → LoweredCall of_two lower.ceiling at_lower at_higher r s

-- No quality of a record of two strands is above the ceiling.
abbrev pub NoneAbove : Type 0
NoneAbove =
    (lab : GivenSettings) (a b : Strand) (listed : Bool) (count : ℕ) (leaving : Bool) (counted : ℕ → ℕ)
    (before now : RecordArrays) (r : Result (Option DuplexConsensus) Refusal) (i : ℕ)
    → Ceilings lab.ceiling lab.ceiling
    → DuplexAs lab a b listed count leaving counted before now r
    → i < of_two r
    → get_or now.quals i 0 ≤ lab.ceiling

-- A record of one strand has that strand's own qualities, whatever the ceiling.
pub record Uncapped : Type 0 where
  pub of_a :
      (lab : GivenSettings) (a b : Strand) (listed : Bool) (count : ℕ) (leaving : Bool) (counted : ℕ → ℕ) (before now : RecordArrays) (n : ℕ)
      → DuplexAs lab a b listed count leaving counted before now (Ok (Some (Ab n)))
      → now.quals ≡ put a.arrays.quals before.quals
  pub of_b :
      (lab : GivenSettings) (a b : Strand) (listed : Bool) (count : ℕ) (leaving : Bool) (counted : ℕ → ℕ) (before now : RecordArrays) (n : ℕ)
      → DuplexAs lab a b listed count leaving counted before now (Ok (Some (Ba n)))
      → now.quals ≡ put b.arrays.quals before.quals

-- Errors and evidence are the same by any two settings, also by some that no call takes; so is what a call answers.
pub record SameErrors (one other : RecordArrays) : Type 0 where
  pub errors : one.errors ≡ other.errors
  pub evidence_a : one.a ≡ other.a
  pub evidence_b : one.b ≡ other.b

abbrev pub ErrorsByAny : Type 0
ErrorsByAny =
    (lab other : GivenSettings) (a b : Strand) (listed : Bool) (count : ℕ) (leaving : Bool) (counted : ℕ → ℕ)
    (before now also : RecordArrays) (r s : Result (Option DuplexConsensus) Refusal)
    → DuplexAs lab a b listed count leaving counted before now r
    → DuplexAs other a b listed count leaving counted before also s
    → (r ≡ s) × SameErrors now also
