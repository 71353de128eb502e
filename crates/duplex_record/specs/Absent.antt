-- Nothing of a strand that is not present, or of a list that is not there, is looked at, nor evidence without an annotation. Proved in
-- proofs/Absent.antt.
use Rattle.std.specs.Prelude.{Option, Result, Bool, false, ℕ}
use Rattle.refusals.specs.declared.Refusal.{Refusal}
use Rattle.settings.specs.declared.GivenSettings.{GivenSettings}
use Rattle.methylation.specs.declared.ConversionPattern.{ConversionPattern}
use Rattle.vanilla_caller.specs.Strand.{Arrays}
use Rattle.duplex_outputs.specs.Outputs.{RecordArrays}
use Rattle.duplex_kind.specs.Absent.{absent, seen_of}
use Rattle.duplex_kind.specs.Kind.{Strand}
use Rattle.duplex_kind.specs.declared.DuplexConsensus.{DuplexConsensus}
use Rattle.duplex_record.specs.Record.{DuplexAs}

-- What is counted of a list of reads does not matter either where a strand is absent: it is counted of a record of two strands.
pub record NotLookedAt (lab : GivenSettings) (f g : ℕ → ℕ) (listed : Bool) (count : ℕ) (leaving : Bool) (before now : RecordArrays) (r : Result (Option DuplexConsensus) Refusal) : Type 0 where
  pub first :
      (m n : Option ConversionPattern) (x y : Arrays) (b : Strand)
      → DuplexAs lab (absent m x) b listed count leaving f before now r
      → DuplexAs lab (absent n y) b listed count leaving g before now r
  pub second :
      (a : Strand) (m n : Option ConversionPattern) (x y : Arrays)
      → DuplexAs lab a (absent m x) listed count leaving f before now r
      → DuplexAs lab a (absent n y) listed count leaving g before now r
  pub list :
      (a b : Strand) (other : ℕ) (leaves : Bool)
      → DuplexAs lab a b false count leaving f before now r
      → DuplexAs lab a b false other leaves f before now r
  pub evidence :
      (a b : Strand)
      → DuplexAs lab (seen_of a) (seen_of b) listed count leaving f before now r
      → DuplexAs lab a b listed count leaving f before now r
