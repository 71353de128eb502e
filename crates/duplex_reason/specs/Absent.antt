-- Nothing of a strand that is not present is looked at, nor evidence without an annotation; and a lent strand has none without one.
-- Proved in proofs/Absent.antt.
use Rattle.std.specs.Prelude.{◌≡◌, None, Option, ℕ}
use Rattle.methylation.specs.declared.ConversionPattern.{ConversionPattern}
use Rattle.methylation.specs.Outputs.{no_evidence}
use Rattle.vanilla_caller.specs.Strand.{Arrays}
use Rattle.vanilla_caller.specs.declared.VanillaConsensusRead.{VanillaConsensusRead}
use Rattle.duplex_kind.specs.Absent.{absent, seen_of}
use Rattle.duplex_kind.specs.Kind.{Strand, given_of}
use Rattle.duplex_reason.specs.Record.{shown_at, reason_of}

pub record NotLookedAt : Type 0 where
  pub first : (m n : Option ConversionPattern) (x y : Arrays) (b : Strand) (i : ℕ) → reason_of (absent m x) b i ≡ reason_of (absent n y) b i
  pub second : (a : Strand) (m n : Option ConversionPattern) (x y : Arrays) (i : ℕ) → reason_of a (absent m x) i ≡ reason_of a (absent n y) i
  pub evidence : (a b : Strand) (i : ℕ) → reason_of (seen_of a) (seen_of b) i ≡ reason_of a b i

-- A lent strand without an annotation, or none, has no evidence: of such a strand the mark that shown_at answers is 0 at every position.
pub record NoneWithoutAnnotation : Type 0 where
  pub evidence : (s : Option VanillaConsensusRead) → (given_of s).annotation ≡ None → (given_of s).arrays.evidence ≡ no_evidence
  pub mark : (s : Option VanillaConsensusRead) (i : ℕ) → (given_of s).annotation ≡ None → (shown_at (given_of s) i).mark ≡ 0
