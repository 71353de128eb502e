-- The claims of specs/Absent.antt.
--     marks_seen        evidence without an annotation
--     not_looked_at, none_without_annotation     the claims
-- Assumes nothing.
use mathlib.Core.Path.{◌≡◌, refl, ap, ◌∙◌}
use mathlib.Core.Bool.{Bool, true, false, cond}
use mathlib.Core.List.{List}
use Prim.Native.Nat.{ℕ}
use native.Mathlib.Omega.{arith}
use lib.ListN.{get_or}
use Rattle.std.proofs.Common.{Option, Some, None, Result, Ok, Err}
use Rattle.refusals.specs.declared.Refusal.{Refusal}
use Rattle.refusals.specs.Outcome.{answer}
use Rattle.methylation.specs.Annotation.{pattern_held, evidence_held, evidence_seen}
use Rattle.methylation.specs.Arrays.{EvidenceArrays}
use Rattle.methylation.specs.Outputs.{no_evidence}
use Rattle.methylation.specs.declared.MethylationAnnotation.{MethylationAnnotation}
use Rattle.methylation.specs.declared.ConversionPattern.{ConversionPattern}
use Rattle.methylation.specs.declared.ConversionPattern.TheVariants.{CToT, GToA}
use Rattle.vanilla_caller.specs.Strand.{Arrays}
use Rattle.vanilla_caller.specs.declared.VanillaConsensusRead.{VanillaConsensusRead}
use Rattle.duplex_kind.specs.Absent.{seen_of}
use Rattle.duplex_kind.specs.Kind.{Strand, given_of, record_kind}
use Rattle.duplex_kind.proofs.Absent as kind
use Rattle.duplex_kind.specs.declared.DuplexConsensus.{DuplexConsensus}
use Rattle.duplex_kind.specs.declared.DuplexConsensus.TheVariants.{Ab, Ba, Both}
use Rattle.duplex_reason.specs.Reason.{called_by, holds, reason_at}
use Rattle.duplex_reason.specs.Record.{reason_told, shown_in, shown_at, within}
use Rattle.duplex_reason.specs.declared.NoCallReason.{NoCallReason}
use Rattle.duplex_reason.specs.declared.Shown.{Shown}
use Rattle.duplex_reason.specs.Absent.{NotLookedAt, NoneWithoutAnnotation}

-- Of a record of one strand it does not matter what the strands show.
module _ (s t u v : Shown) (k i : ℕ) where
  abbrev Same : Option Refusal → Option DuplexConsensus → Type 0
  Same row made = reason_told (answer row made) s t i ≡ reason_told (answer row made) u v i

  same_ab : (row : Option Refusal) (met : Bool) → Same row (cond met (Some (Ab k)) None)
  same_ab None true = refl
  same_ab None false = refl
  same_ab (Some row) met = refl

  same_ba : (row : Option Refusal) (met : Bool) → Same row (cond met (Some (Ba k)) None)
  same_ba None true = refl
  same_ba None false = refl
  same_ba (Some row) met = refl

-- Of two strands no mark is looked at that stands beside no annotation.
abbrev showing : Option ConversionPattern → Arrays → List ℕ → ℕ → Shown
showing m x marks i = shown_in m x.bases x.quals marks i

marks_seen :
    (m : Option ConversionPattern) (x : Arrays) (n : Option ConversionPattern) (y : Arrays) (i : ℕ)
    → reason_at (showing m x (evidence_seen m x.evidence).marks i) (showing n y (evidence_seen n y.evidence).marks i)
    ≡ reason_at (showing m x x.evidence.marks i) (showing n y y.evidence.marks i)
unfolding reason_at holds called_by
marks_seen None x None y i = refl
marks_seen None x (Some q) y i = refl
marks_seen (Some CToT) x None y i = refl
marks_seen (Some GToA) x None y i = refl
marks_seen (Some p) x (Some q) y i = refl

told_seen :
    (made : Result (Option DuplexConsensus) Refusal) (a b : Strand) (i : ℕ)
    → reason_told made (shown_at (seen_of a) i) (shown_at (seen_of b) i) i ≡ reason_told made (shown_at a i) (shown_at b i) i
told_seen (Err refusal) a b i = refl
told_seen (Ok None) a b i = refl
told_seen (Ok (Some (Ab n))) a b i = refl
told_seen (Ok (Some (Ba n))) a b i = refl
told_seen (Ok (Some (Both n))) a b i = ap (λ (reason : NoCallReason). Ok (within n reason i)) (marks_seen a.annotation a.arrays b.annotation b.arrays i)

pub not_looked_at : NotLookedAt
not_looked_at = record {
  first = λ m n x y b i. same_ba _ _ _ _ _ _ _ _;
  second = λ a m n x y i. same_ab _ _ _ _ _ _ _ _;
  evidence = λ a b i.
      ap (λ (made : Result (Option DuplexConsensus) Refusal). reason_told made (shown_at (seen_of a) i) (shown_at (seen_of b) i) i) (kind.not_looked_at.evidence a b false 0 false)
      ∙ told_seen (record_kind a b false 0 false) a b i;
}

no_pattern : (m : Option MethylationAnnotation) → pattern_held m ≡ None → evidence_held m ≡ no_evidence
no_pattern None e = refl
no_pattern (Some m) e = let z : ◌≡◌ {A = ℕ} 0 1 = cc in absurd (omega arith)

no_annotation : (s : Option VanillaConsensusRead) → (given_of s).annotation ≡ None → (given_of s).arrays.evidence ≡ no_evidence
no_annotation None e = refl
no_annotation (Some r) e = no_pattern r.methylation e

pub none_without_annotation : NoneWithoutAnnotation
none_without_annotation = record {
  evidence = no_annotation;
  mark = λ s i e. ap (λ (x : EvidenceArrays). get_or x.marks i 0) (no_annotation s e);
}
