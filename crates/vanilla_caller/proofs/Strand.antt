-- What a call that writes a strand leaves in its outputs, by its refusal, and what the rows on lengths leave.
--     leaves_refused     refused: every output is as it was
--     leaves_passed      not refused: every output has its array written to its front
--     even, roomy        what rows 8 and 12 leave
--     lent_as            a strand that was lent beside its evidence
--     lengths_seen       what is looked at is as long
-- Assumes nothing.
use mathlib.Core.Path.{◌≡◌, refl, ap, ◌∙◌}
use Rattle.std.proofs.Common.{Option, Some, None}
use mathlib.Core.Bool.{true, false}
use mathlib.Core.List.{[], ◌∷◌}
use Prim.Native.Nat.{ℕ, ◌≤◌}
use lib.ListN.{length}
use Rattle.lists.specs.Output.{put}
use Rattle.refusals.specs.declared.Refusal.{Refusal}
use Rattle.refusals.specs.Refusal.{ragged, too_short}
use Rattle.refusals.proofs.Condition.{Every, neither, not_ragged, not_too_short}
use Rattle.methylation.specs.Arrays.{EvidenceArrays, evidence_in, three, evidence_lengths, evidence_uneven, evidence_too_short, PutsEvidence}
use Rattle.methylation.specs.Methylation.{is_annotated}
use Rattle.methylation.specs.declared.ConversionPattern.{ConversionPattern}
use Rattle.methylation.specs.declared.EvidenceSlices.{EvidenceSlices}
use Rattle.methylation.proofs.Arrays.{evidence_refused, evidence_put, as_many_as, where_annotated}
use Rattle.vanilla_caller.specs.declared.VanillaConsensusRead.{VanillaConsensusRead}
use Rattle.vanilla_caller.specs.Strand.{Arrays, arrays_in, with_evidence, arrays_seen, lengths, four, strand_ragged, outputs_too_short, Leaves}

-- A strand s that is t with an annotation, by the arrays of t and of the evidence that was lent.
pub lent_as :
    (annotation : Option ConversionPattern) (s t : VanillaConsensusRead) (e : EvidenceSlices) {x : Arrays} {y : EvidenceArrays}
    → arrays_in s ≡ arrays_seen annotation (with_evidence (arrays_in t) (evidence_in e))
    → arrays_in t ≡ x
    → evidence_in e ≡ y
    → arrays_in s ≡ arrays_seen annotation (with_evidence x y)
lent_as annotation s t e {x} h f g = h ∙ ap (λ (z : Arrays). arrays_seen annotation (with_evidence z (evidence_in e))) f ∙ ap (λ (z : EvidenceArrays). arrays_seen annotation (with_evidence x z)) g

-- Evidence without an annotation has no part in the lengths.
pub lengths_seen : (annotation : Option ConversionPattern) (a : Arrays) → lengths annotation (arrays_seen annotation a) ≡ lengths annotation a
lengths_seen None a = refl
lengths_seen (Some pattern) a = refl

pub leaves_refused : (row : Refusal) (written before : Arrays) → Leaves (Some row) written before before
leaves_refused row written before = record {
  bases = refl;
  quals = refl;
  depths = refl;
  errors = refl;
  evidence = evidence_refused row _ _;
}

-- Every output has its array written to its front.
pub record Puts (written before now : Arrays) : Type 0 where
  pub bases : now.bases ≡ put written.bases before.bases
  pub quals : now.quals ≡ put written.quals before.quals
  pub depths : now.depths ≡ put written.depths before.depths
  pub errors : now.errors ≡ put written.errors before.errors
  pub evidence : PutsEvidence written.evidence before.evidence now.evidence

pub leaves_passed : {written before now : Arrays} → Puts written before now → Leaves None written before now
leaves_passed p = record {
  bases = p.bases;
  quals = p.quals;
  depths = p.depths;
  errors = p.errors;
  evidence = evidence_put p.evidence;
}

-- All arrays are as long as the bases, the evidence's where there is an annotation.
pub record Even (annotation : Option ConversionPattern) (s : Arrays) : Type 0 where
  pub own : Every (λ x. x ≡ length s.bases) (length s.quals ∷ length s.depths ∷ length s.errors ∷ [])
  pub evidence : is_annotated annotation ≡ true → Every (λ x. x ≡ length s.bases) (three (evidence_lengths s.evidence))

pub even : (annotation : Option ConversionPattern) (s : Arrays) → strand_ragged (lengths annotation s) ≡ false → Even annotation s
even annotation s h =
    let n = length s.bases in
    let (same, same_evidence) = neither (ragged (four (lengths annotation s))) _ h in
    record {
      own = not_ragged n (length s.quals ∷ length s.depths ∷ length s.errors ∷ []) same;
      evidence = λ k. as_many_as n (evidence_lengths s.evidence) (where_annotated (evidence_uneven n) annotation s.evidence same_evidence k);
    }

-- There is room for n positions, and for evidence where it goes.
pub record Roomy (n : ℕ) (annotation : Option ConversionPattern) (out : Arrays) : Type 0 where
  pub own : Every (λ x. n ≤ x) (four (lengths annotation out))
  pub evidence : is_annotated annotation ≡ true → Every (λ x. n ≤ x) (three (evidence_lengths out.evidence))

pub roomy : (n : ℕ) (annotation : Option ConversionPattern) (out : Arrays) → outputs_too_short n (lengths annotation out) ≡ false → Roomy n annotation out
roomy n annotation out h =
    let own = four (lengths annotation out) in
    let (wide, wide_evidence) = neither (too_short n own) _ h in
    record {
      own = not_too_short n own wide;
      evidence = λ k. not_too_short n (three (evidence_lengths out.evidence)) (where_annotated (evidence_too_short n) annotation out.evidence wide_evidence k);
    }
