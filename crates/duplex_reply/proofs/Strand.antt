-- A strand that numbers tell of, by the arrays that were lent for it and for its evidence. Assumes nothing.
use mathlib.Core.Path.{◌≡◌, ap, ◌∙◌}
use Prim.Native.Nat.{ℕ}
use Rattle.std.proofs.Common.{Result}
use Rattle.refusals.specs.declared.Refusal.{Refusal}
use Rattle.methylation.specs.Arrays.{EvidenceArrays, evidence_in}
use Rattle.methylation.specs.Choices.{annotation_of}
use Rattle.methylation.specs.declared.EvidenceSlices.{EvidenceSlices}
use Rattle.vanilla_caller.specs.Strand.{Arrays, arrays_in, with_evidence, arrays_seen}
use Rattle.vanilla_caller.specs.declared.VanillaConsensusRead.{VanillaConsensusRead}
use Rattle.duplex_kind.specs.Kind.{Strand}
use Rattle.duplex_reply.specs.Strand.{strand_by}

pub told_as :
    (p m : ℕ) (t : VanillaConsensusRead) (e : EvidenceSlices) {x : Arrays} {y : EvidenceArrays} {r : Result Strand Refusal}
    → r ≡ strand_by p m (arrays_seen (annotation_of m) (with_evidence (arrays_in t) (evidence_in e)))
    → arrays_in t ≡ x
    → evidence_in e ≡ y
    → r ≡ strand_by p m (arrays_seen (annotation_of m) (with_evidence x y))
told_as p m t e {x} h f g =
    h
    ∙ ap (λ (z : Arrays). strand_by p m (arrays_seen (annotation_of m) (with_evidence z (evidence_in e)))) f
    ∙ ap (λ (z : EvidenceArrays). strand_by p m (arrays_seen (annotation_of m) (with_evidence x z))) g
