-- What a call leaves in the arrays lent for evidence, by its refusal, and what the rows on lengths leave.
--     evidence_refused                          refused: every array is as it was
--     evidence_put                              not refused: every array has its own written to its front
--     equal_lengths, as_many_as, enough_room    what rows 8 and 12 leave
--     where_annotated                           what a condition that is not met says where there is an annotation
-- Assumes nothing.
use mathlib.Core.Path.{◌≡◌, refl, sym}
use mathlib.Core.Bool.{Bool, true, false, true≢false}
use mathlib.Core.List.{[], ◌∷◌}
use Prim.Native.Nat.{ℕ, ◌≤◌}
use Rattle.std.proofs.Common.{Option, Some, None}
use Rattle.std.specs.Option.{option_map_or}
use Rattle.refusals.specs.declared.Refusal.{Refusal}
use Rattle.refusals.proofs.Condition.{Every, not_ragged, not_too_short}
use Rattle.methylation.specs.Arrays.{EvidenceArrays, annotated_lengths, evidence_lengths, three, evidence_ragged, evidence_uneven, evidence_too_short, PutsEvidence, LeavesEvidence}
use Rattle.methylation.specs.Methylation.{is_annotated}
use Rattle.methylation.specs.declared.ConversionPattern.{ConversionPattern}
use Rattle.methylation.specs.declared.EvidenceLengths.{EvidenceLengths}

pub evidence_refused : (row : Refusal) (written before : EvidenceArrays) → LeavesEvidence (Some row) written before before
evidence_refused row written before = record { marks = refl; unconverted = refl; converted = refl }

pub evidence_put : {written before now : EvidenceArrays} → PutsEvidence written before now → LeavesEvidence None written before now
evidence_put p = record { marks = p.marks; unconverted = p.unconverted; converted = p.converted }

pub equal_lengths : (e : EvidenceLengths) → evidence_ragged e ≡ false → (e.unconverted ≡ e.marks) × (e.converted ≡ e.marks)
equal_lengths e h =
    let equal = not_ragged e.marks (e.unconverted ∷ e.converted ∷ []) h in
    (equal.0, equal.1.0)

pub as_many_as : (n : ℕ) (e : EvidenceLengths) → evidence_uneven n e ≡ false → Every (λ x. x ≡ n) (three e)
as_many_as n e h = not_ragged n (three e) h

pub enough_room : (n : ℕ) (out : EvidenceLengths) → evidence_too_short n out ≡ false → (n ≤ out.marks) × (n ≤ out.unconverted) × (n ≤ out.converted)
enough_room n out h =
    let enough = not_too_short n (three out) h in
    (enough.0, enough.1.0, enough.1.1.0)

pub where_annotated :
    (test : EvidenceLengths → Bool) (annotation : Option ConversionPattern) (e : EvidenceArrays)
    → option_map_or test (annotated_lengths annotation e) false ≡ false
    → is_annotated annotation ≡ true
    → test (evidence_lengths e) ≡ false
where_annotated test None e h there = absurd (true≢false (sym there))
where_annotated test (Some pattern) e h there = h
