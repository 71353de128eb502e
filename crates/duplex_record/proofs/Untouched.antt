-- The outputs of evidence to which nothing goes are as they were. Assumes nothing.
use mathlib.Core.Path.{◌≡◌, refl, ◌∙◌}
use mathlib.Core.List.{List, []}
use Rattle.std.proofs.Common.{Option, Some, None}
use Rattle.lists.proofs.Output.{put_none}
use Rattle.refusals.specs.declared.Refusal.{Refusal}
use Rattle.refusals.specs.Outcome.{after}
use Rattle.methylation.specs.Arrays.{EvidenceArrays, evidence_arrays, LeavesEvidence}

-- They are as they were.
pub record Same (before now : EvidenceArrays) : Type 0 where
  pub marks : now.marks ≡ before.marks
  pub unconverted : now.unconverted ≡ before.unconverted
  pub converted : now.converted ≡ before.converted

pub same : {e : EvidenceArrays} → Same e e
same = record { marks = refl; unconverted = refl; converted = refl }

pub after_none : {A : Type 0} (row : Option Refusal) (out : List A) → out ≡ after row [] out
after_none None out = put_none out
after_none (Some row) out = refl

-- Refused or not.
pub no_evidence : (row : Option Refusal) {before now : EvidenceArrays} → Same before now → LeavesEvidence row (evidence_arrays [] [] []) before now
no_evidence row s = record {
  marks = s.marks ∙ after_none row _;
  unconverted = s.unconverted ∙ after_none row _;
  converted = s.converted ∙ after_none row _;
}
