-- Evidence is written where there is an annotation, and nowhere else. Assumes nothing.
use mathlib.Core.Path.{◌≡◌, refl}
use Prim.Native.Nat.{ℕ}
use Rattle.std.proofs.Common.{Option, None, Some}
use Rattle.lists.specs.Output.{put}
use Rattle.lists.specs.Part.{only_if}
use Rattle.methylation.specs.Annotation.{pattern_held, evidence_held}
use Rattle.methylation.specs.Arrays.{EvidenceArrays, evidence_in, evidence_only_if, PutsEvidence}
use Rattle.methylation.specs.Methylation.{is_annotated}
use Rattle.methylation.specs.declared.MethylationAnnotation.{MethylationAnnotation}
use Rattle.methylation_evidence.specs.Gate.{gated}

module _ (n : ℕ) {m : Option MethylationAnnotation} where
  pub gated_of : {x : MethylationAnnotation} {before now : EvidenceArrays} → m ≡ Some x → PutsEvidence (gated n (evidence_in x.evidence)) before now → PutsEvidence (evidence_only_if (is_annotated (pattern_held m)) (gated n (evidence_held m))) before now
  unfolding only_if
  gated_of is p = rw is p

  pub none_of : {before : EvidenceArrays} → m ≡ None → PutsEvidence (evidence_only_if (is_annotated (pattern_held m)) (gated n (evidence_held m))) before before
  unfolding only_if put
  none_of is = rw is (record { marks = refl; unconverted = refl; converted = refl })
