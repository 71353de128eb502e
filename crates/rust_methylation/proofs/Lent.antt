-- The strand that is lent of an annotation and evidence beside it. Assumes nothing.
use mathlib.Core.Path.{◌≡◌}
use mathlib.Core.List.{List}
use Prim.Native.Nat.{ℕ}
use Rattle.std.proofs.Common.{Option}
use Rattle.methylation.specs.Annotation.{pattern_held, evidence_held, evidence_seen}
use Rattle.methylation.specs.Arrays.{EvidenceArrays, evidence_arrays}
use Rattle.methylation.specs.declared.ConversionPattern.{ConversionPattern}
use Rattle.methylation.specs.declared.MethylationAnnotation.{MethylationAnnotation}
use Rattle.duplex_texts.specs.Texts.{strand, strand_in, seen_of}

pub lent_as :
    (annotation : Option ConversionPattern) (s : Option MethylationAnnotation) (marks unconverted converted : List ℕ) {e : EvidenceArrays}
    → pattern_held s ≡ annotation
    → evidence_held s ≡ evidence_seen annotation e
    → e ≡ evidence_arrays marks unconverted converted
    → strand_in s ≡ seen_of (strand annotation marks unconverted converted)
lent_as annotation s marks unconverted converted p h is = rw (p, h, is)
