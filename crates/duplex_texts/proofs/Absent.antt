-- The claims of specs/Absent.antt. Assumes nothing.
use mathlib.Core.Path.{◌≡◌, refl}
use mathlib.Core.List.{List}
use Prim.Native.Nat.{ℕ}
use Rattle.std.proofs.Common.{None, Some, Option}
use Rattle.methylation.specs.Arrays.{EvidenceArrays}
use Rattle.methylation.specs.declared.ConversionPattern.{ConversionPattern}
use Rattle.methylation.specs.declared.MethylationMode.{MethylationMode}
use Rattle.duplex_texts.specs.Texts.{StrandAnnotation, seen_of, restored_seq, strand_mm, strand_ml, duplex_texts}
use Rattle.duplex_texts.specs.Outputs.{strand_lengths}
use Rattle.duplex_texts.specs.Absent.{NotLookedAt}

-- A strand of an annotation and evidence that are taken apart.
abbrev pub strand_with : Option ConversionPattern → EvidenceArrays → StrandAnnotation
strand_with annotation evidence = record { annotation = annotation; evidence = evidence }

pub same_texts : (mode : MethylationMode) (bases : List ℕ) (a b : StrandAnnotation) → duplex_texts mode bases (seen_of a) (seen_of b) ≡ duplex_texts mode bases a b
unfolding duplex_texts restored_seq strand_mm strand_ml
same_texts mode bases a b = go a.annotation b.annotation
  where
    go : (m n : Option ConversionPattern) → duplex_texts mode bases (seen_of (strand_with m a.evidence)) (seen_of (strand_with n b.evidence)) ≡ duplex_texts mode bases (strand_with m a.evidence) (strand_with n b.evidence)
    go None None = refl
    go None (Some q) = refl
    go (Some p) None = refl
    go (Some p) (Some q) = refl

pub same_lengths : (s : StrandAnnotation) → strand_lengths (seen_of s) ≡ strand_lengths s
same_lengths s = go s.annotation
  where
    go : (m : Option ConversionPattern) → strand_lengths (seen_of (strand_with m s.evidence)) ≡ strand_lengths (strand_with m s.evidence)
    go None = refl
    go (Some p) = refl

pub not_looked_at : NotLookedAt
not_looked_at = record { texts = same_texts; lengths = same_lengths }
