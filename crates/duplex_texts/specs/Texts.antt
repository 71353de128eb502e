-- The sequence, MM and ML of a duplex record, document 01: first each strand's annotation restores the sequence, then each strand's
-- texts are taken against it.
use Rattle.std.specs.Prelude.{None, Some, Option, ℕ, Bool, true, false, cond, List, [], ◌++◌}
use Rattle.methylation.specs.Annotation.{pattern_held, evidence_held, evidence_seen}
use Rattle.methylation.specs.Arrays.{EvidenceArrays, evidence_arrays}
use Rattle.methylation.specs.declared.ConversionPattern.{ConversionPattern}
use Rattle.methylation.specs.declared.ConversionPattern.TheVariants.{CToT, GToA}
use Rattle.methylation.specs.declared.MethylationAnnotation.{MethylationAnnotation}
use Rattle.methylation.specs.declared.MethylationMode.{MethylationMode}
use Rattle.methylation_restore.specs.Restore.{strand_bases}
use Rattle.mm_ml.specs.Tags.{Annotated, annotated, mm_text, ml_array}

-- A strand's annotation with its evidence. Without an annotation the arrays are not looked at.
pub record StrandAnnotation : Type 0 where
  pub annotation : Option ConversionPattern
  pub evidence : EvidenceArrays

abbrev pub strand : Option ConversionPattern → List ℕ → List ℕ → List ℕ → StrandAnnotation
strand annotation marks unconverted converted = record {
  annotation = annotation;
  evidence = evidence_arrays marks unconverted converted;
}

-- That of an annotation that is lent, or of none.
abbrev pub strand_in : Option MethylationAnnotation → StrandAnnotation
strand_in s = record { annotation = pattern_held s; evidence = evidence_held s }

-- As far as it is looked at.
abbrev pub seen_of : StrandAnnotation → StrandAnnotation
seen_of s = record { annotation = s.annotation; evidence = evidence_seen s.annotation s.evidence }

-- The record's sequence: restored by the first strand's annotation, and then by the second's.
unfoldable pub restored_seq : List ℕ → Option ConversionPattern → List ℕ → Option ConversionPattern → List ℕ → List ℕ
restored_seq bases a a_marks b b_marks = strand_bases b b_marks (strand_bases a a_marks bases)

abbrev pub duplex_seq : List ℕ → StrandAnnotation → StrandAnnotation → List ℕ
duplex_seq bases a b = restored_seq bases a.annotation a.evidence.marks b.annotation b.evidence.marks

-- A strand of some pattern, against a sequence.
abbrev pub against : List ℕ → StrandAnnotation → ConversionPattern → Annotated
against seq s pattern = annotated seq pattern s.evidence.marks s.evidence.unconverted s.evidence.converted

-- What there is by the pattern of an annotation: nothing without one.
abbrev pub by_pattern : Option ConversionPattern → (ConversionPattern → List ℕ) → List ℕ
by_pattern None f = []
by_pattern (Some pattern) f = f pattern

-- A strand's MM text against a sequence.
unfoldable pub strand_mm : MethylationMode → List ℕ → StrandAnnotation → List ℕ
strand_mm mode seq s =
    by_pattern s.annotation (λ pattern. mm_text mode (against seq s pattern))

-- Its ML bytes.
unfoldable pub strand_ml : MethylationMode → List ℕ → StrandAnnotation → List ℕ
strand_ml mode seq s =
    by_pattern s.annotation (λ pattern. ml_array mode (against seq s pattern))

-- The order of the strands' groups: C to T first, otherwise that of the strands. So the second strand's comes first where the
-- first is of pattern G to A and the second of C to T.
abbrev pub second_first : Option ConversionPattern → Option ConversionPattern → Bool
second_first (Some GToA) (Some CToT) = true
second_first (Some GToA) (Some GToA) = false
second_first (Some GToA) None = false
second_first (Some CToT) b = false
second_first None b = false

-- What the first strand has and what the second has, in the order of the groups.
unfoldable pub grouped : Bool → List ℕ → List ℕ → List ℕ
grouped second a b = cond second (b ++ a) (a ++ b)

-- The sequence, each strand's MM text, and the combined MM and ML.
pub record TextArrays : Type 0 where
  pub seq : List ℕ
  pub a_mm : List ℕ
  pub b_mm : List ℕ
  pub mm : List ℕ
  pub ml : List ℕ

abbrev pub text_arrays : List ℕ → List ℕ → List ℕ → List ℕ → List ℕ → TextArrays
text_arrays seq a_mm b_mm mm ml = record { seq = seq; a_mm = a_mm; b_mm = b_mm; mm = mm; ml = ml }

-- Those of a sequence that is restored already.
abbrev pub texts_against : MethylationMode → List ℕ → StrandAnnotation → StrandAnnotation → TextArrays
texts_against mode seq a b =
    let order = second_first a.annotation b.annotation in
    record {
      seq = seq;
      a_mm = strand_mm mode seq a;
      b_mm = strand_mm mode seq b;
      mm = grouped order (strand_mm mode seq a) (strand_mm mode seq b);
      ml = grouped order (strand_ml mode seq a) (strand_ml mode seq b);
    }

unfoldable pub duplex_texts : MethylationMode → List ℕ → StrandAnnotation → StrandAnnotation → TextArrays
duplex_texts mode bases a b = texts_against mode (duplex_seq bases a b) a b
