-- The counts of a duplex record, document 01: each strand's, held at 32,767, and both strands' summed over the sequence.
use Rattle.std.specs.Prelude.{Option, ℕ, List}
use Rattle.lists.specs.Part.{only_if}
use Rattle.methylation.specs.Methylation.{is_annotated}
use Rattle.methylation_evidence.specs.Counts.{tag_counts, summed_counts}
use Rattle.duplex_texts.specs.Texts.{StrandAnnotation}
use Rattle.methylation.specs.declared.ConversionPattern.{ConversionPattern}

-- Counts of a strand: none without an annotation.
unfoldable pub counts_of : Option ConversionPattern → List ℕ → List ℕ
counts_of annotation counts = only_if (is_annotated annotation) counts

-- Counts of one kind, unconverted or converted: of the first strand, of the second, and summed.
pub record KindArrays : Type 0 where
  pub a : List ℕ
  pub b : List ℕ
  pub both : List ℕ

abbrev pub kind_arrays : List ℕ → List ℕ → List ℕ → KindArrays
kind_arrays a b both = record { a = a; b = b; both = both }

-- Those of a record of n positions.
unfoldable pub kind_counts : ℕ → Option ConversionPattern → List ℕ → Option ConversionPattern → List ℕ → KindArrays
kind_counts n a a_counts b b_counts = record {
  a = tag_counts (counts_of a a_counts);
  b = tag_counts (counts_of b b_counts);
  both = summed_counts n (counts_of a a_counts) (counts_of b b_counts);
}

pub record CountArrays : Type 0 where
  pub unconverted : KindArrays
  pub converted : KindArrays

abbrev pub count_arrays : List ℕ → List ℕ → List ℕ → List ℕ → List ℕ → List ℕ → CountArrays
count_arrays au ac bu bc u c = record { unconverted = kind_arrays au bu u; converted = kind_arrays ac bc c }

abbrev pub duplex_counts : ℕ → StrandAnnotation → StrandAnnotation → CountArrays
duplex_counts n a b = record {
  unconverted = kind_counts n a.annotation a.evidence.unconverted b.annotation b.evidence.unconverted;
  converted = kind_counts n a.annotation a.evidence.converted b.annotation b.evidence.converted;
}
