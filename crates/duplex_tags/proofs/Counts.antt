-- A strand's counts.
--     counts_places    how many there are: as many as its array has, or none
--     tag_length       how many its tag has
--     places_by        the same by the lengths of its evidence
--     unconverted_seen, converted_seen     those of a strand that is lent
--     countable        where no row refuses it: at most 1,024, and there is room for them
-- Assumes nothing.
use mathlib.Core.Path.{◌≡◌, refl, ap, ◌∙◌}
use mathlib.Core.Bool.{true}
use mathlib.Core.List.{List}
use Prim.Native.Nat.{ℕ, ◌≤◌}
use native.Mathlib.Omega.{arith}
use lib.ListN.{length}
use Rattle.lists.specs.Part.{only_if}
use Rattle.methylation.specs.Annotation.{pattern_held, evidence_held}
use Rattle.methylation.specs.Methylation.{is_annotated}
use Rattle.methylation.specs.Arrays.{EvidenceArrays, annotated_lengths, evidence_places}
use Rattle.methylation_evidence.specs.Counts.{tag_counts}
use Rattle.methylation_evidence.proofs.Counts.{counts_length}
use Rattle.duplex_tags.specs.Tags.{counts_of}
use Rattle.duplex_tags.specs.Parts.{Countable}
use Rattle.std.proofs.Common.{None, Some, Option}
use Rattle.std.specs.Option.{option_map_or}
use Rattle.methylation.specs.declared.ConversionPattern.{ConversionPattern}
use Rattle.methylation.specs.declared.MethylationAnnotation.{MethylationAnnotation}

module _ (annotation : Option ConversionPattern) (n : ℕ) (counts : List ℕ) (whole : is_annotated annotation ≡ true → length counts ≡ n) where
  pub counts_places : length (counts_of annotation counts) ≡ evidence_places annotation n
  unfolding counts_of only_if
  counts_places = go annotation whole
    where
      go : (x : Option ConversionPattern) → (is_annotated x ≡ true → length counts ≡ n) → length (only_if (is_annotated x) counts) ≡ evidence_places x n
      go None w = refl
      go (Some pattern) w = w refl

  pub tag_length : length (tag_counts (counts_of annotation counts)) ≡ evidence_places annotation n
  tag_length = counts_length (counts_of annotation counts) ∙ counts_places

pub few_places : (annotation : Option ConversionPattern) (n : ℕ) → evidence_places annotation n ≤ n
few_places None n = omega arith
few_places (Some pattern) n = omega arith

pub places_by : (annotation : Option ConversionPattern) (n : ℕ) (e : EvidenceArrays) → option_map_or (λ l. n) (annotated_lengths annotation e) 0 ≡ evidence_places annotation n
places_by None n e = refl
places_by (Some pattern) n e = refl

-- Evidence that is lent counts with a pattern alone.
module _ (s : Option MethylationAnnotation) {e : EvidenceArrays} (is : e ≡ evidence_held s) where
  pub unconverted_seen : e.unconverted ≡ counts_of (pattern_held s) (evidence_held s).unconverted
  unfolding counts_of only_if
  unconverted_seen = rw is (go s)
    where
      go : (x : Option MethylationAnnotation) → (evidence_held x).unconverted ≡ counts_of (pattern_held x) (evidence_held x).unconverted
      go None = refl
      go (Some m) = refl

  pub converted_seen : e.converted ≡ counts_of (pattern_held s) (evidence_held s).converted
  unfolding counts_of only_if
  converted_seen = rw is (go s)
    where
      go : (x : Option MethylationAnnotation) → (evidence_held x).converted ≡ counts_of (pattern_held x) (evidence_held x).converted
      go None = refl
      go (Some m) = refl

pub countable :
    (annotation : Option ConversionPattern) (n : ℕ) (counts : List ℕ)
    → (is_annotated annotation ≡ true → length counts ≡ n)
    → n ≤ 1024
    → {xs : List ℕ} {out : ℕ} (e : EvidenceArrays)
    → xs ≡ counts_of annotation counts
    → option_map_or (λ l. n) (annotated_lengths annotation e) 0 ≤ out
    → Countable (length xs) out
countable annotation n counts whole few e x room =
    let size = ap length x ∙ counts_places annotation n counts whole in
    record { few = omega (arith, size, few_places annotation n, few); room = omega (arith, size, places_by annotation n e, room) }
