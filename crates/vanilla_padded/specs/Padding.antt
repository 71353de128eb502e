-- Padding a strand, document 01: positions are added left or right with a given base and quality, depth 0, error 0.
-- Padding to the same length copies all; to more drops the annotation.
use Rattle.std.specs.Prelude.{None, Option, Result, ℕ, ◌-◌, ◌≡◌, Bool, cond, ◌||◌, List, [], ◌∷◌, ◌++◌, map, eqb, ltb, length, replicate}
use Rattle.lists.specs.Part.{only_if}
use Rattle.refusals.specs.declared.Refusal.{Refusal}
use Rattle.refusals.specs.declared.Refusal.TheVariants.{TooLong, Ragged, BelowLength, OutputTooShort}
use Rattle.refusals.specs.Refusal.{Fault, ◌if◌, too_long, refused}
use Rattle.refusals.specs.Outcome.{answer}
use Rattle.dna.specs.Dna.{lower_n}
use Rattle.phred.specs.Phred.{min_phred}
use Rattle.methylation.specs.Arrays.{evidence_arrays}
use Rattle.methylation.specs.Methylation.{is_annotated}
use Rattle.vanilla_caller.specs.Strand.{Arrays, lengths, mark, strand_too_long, strand_ragged, outputs_too_short, Leaves}
use Rattle.vanilla_caller.specs.declared.Lengths.{Lengths}
use Rattle.methylation.specs.declared.ConversionPattern.{ConversionPattern}

pub record Padding : Type 0 where
  pub new_length : ℕ
  pub left : Bool
  pub base : ℕ
  pub qual : ℕ

abbrev pub padding : ℕ → Bool → ℕ → ℕ → Padding
padding n left base qual = record { new_length = n; left = left; base = base; qual = qual }

-- The base n and the quality 2.
abbrev pub default_padding : ℕ → Bool → Padding
default_padding n left = padding n left lower_n min_phred

module _ {A : Type 0} where
  -- xs with copies of v added, left or right, up to n positions.
  unfoldable pub pad_to : ℕ → Bool → A → List A → List A
  pad_to n left v xs = cond left (replicate (n - length xs) v ++ xs) (xs ++ replicate (n - length xs) v)

-- The annotation of a strand of so many positions after padding.
abbrev pub kept : Option ConversionPattern → ℕ → ℕ → Option ConversionPattern
kept annotation positions new_length = cond (eqb positions new_length) annotation None

-- What is written to each output: evidence where the annotation is kept.
abbrev pub padded_arrays : Option ConversionPattern → Arrays → Padding → Arrays
padded_arrays annotation s p =
    let pad = pad_to p.new_length p.left in
    let evidence = is_annotated (kept annotation (length s.bases) p.new_length) in
    record {
      bases = pad p.base s.bases;
      quals = pad p.qual s.quals;
      depths = pad 0 s.depths;
      errors = pad 0 s.errors;
      evidence = evidence_arrays (map mark (only_if evidence s.evidence.marks)) (only_if evidence s.evidence.unconverted) (only_if evidence s.evidence.converted);
    }

-- By the lengths of the strand's arrays, the length to pad to, and the lengths of the outputs.
abbrev pub padded_faults : Lengths → ℕ → Lengths → List Fault
padded_faults s n out =
    (TooLong if (too_long (n ∷ []) || strand_too_long s))
    ∷ (Ragged if strand_ragged s)
    ∷ (BelowLength if ltb n s.bases)
    ∷ (OutputTooShort if outputs_too_short n out)
    ∷ []

abbrev pub padded_refused : Option ConversionPattern → Arrays → Padding → Arrays → Option Refusal
padded_refused annotation s p out =
    let n = p.new_length in
    refused (padded_faults (lengths annotation s) n (lengths (kept annotation (length s.bases) n) out))

-- What a call of `padded` answers and leaves in its outputs.
pub record PaddedAs (annotation : Option ConversionPattern) (s : Arrays) (p : Padding) (before now : Arrays) (r : Result (Option ConversionPattern) Refusal) : Type 0 where
  pub answered : r ≡ answer (padded_refused annotation s p before) (kept annotation (length s.bases) p.new_length)
  pub outputs : Leaves (padded_refused annotation s p before) (padded_arrays annotation s p) before now
