-- Methylation at one position of a sequence, as SAMtags' MM and ML report it.
use Rattle.std.specs.Prelude.{ℕ, ◌+◌, ◌*◌, ◌/◌, min, Bool, not, ◌&&◌, eqb, ltb}
use Rattle.dna.specs.Dna.{same_letter}
use Rattle.methylation.specs.Methylation.{pattern_bases}
use Rattle.methylation.specs.declared.ConversionPattern.{ConversionPattern}
use Rattle.methylation.specs.declared.MethylationMode.{MethylationMode}
use Rattle.methylation.specs.declared.MethylationMode.TheVariants.{Disabled, EmSeq, Taps}

-- A base is the letter that the pattern's MM group counts, C or G, in any case.
abbrev pub is_tracked : ConversionPattern → ℕ → Bool
is_tracked pattern base = same_letter base (pattern_bases pattern).reference

-- A base is called: it is the tracked letter, informative, and the sum of its two counts is above 0.
abbrev pub is_called : ConversionPattern → ℕ → ℕ → ℕ → ℕ → Bool
is_called pattern base mark unconverted converted = is_tracked pattern base && (not (eqb mark 0) && ltb 0 (unconverted + converted))

-- How many of the reads show the base methylated: those unconverted in EM-Seq, those converted in TAPs.
abbrev pub methylated : MethylationMode → ℕ → ℕ → ℕ
methylated Disabled unconverted converted = 0
methylated EmSeq unconverted converted = unconverted
methylated Taps unconverted converted = converted

-- The probability that the base is methylated, as one of 256 equal parts of 0 to 1: N stands for N / 256 up to (N + 1) / 256,
-- and the probability 1 falls to 255.
abbrev pub ml_of : MethylationMode → ℕ → ℕ → ℕ
ml_of mode unconverted converted = min (256 * methylated mode unconverted converted / (unconverted + converted)) 255
