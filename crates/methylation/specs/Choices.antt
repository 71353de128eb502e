-- What a number stands for where a program chooses. A number that stands for nothing is refused as 13, before all else.
use Rattle.std.specs.Prelude.{◌≡◌, None, Some, Option, Result, Ok, Err, ℕ, Bool, cond, ◌||◌, eqb, ltb}
use Rattle.refusals.specs.declared.Refusal.{Refusal}
use Rattle.refusals.specs.declared.Refusal.TheVariants.{Broken}
use Rattle.methylation.specs.declared.ConversionPattern.{ConversionPattern}
use Rattle.methylation.specs.declared.ConversionPattern.TheVariants.{CToT, GToA}
use Rattle.methylation.specs.declared.MethylationMode.{MethylationMode}
use Rattle.methylation.specs.declared.MethylationMode.TheVariants.{Disabled, EmSeq, Taps}

-- A pattern: 1 is C to T, 2 G to A.
abbrev pub pattern_of : ℕ → ConversionPattern
pattern_of number = cond (eqb number 1) CToT GToA

abbrev pub wrong_pattern : ℕ → Bool
wrong_pattern number = eqb number 0 || ltb 2 number

abbrev pub pattern_in : ℕ → Result ConversionPattern Refusal
pattern_in number = cond (wrong_pattern number) (Err Broken) (Ok (pattern_of number))

-- And the other way round: the number that stands for a pattern.
abbrev pub pattern_number : ConversionPattern → ℕ
pattern_number CToT = 1
pattern_number GToA = 2

-- A pattern is read back from its number.
abbrev pub PatternBack : Type 0
PatternBack = (pattern : ConversionPattern) → pattern_in (pattern_number pattern) ≡ Ok pattern

-- An annotation: 0 is none, else its pattern.
abbrev pub annotation_of : ℕ → Option ConversionPattern
annotation_of number = cond (eqb number 0) None (Some (pattern_of number))

abbrev pub wrong_annotation : ℕ → Bool
wrong_annotation number = ltb 2 number

abbrev pub annotation_in : ℕ → Result (Option ConversionPattern) Refusal
annotation_in number = cond (wrong_annotation number) (Err Broken) (Ok (annotation_of number))

-- A mode: 0 is Disabled, 1 EM-Seq, 2 TAPs.
abbrev pub mode_of : ℕ → MethylationMode
mode_of number = cond (eqb number 0) Disabled (cond (eqb number 1) EmSeq Taps)

abbrev pub wrong_mode : ℕ → Bool
wrong_mode number = ltb 2 number

abbrev pub mode_in : ℕ → Result MethylationMode Refusal
mode_in number = cond (wrong_mode number) (Err Broken) (Ok (mode_of number))
