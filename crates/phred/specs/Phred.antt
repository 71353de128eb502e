-- The range of a base quality. The SAM specification writes a quality as a character up to ~, 33 + 93.
use Rattle.std.specs.Prelude.{ℕ, min, max, Bool, ◌||◌, ltb, Result, Ok, Err, List, [], ◌∷◌}
use Rattle.refusals.specs.declared.Refusal.{Refusal}
use Rattle.refusals.specs.declared.Refusal.TheVariants.{CeilingOutside}
use Rattle.refusals.specs.Refusal.{Fault, ◌if◌}
use Rattle.phred.specs.declared.ceiling.Ceiling.{Ceiling}

abbrev pub min_phred : ℕ
min_phred = 2

abbrev pub max_phred : ℕ
max_phred = 93

-- Held to 2 and a ceiling.
unfoldable pub capped_quality : ℕ → ℕ → ℕ
capped_quality ceiling score = max min_phred (min score ceiling)

-- Row 14's condition.
abbrev pub ceiling_outside : ℕ → Bool
ceiling_outside ceiling = ltb ceiling 3 || ltb max_phred ceiling

abbrev pub ceiling_faults : ℕ → List Fault
ceiling_faults ceiling = (CeilingOutside if ceiling_outside ceiling) ∷ []

-- A ceiling as the code has it.
abbrev pub told_by : Result Ceiling Refusal → Result ℕ Refusal
told_by (Ok ceiling) = Ok ceiling.value
told_by (Err refusal) = Err refusal
