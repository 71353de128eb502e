-- The error rate of a strand: all its errors over all its depths, uncapped.
use Rattle.std.specs.Prelude.{ℕ, Option, Result, List, [], ◌∷◌, length, Float}
use Rattle.refusals.specs.declared.Refusal.{Refusal}
use Rattle.refusals.specs.declared.Refusal.TheVariants.{TooLong, Ragged}
use Rattle.refusals.specs.Refusal.{Fault, ◌if◌, too_long, ragged, refused}
use Rattle.refusals.specs.Outcome.{answer}
use Rattle.numbers.specs.Numbers.{total}
use Rattle.rates.specs.Rate.{rate_of}

-- By how many depths and how many errors there are.
abbrev pub rate_faults : ℕ → ℕ → List Fault
rate_faults depths errors =
    (TooLong if too_long (depths ∷ errors ∷ []))
    ∷ (Ragged if ragged (depths ∷ errors ∷ []))
    ∷ []

abbrev pub rate_refused : ℕ → ℕ → Option Refusal
rate_refused depths errors = refused (rate_faults depths errors)

abbrev pub error_rate : List ℕ → List ℕ → Result Float Refusal
error_rate depths errors = answer (rate_refused (length depths) (length errors)) (rate_of (total errors) (total depths))
