-- The largest and the smallest depth of a strand, uncapped.
use Rattle.std.specs.Prelude.{ℕ, Option, Result, List, [], ◌∷◌, length}
use Rattle.refusals.specs.declared.Refusal.{Refusal}
use Rattle.refusals.specs.declared.Refusal.TheVariants.{TooLong}
use Rattle.refusals.specs.Refusal.{Fault, ◌if◌, too_long, refused}
use Rattle.refusals.specs.Outcome.{answer}
use Rattle.numbers.specs.Numbers.{largest, smallest}

abbrev pub depth_faults : ℕ → List Fault
depth_faults n = (TooLong if too_long (n ∷ [])) ∷ []

abbrev pub depth_refused : List ℕ → Option Refusal
depth_refused depths = refused (depth_faults (length depths))

abbrev pub max_depth : List ℕ → Result ℕ Refusal
max_depth depths = answer (depth_refused depths) (largest depths)

abbrev pub min_depth : List ℕ → Result ℕ Refusal
min_depth depths = answer (depth_refused depths) (smallest depths)
