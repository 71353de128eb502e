-- The depths of both strands at each position of a duplex record, uncapped, and their range.
use Rattle.std.specs.Prelude.{ℕ, cond, ltb, Option, Result, List, [], ◌∷◌, length, get_or}
use Rattle.lists.specs.Table.{tabulate}
use Rattle.numbers.specs.Numbers.{saturating_add, largest, smallest}
use Rattle.refusals.specs.declared.Refusal.{Refusal}
use Rattle.refusals.specs.declared.Refusal.TheVariants.{TooLong, OutputTooShort}
use Rattle.refusals.specs.Refusal.{Fault, ◌if◌, record_too_long, too_short, refused}
use Rattle.refusals.specs.Outcome.{answer}
use Rattle.duplex_depths.specs.declared.DepthRange.{DepthRange}

-- A depth past a strand's end counts 0. The sum is held to 65,535.
abbrev pub combined_depth : List ℕ → List ℕ → ℕ → ℕ
combined_depth ab ba i = saturating_add 16 (get_or ab i 0) (get_or ba i 0)

-- Of a record of n positions.
unfoldable pub combined_depths : ℕ → List ℕ → List ℕ → List ℕ
combined_depths n ab ba = tabulate n (combined_depth ab ba)

-- The longer strand's depths, the first's where they are as long.
abbrev pub longer : List ℕ → List ℕ → List ℕ
longer ab ba = cond (ltb (length ab) (length ba)) ba ab

abbrev pub combined_faults : ℕ → ℕ → ℕ → ℕ → List Fault
combined_faults n ab ba out =
    (TooLong if record_too_long n ab ba)
    ∷ (OutputTooShort if too_short n (out ∷ []))
    ∷ []

abbrev pub combined_refused : ℕ → List ℕ → List ℕ → List ℕ → Option Refusal
combined_refused n ab ba out = refused (combined_faults n (length ab) (length ba) (length out))

abbrev pub range_faults : ℕ → ℕ → ℕ → List Fault
range_faults n ab ba = (TooLong if record_too_long n ab ba) ∷ []

abbrev pub range_refused : ℕ → List ℕ → List ℕ → Option Refusal
range_refused n ab ba = refused (range_faults n (length ab) (length ba))

-- Each 0 over no positions.
abbrev pub extremes : List ℕ → DepthRange
extremes depths = record { min = smallest depths; max = largest depths }

abbrev pub depth_range : ℕ → List ℕ → List ℕ → Result DepthRange Refusal
depth_range n ab ba = answer (range_refused n ab ba) (extremes (combined_depths n ab ba))
