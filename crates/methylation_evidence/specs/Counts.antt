-- Counts as the tags hold them, document 01: count arrays hold at 32,767, summed counts first at 4,294,967,295.
use Rattle.std.specs.Prelude.{ℕ, min, Option, List, [], ◌∷◌, map, length, get_or}
use Rattle.lists.specs.Table.{tabulate}
use Rattle.numbers.specs.Numbers.{saturating_add}
use Rattle.refusals.specs.declared.Refusal.{Refusal}
use Rattle.refusals.specs.declared.Refusal.TheVariants.{TooLong, OutputTooShort}
use Rattle.refusals.specs.Refusal.{Fault, ◌if◌, too_long, record_too_long, too_short, refused}

-- A count in a tag, held to 32,767, the largest number of i16.
abbrev pub tag_count : ℕ → ℕ
tag_count count = min count 32767

-- The unconverted or the converted counts of an annotation.
abbrev pub tag_counts : List ℕ → List ℕ
tag_counts counts = map tag_count counts

-- By how many counts there are, and the length of the output.
abbrev pub counts_faults : ℕ → ℕ → List Fault
counts_faults counts out =
    (TooLong if too_long (counts ∷ []))
    ∷ (OutputTooShort if too_short counts (out ∷ []))
    ∷ []

abbrev pub counts_refused : List ℕ → List ℕ → Option Refusal
counts_refused counts out = refused (counts_faults (length counts) (length out))

-- The counts of two annotations at a position. One that does not reach the position counts 0.
abbrev pub summed_count : List ℕ → List ℕ → ℕ → ℕ
summed_count a b i = tag_count (saturating_add 32 (get_or a i 0) (get_or b i 0))

-- Over a sequence of n positions.
abbrev pub summed_counts : ℕ → List ℕ → List ℕ → List ℕ
summed_counts n a b = tabulate n (summed_count a b)

-- By how many positions there are, and the lengths of the two arrays and of the output.
abbrev pub summed_faults : ℕ → ℕ → ℕ → ℕ → List Fault
summed_faults n a b out =
    (TooLong if record_too_long n a b)
    ∷ (OutputTooShort if too_short n (out ∷ []))
    ∷ []

abbrev pub summed_refused : ℕ → List ℕ → List ℕ → List ℕ → Option Refusal
summed_refused n a b out = refused (summed_faults n (length a) (length b) (length out))
