-- How many elements of a list meet a test.
use Rattle.std.specs.Prelude.{ℕ, ◌+◌, Bool, cond}
use mathlib.Core.List.{List, foldl}

module _ {A : Type 0} where
  -- The number after one more element.
  unfoldable pub count_if : (A → Bool) → ℕ → A → ℕ
  count_if p so_far x = cond (p x) (so_far + 1) so_far

module _ {A : Type 0} where
  unfoldable pub count_of : (A → Bool) → List A → ℕ
  count_of p xs = foldl (count_if p) 0 xs
