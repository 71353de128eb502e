-- Numbers held to a limit, and the extremes and the sum of a list.
use Rattle.std.specs.Prelude.{ℕ, ◌+◌, ◌-◌, ◌^◌, min, max, get_or}
use mathlib.Core.List.{List, foldl}

-- The sum of two numbers of so many binary digits, held to the largest such number.
unfoldable pub saturating_add : ℕ → ℕ → ℕ → ℕ
saturating_add digits a b = min (a + b) (2 ^ digits - 1)

-- The largest, the smallest and the sum of some numbers; each 0 of none.
abbrev pub largest : List ℕ → ℕ
largest ns = foldl max 0 ns

abbrev pub smallest : List ℕ → ℕ
smallest ns = foldl min (get_or ns 0 0) ns

abbrev pub total : List ℕ → ℕ
total ns = foldl ◌+◌ 0 ns
