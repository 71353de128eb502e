-- Laws of sums held to a limit, and of the largest and the smallest of some numbers.
--     largest_found   what std's `max` finds, or 0
--     smallest_found  what std's `min` finds, or 0
--     saturated       what std's `saturating_add` gives
--     smallest_le     the smallest is no more than each
-- Assumes nothing.
use mathlib.Core.Path.{◌≡◌, refl, ap}
use mathlib.Core.List.{List, [], ◌∷◌, foldl}
use Prim.Native.Nat.{ℕ, zero, suc, ◌+◌, ◌-◌, ◌^◌, ◌≤◌, ◌<◌, max, min}
use native.Mathlib.Nat.{le_trans, min-le_left, min-le_right, not-suc-le-zero, le_of_suc-le-suc}
use native.Mathlib.Omega.{arith}
use lib.ListN.{length, get_or}
use Rattle.std.specs.List.{reduce}
use Rattle.std.specs.Option.{unwrap_or}
use Rattle.numbers.specs.Numbers.{saturating_add, largest, smallest}

pub largest_found : (ns : List ℕ) → unwrap_or (reduce max ns) 0 ≡ largest ns
largest_found [] = refl
largest_found (n ∷ ns) = ap (λ (m : ℕ). foldl max m ns) (omega arith)

pub smallest_found : (ns : List ℕ) → unwrap_or (reduce min ns) 0 ≡ smallest ns
smallest_found [] = refl
smallest_found (n ∷ ns) = ap (λ (m : ℕ). foldl min m ns) (omega arith)

pub saturated : (digits a b : ℕ) {n : ℕ} → n ≡ min (a + b) (2 ^ digits - 1) → n ≡ saturating_add digits a b
unfolding saturating_add
saturated digits a b e = e

from_start : (ns : List ℕ) (start : ℕ) → foldl min start ns ≤ start
from_start [] start = omega arith
from_start (n ∷ ns) start = le_trans (from_start ns (min start n)) (min-le_left start n)

from_each : (ns : List ℕ) (start i : ℕ) → i < length ns → foldl min start ns ≤ get_or ns i 0
from_each [] start i h = absurd (not-suc-le-zero h)
from_each (n ∷ ns) start zero h = le_trans (from_start ns (min start n)) (min-le_right start n)
from_each (n ∷ ns) start (suc i) h = from_each ns (min start n) i (le_of_suc-le-suc h)

pub smallest_le : (ns : List ℕ) (i : ℕ) → i < length ns → smallest ns ≤ get_or ns i 0
smallest_le ns i h = from_each ns (get_or ns 0 0) i h
