-- Laws of a record's depths.
--     depths_length, depths_at   how many there are, and each
--     capped_length, capped_at   the same of a strand's capped depths or errors
--     depth_bound, short_bound   each is at most 65,534, and a strand's 32,767
--     one_strand                 beside an empty strand they are the other's capped depths
--     depths_sum, capped_sum     their sum, and a strand's, by the number of positions
-- Assumes nothing.
use mathlib.Core.Path.{◌≡◌, refl, ap, ap₂}
use mathlib.Core.List.{List, [], ◌∷◌, foldl}
use Prim.Native.Nat.{ℕ, zero, suc, ◌+◌, ◌*◌, ◌≤◌, ◌<◌}
use native.Mathlib.Nat.{add-zero}
use native.Mathlib.Omega.{arith}
use lib.ListN.{length, get_or}
use Rattle.lists.specs.Table.{tabulate}
use Rattle.lists.proofs.Table.{length_tabulate, get_d_tabulate}
use Rattle.numbers.specs.Numbers.{total}
use Rattle.caller.specs.Short.{short}
use Rattle.duplex_metrics.specs.Metrics.{capped, record_depth, record_depths}

pub depths_length : (n : ℕ) (a b : List ℕ) → length (record_depths n a b) ≡ n
unfolding record_depths
depths_length n a b = length_tabulate n (record_depth a b)

pub depths_at : (n : ℕ) (a b : List ℕ) (i : ℕ) → i < n → get_or (record_depths n a b) i 0 ≡ record_depth a b i
unfolding record_depths
depths_at n a b i h = get_d_tabulate n (record_depth a b) i 0 h

pub capped_length : (xs : List ℕ) → length (capped xs) ≡ length xs
unfolding capped
capped_length [] = refl
capped_length (x ∷ xs) = ap suc (capped_length xs)

pub capped_at : (xs : List ℕ) (i : ℕ) → get_or (capped xs) i 0 ≡ short (get_or xs i 0)
unfolding capped
capped_at [] i = refl
capped_at (x ∷ xs) zero = refl
capped_at (x ∷ xs) (suc i) = capped_at xs i

pub short_bound : (n : ℕ) → short n ≤ 32767
short_bound n = omega arith

pub depth_bound : (a b : List ℕ) (i : ℕ) → record_depth a b i ≤ 65534
unfolding record_depth
depth_bound a b i = omega arith

pub one_strand : (xs : List ℕ) → record_depths (length xs) xs [] ≡ capped xs
unfolding record_depths record_depth capped tabulate
one_strand [] = refl
one_strand (x ∷ xs) = ap₂ ◌∷◌ (add-zero (short x)) (one_strand xs)

table_sum : (n : ℕ) (f : ℕ → ℕ) (start : ℕ) → ((i : ℕ) → f i ≤ 65534) → foldl ◌+◌ start (tabulate n f) ≤ start + 65534 * n
unfolding tabulate
table_sum zero f start h = omega arith
table_sum (suc n) f start h = omega (arith, table_sum n (λ i. f (suc i)) (start + f 0) (λ i. h (suc i)), h 0)

pub depths_sum : (positions : ℕ) (a b : List ℕ) → total (record_depths positions a b) ≤ 65534 * positions
unfolding record_depths
depths_sum positions a b = omega (arith, table_sum positions (record_depth a b) 0 (depth_bound a b))

pub capped_sum : (xs : List ℕ) → total (capped xs) ≤ 65534 * length xs
capped_sum xs = rw one_strand at (depths_sum (length xs) xs [])
