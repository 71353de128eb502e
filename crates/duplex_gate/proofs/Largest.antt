-- The largest depth within a record, from that of a front and that of what is behind it.
--     cut        within the record, and to where the strand reaches
--     all_of     of a front and of the rest
-- Assumes nothing.
use mathlib.Core.Path.{◌≡◌, refl, sym, ap, ◌∙◌}
use mathlib.Core.List.{List, [], ◌∷◌, foldl}
use Prim.Native.Nat.{ℕ, zero, suc, ◌+◌, ◌-◌, ◌≤◌, min, max}
use native.Mathlib.Omega.{arith}
use lib.ListN.{length, take, drop}
use lib.Seq.{take-nil}
use Rattle.numbers.specs.Numbers.{largest}
use Rattle.duplex_gate.specs.ConsensusGate.{largest_within}

from : (xs : List ℕ) (a : ℕ) → foldl max a xs ≡ max a (largest xs)
from [] a = omega arith
from (x ∷ xs) a = omega (arith, from xs (max a x), from xs (max 0 x))

both : (k j : ℕ) (xs : List ℕ) (a : ℕ) → foldl max (foldl max a (take k xs)) (take j (drop k xs)) ≡ foldl max a (take (k + j) xs)
both zero j xs a =
    let none : j ≡ 0 + j = omega arith in
    ap (λ (m : ℕ). foldl max a (take m xs)) none
both (suc k) j [] a = rw (take-nil j, take-nil (suc k + j)) refl
both (suc k) j (x ∷ xs) a =
    let one : suc (k + j) ≡ suc k + j = omega arith in
    both k j xs (max a x) ∙ ap (λ (m : ℕ). foldl max a (take m (x ∷ xs))) one

pub cut : (n : ℕ) (xs : List ℕ) {end : ℕ} → end ≡ min n (length xs) → take end xs ≡ take n xs
cut zero xs {end} e =
    let none : end ≡ 0 = omega (arith, e) in
    ap (λ (m : ℕ). take m xs) none
cut (suc n) [] {end} e = take-nil end
cut (suc n) (x ∷ xs) {end} e =
    let one : end ≡ suc (min n (length xs)) = omega (arith, e) in
    rw one (ap (λ (l : List ℕ). x ∷ l) (cut n xs refl))

pub all_of :
    (n k : ℕ) (xs : List ℕ) {end of_front of_rest : ℕ}
    → end ≡ min n (length xs)
    → k ≤ end
    → of_front ≡ largest_within k xs
    → of_rest ≡ largest (take (end - k) (drop k xs))
    → max of_front of_rest ≡ largest_within n xs
all_of n k xs {end} e h f r =
    let split = both k (end - k) xs 0 in
    let size : k + (end - k) ≡ end = omega (arith, h) in
    rw (f, r) (sym (from (take (end - k) (drop k xs)) (largest_within k xs)) ∙ split ∙ ap (λ (m : ℕ). foldl max 0 (take m xs)) size ∙ ap largest (cut n xs e))
