-- The marks of an annotation's value, tested by their places.
--     bits_by_place      that each place has a bit is that each mark is one
-- Assumes nothing.
use mathlib.Core.Path.{◌≡◌, refl, ap, ap₂, ◌∙◌}
use mathlib.Core.Bool.{Bool, ◌&&◌}
use mathlib.Core.List.{List}
use Prim.Native.Nat.{ℕ, zero, suc, ◌+◌, ◌*◌, ◌/◌}
use native.Mathlib.Omega.{arith}
use lib.ListN.{length, get_or}
use Rattle.std.specs.List.{list_all, range_with_len}
use Rattle.lists.specs.Every.{every}
use Rattle.lists.specs.Table.{tabulate}
use Rattle.molecule_fields.specs.Widths.{is_bit, marks}

by_place : {A : Type 0} (p : A → Bool) (f g : ℕ → A) (a n : ℕ) → ((i : ℕ) → f (a + i) ≡ g i) → list_all (λ i. p (f i)) (range_with_len a n) ≡ every p (tabulate n g)
unfolding every tabulate
by_place p f g a zero same = refl
by_place p f g a (suc n) same =
    let first : f a ≡ g 0 = ap f (omega arith) ∙ same 0 in
    ap₂ ◌&&◌ (ap p first) (by_place p f (λ i. g (suc i)) (a + 1) n (λ i. ap f (omega arith) ∙ same (suc i)))

pub bits_by_place : (value : List ℕ) → list_all (λ i. is_bit (get_or value (9 * i + 1) 0)) (range_with_len 0 (length value / 9)) ≡ every is_bit (marks value)
unfolding marks
bits_by_place value = by_place is_bit (λ i. get_or value (9 * i + 1) 0) (λ i. get_or value (9 * i + 1) 0) 0 (length value / 9) (λ i. ap (λ (k : ℕ). get_or value (9 * k + 1) 0) (omega arith))
