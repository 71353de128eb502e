-- The text of a number has no leading zero. Assumes nothing.
use mathlib.Core.Path.{◌≡◌, sym, ◌∙◌}
use mathlib.Core.List.{[], ◌∷◌}
use Prim.Native.Nat.{ℕ, ◌%◌, ◌/◌, ◌≤◌, ◌<◌}
use native.Mathlib.Omega.{arith}
use lib.ListN.{length, get_or, get_or-append}
use Rattle.decimal.specs.Decimal.{digit, decimal}
use Rattle.decimal.proofs.Decimal.{by_tenths, decimal_one, decimal_more, length_one, length_more}

some_digit : (n : ℕ) → 0 < length (decimal n)
some_digit = by_tenths (λ n. 0 < length (decimal n)) (λ n h. omega (arith, length_one n h)) (λ n h so. omega (arith, length_more n h))

pub no_leading_zero : (n : ℕ) → get_or (decimal n) 0 0 ≡ 48 → n ≡ 0
no_leading_zero = by_tenths (λ n. get_or (decimal n) 0 0 ≡ 48 → n ≡ 0) one more
  where
    one : (n : ℕ) → n < 10 → get_or (decimal n) 0 0 ≡ 48 → n ≡ 0
    one n h e = omega (arith, rw (decimal_one n h) at e)

    more : (n : ℕ) → 10 ≤ n → (get_or (decimal (n / 10)) 0 0 ≡ 48 → n / 10 ≡ 0) → get_or (decimal n) 0 0 ≡ 48 → n ≡ 0
    more n h so e =
        let first : get_or (decimal n) 0 0 ≡ get_or (decimal (n / 10)) 0 0 = rw (decimal_more n h) (get_or-append (decimal (n / 10)) (digit (n % 10) ∷ []) 0 0 (some_digit (n / 10))) in
        omega (arith, so (sym first ∙ e))
