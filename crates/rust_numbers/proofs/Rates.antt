-- The rate of a strand whose depths and errors are `u16` is no NaN, so that its bits may be asked for. Assumes nothing.
use mathlib.Core.Path.{◌≡◌, refl, sym}
use mathlib.Core.Bool.{not}
use mathlib.Core.List.{List, [], ◌∷◌, foldl}
use Prim.Native.Nat.{ℕ, suc, ◌+◌, ◌*◌, ◌≤◌, ◌<◌}
use native.Mathlib.Omega.{arith}
use lib.Dec.{T}
use lib.Ieee.{Float, is_nan}
use lib.ListN.{length, get_or}
use Rattle.std.proofs.Common.{Option, None, Some, Ok}
use Rattle.refusals.specs.declared.Refusal.{Refusal}
use Rattle.refusals.specs.Outcome.{answer}
use Rattle.refusals.proofs.Condition.{not_too_long}
use Rattle.refusals.proofs.Claims.{none_lost}
use Rattle.caller.specs.Rate.{rate_faults, rate_refused, error_rate}
use Rattle.numbers.specs.Numbers.{total}
use Rattle.rates.specs.Rate.{rate_of}
use Rattle.rates.proofs.Rates.{number}

abbrev Halves : List ℕ → Type 0
Halves xs = (i : ℕ) → get_or xs i 0 < 65536

sum_from : (xs : List ℕ) (start : ℕ) → Halves xs → foldl ◌+◌ start xs ≤ start + 65535 * length xs
sum_from [] start h = omega arith
sum_from (x ∷ xs) start h = omega (arith, h 0, sum_from xs (start + x) (λ i. h (suc i)))

module _ (depths errors : List ℕ) {f : Float} (d : Halves depths) (e : Halves errors) where
  by_refusal : (refusal : Option Refusal) → refusal ≡ rate_refused (length depths) (length errors) → answer refusal (rate_of (total errors) (total depths)) ≡ Ok f → T (not (is_nan f))
  by_refusal None q same =
      let few = not_too_long (length depths ∷ length errors ∷ []) (none_lost (rate_faults (length depths) (length errors)) (sym q)).0 in
      let is : rate_of (total errors) (total depths) ≡ f = cc in
      rw (← is) (number (total errors) (total depths) (omega (arith, few.1.0, sum_from errors 0 e)) (omega (arith, few.0, sum_from depths 0 d)))
  by_refusal (Some row) q same = let z : ◌≡◌ {A = ℕ} 0 1 = cc in absurd (omega arith)

  pub rate_is_number : error_rate depths errors ≡ Ok f → T (not (is_nan f))
  rate_is_number = by_refusal _ refl
