-- Laws of decimal text.
--     decimal_one, decimal_more     the text of a number below 10, and of one from 10 on by that of its tenth
--     by_tenths                     what holds below 10, and from 10 on where it holds of the tenth, holds of every number
--     digits_within                 a number has at most one digit more than the number itself
--     few_digits                    a number below 10 to the power k has at most k digits
--     each_digit                    a test that each digit's character meets is met by the text
--     value_decimal                 the text read back is the number
--     listed_append                 numbers with a comma before each, in two parts
--     put_first, put_more           what an output holds when the first digit is stored, and one more behind those of the tenth
-- Assumes nothing.
use mathlib.Core.Path.{◌≡◌, refl, ap, ◌∙◌, sym}
use mathlib.Core.Bool.{Bool, true, false, cond, ◌&&◌}
use mathlib.Core.List.{List, [], ◌∷◌, ◌++◌, foldl-append, append_assoc}
use Prim.Native.Nat.{ℕ, zero, suc, ◌+◌, ◌*◌, ◌/◌, ◌%◌, ◌^◌, ◌≤◌, ◌<◌}
use native.Mathlib.Omega.{arith}
use native.Mathlib.Nat.{pow-suc}
use borrow.Author.Tests.{lt-ltb, le-ltb, ltb-true, ltb-false}
use lib.Dec.{ltb}
use lib.ListN.{length, take, set, length-append}
use lib.Seq.{take-nil}
use Rattle.lists.specs.Every.{every}
use Rattle.lists.specs.Output.{put}
use Rattle.lists.proofs.Output.{fitting_snoc}
use Rattle.decimal.specs.Decimal.{digit, decimal_in, decimal, value_of, listed}

-- The bound on the digits does not matter where it is above the number.
enough : (k j n : ℕ) → n < k → n < j → decimal_in k n ≡ decimal_in j n
unfolding decimal_in
enough zero j n h g = absurd (omega arith)
enough (suc k) zero n h g = absurd (omega arith)
enough (suc k) (suc j) n h g = go (ltb n 10) refl (λ more. enough k j (n / 10) (omega arith) (omega arith))
  where
    go :
        (b : Bool)
        → ltb n 10 ≡ b
        → (10 ≤ n → decimal_in k (n / 10) ≡ decimal_in j (n / 10))
        → cond b (digit n ∷ []) (decimal_in k (n / 10) ++ digit (n % 10) ∷ []) ≡ cond b (digit n ∷ []) (decimal_in j (n / 10) ++ digit (n % 10) ∷ [])
    go true e rest = refl
    go false e rest = ap (λ (l : List ℕ). l ++ digit (n % 10) ∷ []) (rest (ltb-false n 10 e))

pub decimal_one : (n : ℕ) → n < 10 → decimal n ≡ digit n ∷ []
unfolding decimal decimal_in
decimal_one n h = rw (lt-ltb n 10 h)

pub decimal_more : (n : ℕ) → 10 ≤ n → decimal n ≡ decimal (n / 10) ++ digit (n % 10) ∷ []
unfolding decimal decimal_in
decimal_more n h = rw (le-ltb n 10 h) (ap (λ (l : List ℕ). l ++ digit (n % 10) ∷ []) (enough n (suc (n / 10)) (n / 10) (omega arith) (omega arith)))

module _ (P : ℕ → Type 0) (one : (n : ℕ) → n < 10 → P n) (more : (n : ℕ) → 10 ≤ n → P (n / 10) → P n) where
  below : (k n : ℕ) → n < k → P n
  below zero n h = absurd (omega arith)
  below (suc k) n h = go (ltb n 10) refl (λ large. below k (n / 10) (omega arith))
    where
      go : (b : Bool) → ltb n 10 ≡ b → (10 ≤ n → P (n / 10)) → P n
      go true e rest = one n (ltb-true n 10 e)
      go false e rest = more n (ltb-false n 10 e) (rest (ltb-false n 10 e))

  pub by_tenths : (n : ℕ) → P n
  by_tenths n = below (suc n) n (omega arith)

pub length_one : (n : ℕ) → n < 10 → length (decimal n) ≡ 1
length_one n h = ap length (decimal_one n h)

pub length_more : (n : ℕ) → 10 ≤ n → length (decimal n) ≡ length (decimal (n / 10)) + 1
length_more n h = ap length (decimal_more n h) ∙ length-append (decimal (n / 10)) (digit (n % 10) ∷ [])

pub digits_within : (n : ℕ) → length (decimal n) ≤ n + 1
digits_within = by_tenths (λ n. length (decimal n) ≤ n + 1) (λ n h. omega (arith, length_one n h)) (λ n h so. omega (arith, length_more n h))

pub few_digits : (k n : ℕ) → n < 10 ^ suc k → length (decimal n) ≤ suc k
few_digits zero n h = omega (arith, length_one n h)
few_digits (suc k) n h = go (ltb n 10) refl (λ large. few_digits k (n / 10) (tenth (10 ^ suc k) (rw pow-suc at h)))
  where
    tenth : (p : ℕ) → n < p * 10 → n / 10 < p
    tenth p g = omega arith

    go : (b : Bool) → ltb n 10 ≡ b → (10 ≤ n → length (decimal (n / 10)) ≤ suc k) → length (decimal n) ≤ suc (suc k)
    go true e rest = omega (arith, length_one n (ltb-true n 10 e))
    go false e rest = omega (arith, length_more n (ltb-false n 10 e), rest (ltb-false n 10 e))

-- The first digit is stored, where there is room for it.
pub put_first : (n : ℕ) (out : List ℕ) → n < 10 → set out 0 (digit n) ≡ put (take (length out) (decimal n)) out
unfolding put
put_first n out h = rw (decimal_one n h) (simp take-nil at (fitting_snoc [] out (digit n)))

pub put_more :
    (n : ℕ) (out : List ℕ) {rest after : List ℕ} {at : ℕ}
    → 10 ≤ n
    → at ≡ length (decimal (n / 10))
    → rest ≡ put (take (length out) (decimal (n / 10))) out
    → after ≡ set rest at (digit (n % 10))
    → after ≡ put (take (length out) (decimal n)) out
put_more n out h a r e = e ∙ rw (a, r, decimal_more n h) (fitting_snoc (decimal (n / 10)) out (digit (n % 10)))

module _ (p : ℕ → Bool) where
  every_snoc : (xs : List ℕ) (x : ℕ) → every p xs ≡ true → p x ≡ true → every p (xs ++ x ∷ []) ≡ true
  unfolding every
  every_snoc [] x all last = rw last
  every_snoc (y ∷ ys) x all last = go (p y) all (λ rest. every_snoc ys x rest last)
    where
      go : (here : Bool) → (here && every p ys) ≡ true → (every p ys ≡ true → every p (ys ++ x ∷ []) ≡ true) → (here && every p (ys ++ x ∷ [])) ≡ true
      go true rest later = later rest
      go false rest later = rest

  pub each_digit : ((d : ℕ) → d < 10 → p (digit d) ≡ true) → (n : ℕ) → every p (decimal n) ≡ true
  unfolding every
  each_digit so = by_tenths (λ n. every p (decimal n) ≡ true) (λ n h. rw (decimal_one n h, so n h)) (λ n h rest. rw (decimal_more n h) (every_snoc (decimal (n / 10)) (digit (n % 10)) rest (so (n % 10) (omega arith))))

pub value_decimal : (n : ℕ) → value_of (decimal n) ≡ n
unfolding value_of
value_decimal = by_tenths (λ n. value_of (decimal n) ≡ n) (λ n h. rw (decimal_one n h) (omega arith)) (λ n h so. rw (decimal_more n h, foldl-append, so) (omega arith))

pub listed_append : (xs ys : List ℕ) → listed (xs ++ ys) ≡ listed xs ++ listed ys
unfolding listed
listed_append [] ys = refl
listed_append (x ∷ xs) ys = ap (λ (l : List ℕ). (44 ∷ decimal x) ++ l) (listed_append xs ys) ∙ sym (append_assoc (44 ∷ decimal x) (listed xs) (listed ys))
