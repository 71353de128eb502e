-- Laws of hexadecimal text.
--     length_hexadecimal, digit_is     how many digits there are, and each of them
--     each_digit                       a test that each digit's character meets is met by the text
--     read_back                        of specs/Hexadecimal.antt's `ReadBack`
-- Assumes nothing.
use mathlib.Core.Path.{◌≡◌, refl, sym, ◌∙◌}
use mathlib.Core.Bool.{Bool, true, false, cond}
use mathlib.Core.List.{[], ◌∷◌}
use Prim.Native.Nat.{ℕ, zero, suc, ◌+◌, ◌-◌, ◌*◌, ◌/◌, ◌%◌, ◌^◌, ◌<◌}
use native.Mathlib.Omega.{arith}
use borrow.Author.Tests.{lt-ltb, le-ltb, ltb-true, ltb-false}
use lib.Dec.{ltb}
use lib.ListN.{length, get_or}
use Rattle.lists.specs.Every.{every}
use Rattle.lists.specs.Table as table
use Rattle.lists.specs.Table.{tabulate}
use Rattle.lists.proofs.Table.{length_tabulate, get_d_tabulate}
use Rattle.hexadecimal.specs.Hexadecimal.{hex_digit, digit_at, hexadecimal, digit_of, value_of, ReadBack}

pub length_hexadecimal : (n : ℕ) → length (hexadecimal n) ≡ 8
unfolding hexadecimal
length_hexadecimal n = length_tabulate 8 (digit_at n)

pub digit_is : (n i : ℕ) → i < 8 → digit_at n i ≡ get_or (hexadecimal n) i 0
unfolding hexadecimal
digit_is n i h = sym (get_d_tabulate 8 (digit_at n) i 0 h)

-- A test that each digit's character meets is met by the whole text.
module _ (p : ℕ → Bool) where
  every_table : (k : ℕ) (f : ℕ → ℕ) → ((i : ℕ) → p (f i) ≡ true) → every p (tabulate k f) ≡ true
  unfolding every tabulate
  every_table zero f h = refl
  every_table (suc k) f h = rw (h 0) (every_table k (λ i. f (suc i)) (λ i. h (suc i)))

  pub each_digit : ((d : ℕ) → d < 16 → p (hex_digit d) ≡ true) → (n : ℕ) → every p (hexadecimal n) ≡ true
  unfolding hexadecimal digit_at
  each_digit h n = every_table 8 (digit_at n) (λ i. h (n / 16 ^ (7 - i) % 16) (below (n / 16 ^ (7 - i))))
    where
      below : (x : ℕ) → x % 16 < 16
      below x = omega arith

-- A digit's character stands for the digit.
digit_back : (d : ℕ) → d < 16 → digit_of (hex_digit d) ≡ d
digit_back d h = go (ltb d 10) refl
  where
    go : (b : Bool) → ltb d 10 ≡ b → digit_of (cond b (48 + d) (97 + (d - 10))) ≡ d
    go true e =
        let small : d < 10 = ltb-true d 10 e in
        rw (lt-ltb (48 + d) 97 (omega arith)) (omega arith)
    go false e =
        let large = ltb-false d 10 e in
        rw (le-ltb (97 + (d - 10)) 97 (omega arith)) (omega arith)

-- One digit more: what stands before a place, and the digit at it.
more : {value : ℕ} (n weight : ℕ) → value ≡ n / weight / 16 → 16 * value + digit_of (hex_digit (n / weight % 16)) ≡ n / weight
more n weight e = rw (digit_back (n / weight % 16) (omega arith)) (omega arith)

pub read_back : ReadBack
unfolding value_of hexadecimal digit_at table.tabulate
read_back n h =
    let p7 = more {value = 0} n 268435456 (omega arith) in
    let p6 = more n 16777216 (p7 ∙ omega arith) in
    let p5 = more n 1048576 (p6 ∙ omega arith) in
    let p4 = more n 65536 (p5 ∙ omega arith) in
    let p3 = more n 4096 (p4 ∙ omega arith) in
    let p2 = more n 256 (p3 ∙ omega arith) in
    let p1 = more n 16 (p2 ∙ omega arith) in
    more n 1 (p1 ∙ omega arith) ∙ omega arith

-- The rate of document 01's line: 3e2aaaab.
example : hexadecimal 0x3e2aaaab ≡ 51 ∷ 101 ∷ 50 ∷ 97 ∷ 97 ∷ 97 ∷ 97 ∷ 98 ∷ []
unfolding hexadecimal digit_at table.tabulate
example = refl
