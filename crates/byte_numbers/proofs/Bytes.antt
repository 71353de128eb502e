-- Laws of numbers as bytes, for any width.
--     length_numbers                        how many there are
--     number_of_bytes                       a number that its bytes can say is read back
--     numbers_of_bytes                      a claim: so are some numbers
--     two_at, four_at                       a number of two and of four bytes, by its bytes
--     word_le, number_le, two_le, four_le   what std's `from_le_bytes` gives
--     le_bytes16, le_bytes32                and its `to_le_bytes`
-- Assumes nothing.
use mathlib.Core.Path.{◌≡◌, refl}
use mathlib.Core.List.{List, [], ◌∷◌}
use Prim.Native.Nat.{ℕ, zero, suc, ◌+◌, ◌/◌, ◌^◌, ◌≤◌, ◌<◌}
use native.Mathlib.Omega.{arith}
use native.Mathlib.Nat.{add-zero, pow-suc, div-lt_iff_lt-mul}
use lib.ListN.{length, take, drop, get_or}
use Rattle.std.specs.Int.{w16, w32, to_le_bytes, from_le_bytes}
use Rattle.lists.specs.Table.{tabulate}
use Rattle.byte_numbers.specs.Bytes.{number_of, bytes_of, numbers_of, bytes_of_all, all_bytes, word}
use Rattle.byte_numbers.specs.Lengths.{length_bytes}
use Rattle.byte_numbers.proofs.Groups.{taken, length_by_group, by_group_joined}

pub length_numbers : (width : ℕ) (bytes : List ℕ) → length (numbers_of width bytes) ≡ length bytes / width
length_numbers width bytes = length_by_group width number_of bytes

pub number_of_bytes : (width n : ℕ) → n < 256 ^ width → number_of (bytes_of width n) ≡ n
unfolding number_of bytes_of
number_of_bytes zero n h = omega arith
number_of_bytes (suc width) n h =
    let less : n / 256 < 256 ^ width = (div-lt_iff_lt-mul {k = 256} (omega arith)).1 (rw pow-suc at h) in
    rw (number_of_bytes width (n / 256) less) (omega arith)

pub numbers_of_bytes : (width : ℕ) (numbers : List ℕ) → 0 < width → ((i : ℕ) → get_or numbers i 0 < 256 ^ width) → numbers_of width (bytes_of_all width numbers) ≡ numbers
unfolding all_bytes
numbers_of_bytes width numbers positive small =
    by_group_joined width (λ i. bytes_of width (get_or numbers i 0)) (λ i. length_bytes width (get_or numbers i 0))
    number_of (length numbers) 0 numbers positive refl (λ i h. number_of_bytes width (get_or numbers i 0) (small i))

pub two_at : (bytes : List ℕ) (at : ℕ) → at + 2 ≤ length bytes → word (get_or bytes at 0) (get_or bytes (at + 1) 0) ≡ number_of (take 2 (drop at bytes))
unfolding tabulate number_of
two_at bytes at h = rw (taken 0 2 at bytes h, add-zero) (omega arith)

pub four_at :
    (bytes : List ℕ) (at : ℕ)
    → at + 4 ≤ length bytes
    → number_of (get_or bytes at 0 ∷ get_or bytes (at + 1) 0 ∷ get_or bytes (at + 2) 0 ∷ get_or bytes (at + 3) 0 ∷ []) ≡ number_of (take 4 (drop at bytes))
unfolding tabulate
four_at bytes at h = rw (taken 0 4 at bytes h, add-zero)

-- std's number of two bytes and of four.
pub word_le : (b0 b1 : ℕ) → from_le_bytes w16 (b0 ∷ b1 ∷ []) ≡ word b0 b1
word_le b0 b1 = omega arith

pub number_le : (b0 b1 b2 b3 : ℕ) → from_le_bytes w32 (b0 ∷ b1 ∷ b2 ∷ b3 ∷ []) ≡ number_of (b0 ∷ b1 ∷ b2 ∷ b3 ∷ [])
unfolding number_of
number_le b0 b1 b2 b3 = omega arith

-- The same of the first bytes of a list; those past its end are 0.
pub two_le : (bytes : List ℕ) → from_le_bytes w16 (get_or bytes 0 0 ∷ get_or bytes 1 0 ∷ []) ≡ number_of (take 2 bytes)
unfolding number_of
two_le [] = omega arith
two_le (a ∷ []) = omega arith
two_le (a ∷ (b ∷ xs)) = omega arith

pub four_le : (bytes : List ℕ) → from_le_bytes w32 (get_or bytes 0 0 ∷ get_or bytes 1 0 ∷ get_or bytes 2 0 ∷ get_or bytes 3 0 ∷ []) ≡ number_of (take 4 bytes)
unfolding number_of
four_le [] = omega arith
four_le (a ∷ []) = omega arith
four_le (a ∷ (b ∷ [])) = omega arith
four_le (a ∷ (b ∷ (c ∷ []))) = omega arith
four_le (a ∷ (b ∷ (c ∷ (d ∷ xs)))) = omega arith

-- std's bytes of a number.
pub le_bytes16 : (n : ℕ) → to_le_bytes w16 n ≡ bytes_of 2 n
unfolding bytes_of
le_bytes16 n = refl

pub le_bytes32 : (n : ℕ) → to_le_bytes w32 n ≡ bytes_of 4 n
unfolding bytes_of
le_bytes32 n =
    let third : n / 256 / 256 ≡ n / 65536 = omega arith in
    let last : n / 256 / 256 / 256 ≡ n / 16777216 = omega arith in
    rw (last, third)
