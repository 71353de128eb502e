-- Numbers as bytes, low byte first.
use Rattle.std.specs.Prelude.{ℕ, zero, suc, ◌+◌, ◌*◌, ◌/◌, ◌%◌, Bool, not, List, [], ◌∷◌, eqb, length, get_or}
use Rattle.byte_numbers.specs.Groups.{joined, by_group}

-- The number that some bytes stand for.
unfoldable pub number_of : List ℕ → ℕ
number_of [] = 0
number_of (byte ∷ bytes) = byte + 256 * number_of bytes

-- That of two bytes.
abbrev pub word : ℕ → ℕ → ℕ
word low high = low + 256 * high

-- A number as so many bytes.
unfoldable pub bytes_of : ℕ → ℕ → List ℕ
bytes_of zero n = []
bytes_of (suc width) n = n % 256 ∷ bytes_of width (n / 256)

-- The numbers of some bytes, so many bytes each.
abbrev pub numbers_of : ℕ → List ℕ → List ℕ
numbers_of width bytes = by_group width number_of bytes

module _ {A : Type 0} where
  -- The bytes of all of a list, by those of each.
  unfoldable pub all_bytes : (A → List ℕ) → A → List A → List ℕ
  all_bytes bytes d xs = joined (length xs) (λ i. bytes (get_or xs i d))

-- The bytes of some numbers.
abbrev pub bytes_of_all : ℕ → List ℕ → List ℕ
bytes_of_all width numbers = all_bytes (bytes_of width) 0 numbers

-- The widths in use.
abbrev pub words16 : List ℕ → List ℕ
words16 bytes = numbers_of 2 bytes

abbrev pub words32 : List ℕ → List ℕ
words32 bytes = numbers_of 4 bytes

abbrev pub bytes16 : List ℕ → List ℕ
bytes16 numbers = bytes_of_all 2 numbers

abbrev pub bytes32 : List ℕ → List ℕ
bytes32 numbers = bytes_of_all 4 numbers

-- A byte count that 16-bit numbers do not fit.
abbrev pub odd_count : ℕ → Bool
odd_count n = not (eqb (n % 2) 0)
