-- Numbers as decimal text in ASCII.
use Rattle.std.specs.Prelude.{ℕ, zero, suc, ◌+◌, ◌-◌, ◌*◌, ◌/◌, ◌%◌, cond, ltb}
use mathlib.Core.List.{List, [], ◌∷◌, ◌++◌, foldl}

-- The character of a digit; that of 0 is 48.
abbrev pub digit : ℕ → ℕ
digit d = 48 + d

-- The text of n, which has at most so many digits: the digits of n / 10, and then that of the rest. A number below 10 is one
-- digit, so that no text starts with a zero but that of 0 itself.
unfoldable pub decimal_in : ℕ → ℕ → List ℕ
decimal_in zero n = []
decimal_in (suc digits) n = cond (ltb n 10) (digit n ∷ []) (decimal_in digits (n / 10) ++ digit (n % 10) ∷ [])

-- n has at most n + 1 digits.
unfoldable pub decimal : ℕ → List ℕ
decimal n = decimal_in (suc n) n

-- The number that a text of digits stands for.
unfoldable pub value_of : List ℕ → ℕ
value_of text = foldl (λ value character. 10 * value + (character - 48)) 0 text

-- Numbers in decimal, a comma (44) before each.
unfoldable pub listed : List ℕ → List ℕ
listed [] = []
listed (n ∷ ns) = (44 ∷ decimal n) ++ listed ns
