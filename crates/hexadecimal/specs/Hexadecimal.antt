-- Numbers below 2 to the power 32 as hexadecimal text in ASCII.
use Rattle.std.specs.Prelude.{◌≡◌, ℕ, ◌+◌, ◌-◌, ◌*◌, ◌/◌, ◌%◌, ◌^◌, ◌<◌, cond, ltb}
use mathlib.Core.List.{List, foldl}
use Rattle.lists.specs.Table.{tabulate}

-- The character of a digit: that of 0 is 48, and that of 10 is 97, a lower-case a.
abbrev pub hex_digit : ℕ → ℕ
hex_digit d = cond (ltb d 10) (48 + d) (97 + (d - 10))

-- The character at a place of the text, whose first digit counts for 16 to the power 7.
unfoldable pub digit_at : ℕ → ℕ → ℕ
digit_at n place = hex_digit (n / 16 ^ (7 - place) % 16)

-- Eight digits, most significant first.
unfoldable pub hexadecimal : ℕ → List ℕ
hexadecimal n = tabulate 8 (digit_at n)

-- The number that a digit's character stands for: 0 to 9 are the characters from 48 on, 10 to 15 those from 97 on.
abbrev pub digit_of : ℕ → ℕ
digit_of character = cond (ltb character 97) (character - 48) (character - 87)

-- The number that a text of digits stands for.
unfoldable pub value_of : List ℕ → ℕ
value_of text = foldl (λ value character. 16 * value + digit_of character) 0 text

-- A claim: the eight digits of a number below 2 to the power 32 stand for it.
abbrev pub ReadBack : Type 0
ReadBack = (n : ℕ) → n < 2 ^ 32 → value_of (hexadecimal n) ≡ n
