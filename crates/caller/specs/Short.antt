-- fgbio's Short: depths and errors at a position go up to 32,767.
use Rattle.std.specs.Prelude.{ℕ, min, ℤ, pos, negsuc}

abbrev pub short_max : ℕ
short_max = 32767

-- Held to 32,767.
abbrev pub short : ℕ → ℕ
short n = min n short_max

-- A number that may be below zero, held to 0..32,767.
abbrev pub short_of : ℤ → ℕ
short_of (pos n) = short n
short_of (negsuc n) = 0
