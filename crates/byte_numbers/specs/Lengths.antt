-- How many bytes a number has. Assumes nothing.
use Rattle.std.specs.Prelude.{◌≡◌, refl, ℕ, zero, suc, ◌/◌, length}
use mathlib.Core.Path.{ap}
use Rattle.byte_numbers.specs.Bytes.{bytes_of}

pub length_bytes : (width n : ℕ) → length (bytes_of width n) ≡ width
unfolding bytes_of
length_bytes zero n = refl
length_bytes (suc width) n = ap suc (length_bytes width (n / 256))
