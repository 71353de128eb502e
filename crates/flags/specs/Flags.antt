-- The FLAG field of the SAM specification: a number whose binary digits are yes or no, each named by its value.
use Rattle.std.specs.Prelude.{ℕ, ◌/◌, ◌%◌, Bool, eqb}

abbrev pub paired : ℕ
paired = 0x1

abbrev pub unmapped : ℕ
unmapped = 0x4

abbrev pub mate_unmapped : ℕ
mate_unmapped = 0x8

abbrev pub reverse : ℕ
reverse = 0x10

abbrev pub first_segment : ℕ
first_segment = 0x40

abbrev pub last_segment : ℕ
last_segment = 0x80

-- The binary digit whose value is `bit`, a power of two, is 1.
unfoldable pub is_set : ℕ → ℕ → Bool
is_set flags bit = eqb (flags / bit % 2) 1
