-- A strand's evidence as bytes, nine for each position: its mark and its two counts, unconverted and converted, of four bytes each,
-- low byte first. So an encoded annotation has it, behind the pattern (document 01's tray, fields 14 and 24).
use Rattle.std.specs.Prelude.{ℕ, min, ◌/◌, Bool, cond, List, ◌∷◌, ◌++◌, length, take, drop, get_or, replicate}
use Rattle.methylation.specs.Arrays.{informative}
use Rattle.methylation.specs.Methylation.{evidence_if}
use Rattle.methylation.specs.declared.Evidence.{Evidence}
use Rattle.byte_numbers.specs.Bytes.{number_of, bytes_of}
use Rattle.byte_numbers.specs.Groups.{group, joined, by_group}

-- The bytes of a position: mark, unconverted, converted.
unfoldable pub position_bytes : ℕ → ℕ → ℕ → List ℕ
position_bytes mark unconverted converted = mark ∷ (bytes_of 4 unconverted ++ bytes_of 4 converted)

-- The bytes of some positions, as many as there are marks. A count that is missing is 0.
unfoldable pub evidence_bytes : List ℕ → List ℕ → List ℕ → List ℕ
evidence_bytes marks unconverted converted = joined (length marks) (λ i. position_bytes (get_or marks i 0) (get_or unconverted i 0) (get_or converted i 0))

-- The mark in a position's bytes, and the count from an offset on.
abbrev pub mark_in : List ℕ → ℕ
mark_in position = get_or position 0 0

unfoldable pub count_in : ℕ → List ℕ → ℕ
count_in offset position = number_of (take 4 (drop offset position))

-- What some bytes say of each position.
abbrev pub marks_of : List ℕ → List ℕ
marks_of bytes = by_group 9 mark_in bytes

abbrev pub counts_of : ℕ → List ℕ → List ℕ
counts_of offset bytes = by_group 9 (count_in offset) bytes

abbrev pub unconverted_of : List ℕ → List ℕ
unconverted_of bytes = counts_of 1 bytes

abbrev pub converted_of : List ℕ → List ℕ
converted_of bytes = counts_of 5 bytes

-- The evidence that a position's bytes say, kept or clear, and its bytes then.
abbrev pub kept_in : Bool → List ℕ → Evidence
kept_in kept position = evidence_if kept (count_in 1 position) (count_in 5 position)

abbrev pub bytes_in : Evidence → List ℕ
bytes_in e = position_bytes e.mark e.unconverted e.converted

-- The bytes themselves: those of a position, or of one that is clear.
abbrev pub kept_or_clear : Bool → List ℕ → List ℕ
kept_or_clear kept position = cond kept position (replicate 9 0)

-- The bytes of the first n positions of some bytes, each kept where another mark than theirs says informative, clear where not.
unfoldable pub marked_bytes : ℕ → List ℕ → List ℕ → List ℕ
marked_bytes n marks bytes = joined n (λ i. bytes_in (kept_in (informative (get_or marks i 0)) (group 9 bytes i)))

-- As many as there are marks and positions, and as there is room for.
abbrev pub positions_marked : List ℕ → List ℕ → List ℕ → ℕ
positions_marked marks bytes out = min (min (length out / 9) (length marks)) (length bytes / 9)
