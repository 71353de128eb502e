-- Source reads and their errors, document 01.
use Rattle.std.specs.Prelude.{ℕ, ◌+◌, Bool, cond, not, ◌&&◌, ltb, length, get_or, replicate}
use Rattle.std.specs.List.{list_any}
use mathlib.Core.List.{List, [], ◌∷◌, foldl}
use Rattle.lists.specs.Count.{count_of}
use Rattle.lists.specs.Output.{put}
use Rattle.lists.specs.Part.{leaves}
use Rattle.lists.specs.Table.{tabulate}
use Rattle.numbers.specs.Numbers.{saturating_add, smallest}
use Rattle.flags.specs.Flags.{is_set, last_segment}
use Rattle.duplex_molecule.specs.Molecule.{is_error}
use Rattle.duplex_molecule.specs.declared.CtInput.{CtInput}
use Rattle.duplex_call.specs.Annotated.{expected}
use Rattle.source_reads.specs.Arrays.{BaseArrays, CombinedArrays, ShownArrays}
use Rattle.source_reads.specs.declared.SourceRead.{SourceRead}

-- The read that stands for one that is not there.
abbrev pub none : SourceRead
none = record { flags = 0; offset = 0; length = 0 }

-- The read's part leaves a buffer of n bytes.
unfoldable pub read_leaves : ℕ → SourceRead → Bool
read_leaves n read = leaves read.offset read.length n

-- Some read's part leaves a buffer of n bytes.
unfoldable pub any_leaves : ℕ → List SourceRead → Bool
any_leaves n reads = list_any (read_leaves n) reads

-- The read has a base at position i: its part lies within the bytes, and it is long enough.
unfoldable pub reaches : List ℕ → ℕ → SourceRead → Bool
reaches bytes i read = not (read_leaves (length bytes) read) && ltb i read.length

-- The read is an error at position i: it has a base there, and that is an error against what the read should show, which
-- `expected` gives for a read without flag 0x80 and for one with it.
unfoldable pub read_error : List ℕ → (Bool → ℕ) → ℕ → SourceRead → Bool
read_error bytes expected i read = reaches bytes i read && is_error (get_or bytes (read.offset + i) 0) (expected (is_set read.flags last_segment))

-- How many reads are errors at position i.
unfoldable pub read_errors : List ℕ → (Bool → ℕ) → ℕ → List SourceRead → ℕ
read_errors bytes expected i reads = count_of (read_error bytes expected i) reads

-- One error more, or none, in a number of 16 bits.
unfoldable pub one_more : Bool → ℕ → ℕ
one_more error so_far = cond error (saturating_add 16 so_far 1) so_far

-- The number at position i after one more read.
unfoldable pub add_error : List ℕ → (Bool → ℕ) → ℕ → ℕ → SourceRead → ℕ
add_error bytes expected i so_far read = one_more (read_error bytes expected i read) so_far

-- The errors of some reads added to the numbers at the first n positions.
unfoldable pub added_errors : ℕ → List ℕ → (ℕ → Bool → ℕ) → List SourceRead → List ℕ → List ℕ
added_errors n bytes expected reads errors = put (tabulate n (λ i. foldl (add_error bytes (expected i) i) (get_or errors i 0) reads)) errors

-- What a read should show at position i, by the bases and qualities of strands A and B.
abbrev pub expected_at : CtInput → BaseArrays → BaseArrays → ℕ → Bool → ℕ
expected_at ct a b i = expected ct (get_or a.bases i 0) (get_or a.quals i 0) (get_or b.bases i 0) (get_or b.quals i 0)

-- As many positions as are asked for, no more than each array has, and no more than row 7 lets a strand have. The errors have so many.
abbrev pub counted_length : CombinedArrays → ℕ → ℕ
counted_length s errors =
    smallest (s.positions ∷ length s.a.bases ∷ length s.a.quals ∷ length s.b.bases ∷ length s.b.quals ∷ errors ∷ 1024 ∷ [])

-- What a count of some reads leaves where these errors were.
unfoldable pub counted_errors : List SourceRead → List ℕ → CombinedArrays → List ℕ → List ℕ
counted_errors reads bytes s errors = added_errors (counted_length s (length errors)) bytes (expected_at s.ct s.a s.b) reads errors

-- What the reads with flag 0x80, or those without it, should show at the first positions, and 0 behind them.
unfoldable pub expected_bases : CombinedArrays → Bool → List ℕ
expected_bases s last = put (tabulate (counted_length s 1024) (λ i. expected_at s.ct s.a s.b i last)) (replicate 1024 0)

-- What a read should show at position i, by what those without flag 0x80 should show and those with it.
abbrev pub shown_at : ShownArrays → ℕ → Bool → ℕ
shown_at s i flagged = get_or (cond flagged s.last s.first) i 0

-- What a count of some reads leaves, by these.
unfoldable pub shown_errors : List SourceRead → List ℕ → ShownArrays → List ℕ → List ℕ
shown_errors reads bytes s errors = added_errors (smallest (s.positions ∷ length s.first ∷ length s.last ∷ length errors ∷ [])) bytes (shown_at s) reads errors
