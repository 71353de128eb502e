-- A strand's depths and errors, and what reading them from bytes leaves in arrays of a call's own.
use Rattle.std.specs.Prelude.{ℕ, ◌/◌, ◌≡◌, Option, Some, None, List, length, replicate, take}
use Rattle.lists.specs.Output.{put}
use Rattle.byte_numbers.specs.Bytes.{words16}
use Rattle.duplex_metrics.specs.declared.Counts.{Counts}
use Rattle.molecule_counts.specs.declared.CountBuffers.{CountBuffers}

-- A strand's arrays, and those of one that may be absent.
pub record CountedArrays : Type 0 where
  pub depths : List ℕ
  pub errors : List ℕ

abbrev pub arrays_in : Counts ℕ → CountedArrays
arrays_in s = record { depths = s.depths.now; errors = s.errors.now }

abbrev pub second_in : Option (Counts ℕ) → Option CountedArrays
second_in None = None
second_in (Some s) = Some (arrays_in s)

-- A call's own arrays for a strand's numbers, as the code has them, and of 1,024 places each, as a call begins with them.
abbrev pub buffers_in : CountBuffers → CountedArrays
buffers_in b = record { depths = b.depths; errors = b.errors }

abbrev pub zero_counts : CountedArrays
zero_counts = record { depths = replicate 1024 0; errors = replicate 1024 0 }

-- What reading the numbers of a strand leaves in two arrays, where there is one.
abbrev pub DecodedTo : Option (Counts ℕ) → CountedArrays → CountedArrays → Type 0
DecodedTo None before now = now ≡ before
DecodedTo (Some s) before now =
    (now.depths ≡ put (take (length before.depths) (words16 s.depths.now)) before.depths) × (now.errors ≡ put (take (length before.errors) (words16 s.errors.now)) before.errors)

-- As many numbers at the front of two arrays as a strand's bytes are.
abbrev pub counts_at_front : Counts ℕ → CountedArrays → CountedArrays
counts_at_front s read = record { depths = take (length s.depths.now / 2) read.depths; errors = take (length s.errors.now / 2) read.errors }
