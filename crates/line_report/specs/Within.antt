-- The first numbers of a strand that were read to a call's own arrays.
use Rattle.std.specs.Prelude.{ℕ, Option, Some, None, take}
use Rattle.duplex_metrics.specs.declared.Counts.{Counts}
use Rattle.molecule_counts.specs.Counts.{CountedArrays, counts_at_front}

abbrev pub first_read : ℕ → Counts ℕ → CountedArrays → CountedArrays
first_read n s read =
    let all = counts_at_front s read in
    record { depths = take n all.depths; errors = take n all.errors }

abbrev pub second_read : ℕ → Option (Counts ℕ) → CountedArrays → Option CountedArrays
second_read n None read = None
second_read n (Some s) read = Some (first_read n s read)
