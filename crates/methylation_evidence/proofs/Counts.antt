-- How many counts a tag has, and which stands at a position.
--     counts_length, count_at       of one annotation
--     summed_length                 of two
-- Assumes nothing.
use mathlib.Core.Path.{◌≡◌, sym}
use mathlib.Core.List.{List}
use Prim.Native.Nat.{ℕ}
use lib.ListN.{length, get_or, length-map, get_or-map}
use Rattle.lists.proofs.Table.{length_tabulate}
use Rattle.methylation_evidence.specs.Counts.{tag_count, tag_counts, summed_count, summed_counts}

pub counts_length : (counts : List ℕ) → length (tag_counts counts) ≡ length counts
counts_length counts = length-map counts tag_count

pub count_at : (counts : List ℕ) (i : ℕ) → tag_count (get_or counts i 0) ≡ get_or (tag_counts counts) i 0
count_at counts i = sym (get_or-map tag_count counts i 0)

pub summed_length : (n : ℕ) (a b : List ℕ) → length (summed_counts n a b) ≡ n
summed_length n a b = length_tabulate n (summed_count a b)
