-- The counts while reads are added, one a turn: after k reads they are the counts of the first k reads.
--     Running                    that, for one of the two counts
--     begun, added_next          before the first read, and after one more
--     ready                      each count has room, and is below 1,024 before each of at most 1,024 reads
--     inside                     no read's part leaves the bytes
-- Assumes nothing.
use mathlib.Core.Path.{◌≡◌, ap, ◌∙◌}
use mathlib.Core.Bool.{false}
use mathlib.Core.List.{List, [], ◌∷◌}
use Prim.Native.Nat.{ℕ, zero, suc, ◌+◌, ◌<◌, ◌≤◌}
use native.Mathlib.Nat.{not-suc-le-zero, le_of_suc-le-suc}
use native.Mathlib.Omega.{arith}
use lib.ListN.{length, get_or, take, replicate, length-take}
use Rattle.lists.specs.Count.{count_if, count_of}
use Rattle.lists.specs.Output.{put}
use Rattle.lists.specs.Table.{tabulate}
use Rattle.lists.proofs.Count.{counts_few}
use Rattle.lists.proofs.Fold.{fold_next}
use Rattle.lists.proofs.Output.{length_put}
use Rattle.lists.proofs.Table.{length_tabulate, repeated}
use Rattle.lists.proofs.Written.{table_front}
use Rattle.refusals.proofs.Condition.{neither}
use Rattle.source_reads.specs.Reads.{none, read_leaves, any_leaves}
use Rattle.source_reads.specs.declared.SourceRead.{SourceRead}
use Rattle.simplex_methylation.specs.Simplex.{Setting, shown, counts_of, added, Countable}
use Rattle.simplex_methylation.proofs.Counts.{one_read_more}

module _ (size : ℕ) where
  pub inside : (xs : List SourceRead) → any_leaves size xs ≡ false → (k : ℕ) → k < length xs → read_leaves size (get_or xs k none) ≡ false
  unfolding any_leaves
  inside [] e k l = absurd (not-suc-le-zero l)
  inside (x ∷ xs) e zero l = (neither (read_leaves size x) (any_leaves size xs) e).0
  inside (x ∷ xs) e (suc k) l = inside xs (neither (read_leaves size x) (any_leaves size xs) e).1 k (le_of_suc-le-suc l)

module _ (s : Setting) (letter : ℕ) (ys : List SourceRead) (n : ℕ) (before : List ℕ) where
  -- The count after k reads.
  pub record Running (k : ℕ) (now : List ℕ) : Type 0 where
    pub room : n ≤ length before
    pub so_far : now ≡ put (counts_of s letter (take k ys) n) before

  pub begun : n ≤ length before → {now : List ℕ} → now ≡ put (replicate n 0) before → Running 0 now
  unfolding counts_of count_of
  begun h e = record { room = h; so_far = e ∙ ap (λ (l : List ℕ). put l before) (repeated n 0) }

  module _ {k : ℕ} {now : List ℕ} (r : Running k now) where
    pub ready : k < 1024 → Countable n now
    unfolding counts_of count_of
    ready l = record {
      room = omega (arith, r.room, ap length r.so_far, length_put (counts_of s letter (take k ys) n) before (omega (arith, r.room, length_tabulate n (λ i. count_of (shown s letter i) (take k ys)))));
      below = λ i h. omega (arith, ap (λ (l : List ℕ). get_or l i 0) r.so_far, table_front 0 n (λ j. count_of (shown s letter j) (take k ys)) before i h, counts_few (shown s letter i) (take k ys), length-take k ys);
    }

    pub added_next : k < length ys → {next : List ℕ} → next ≡ put (added n (λ i. shown s letter i (get_or ys k none)) now) now → Running (k + 1) next
    unfolding counts_of count_of count_if
    added_next l e = record {
      room = r.room;
      so_far =
          e
          ∙ one_read_more n _ (λ i. count_of (shown s letter i) (take k ys)) before r.room r.so_far
          ∙ (λ j. put (tabulate n (λ i. fold_next (count_if (shown s letter i)) 0 ys k none l j)) before);
    }
