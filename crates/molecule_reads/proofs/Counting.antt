-- The invariant of the loop that counts the reads of a run: those passed are counted, and what is left decides.
--     begin, one_more, done, done_broken     the facts that the loop asks for
-- Assumes nothing.
use mathlib.Core.Path.{◌≡◌, refl, sym, ap, ◌∙◌}
use mathlib.Core.Bool.{Bool, true, false}
use mathlib.Core.List.{List, []}
use Prim.Native.Nat.{ℕ, suc, ◌+◌, ◌≤◌}
use native.Mathlib.Omega.{arith}
use lib.ListN.{length, drop}
use Rattle.fields.specs.Encoding.{whole_fields}
use Rattle.molecule_fields.specs.Widths.{is_run}
use Rattle.source_reads.specs.declared.SourceRead.{SourceRead}
use Rattle.refusals.specs.declared.Refusal.TheVariants.{Broken}
use Rattle.std.proofs.Common.{Some, Ok, Err}
use Rattle.molecule_reads.specs.Run.{reads_from, reads_of, next_read, counted}
use Rattle.molecule_reads.proofs.Run.{Left, run_next}

pub record Counting (run : List ℕ) (count at : ℕ) : Type 0 where
  pub within : at ≤ length run
  pub few : count ≤ at
  pub left : count + length (reads_from at (whole_fields (drop at run))) ≡ length (reads_of run)
  pub whole : is_run (drop at run) ≡ is_run run

module _ {run : List ℕ} where
  pub begin : Counting run 0 0
  unfolding reads_of
  begin = record { within = omega arith; few = omega arith; left = omega arith; whole = refl }

  module _ {count at : ℕ} (k : Counting run count at) where
    pub one_more : {read : SourceRead} → next_read run at ≡ Ok (Some read) → Counting run (count + 1) (read.offset + read.length)
    one_more {read} e =
        let r = run_next run at e in
        let then = read.offset + read.length in
        let n : length (reads_from at (whole_fields (drop at run))) ≡ suc (length (reads_from then (whole_fields (drop then run)))) = ap length r.left.reads_are in
        record {
          within = r.within;
          few = omega (arith, r.further, k.few);
          left = omega (arith, k.left);
          whole = sym r.left.whole_is ∙ k.whole;
        }

    -- No read is left, as the run is whole or broken there.
    abbrev count_is : {whole : Bool} → Left run at [] whole → length (reads_of run) ≡ count
    count_is e =
        let none_left : length (reads_from at (whole_fields (drop at run))) ≡ 0 = ap length e.reads_are in
        omega (arith, k.left)

    pub done : Left run at [] true → counted run ≡ record { count = count; whole = Ok tt }
    done e = rw (sym k.whole ∙ e.whole_is, count_is e)

    pub done_broken : Left run at [] false → counted run ≡ record { count = count; whole = Err Broken }
    done_broken e = rw (sym k.whole ∙ e.whole_is, count_is e)
