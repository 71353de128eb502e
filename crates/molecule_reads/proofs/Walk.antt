-- The invariant of the loop that walks a run: the reads passed are counted, and the errors of those that are left, added to what stands,
-- give those of all.
--     begin, one_more, same_length, all_added, all_counted, broken_counted     the facts that the loop asks for
-- Assumes nothing.
use mathlib.Core.Path.{◌≡◌, refl, sym, ap, ◌∙◌}
use mathlib.Core.Bool.{Bool, true, false}
use mathlib.Core.List.{List, [], ◌∷◌}
use Prim.Native.Nat.{ℕ, ◌+◌}
use lib.ListN.{length}
use Rattle.std.proofs.Common.{Some, Ok, Err}
use Rattle.refusals.specs.declared.Refusal.TheVariants.{Broken}
use Rattle.source_reads.specs.Arrays.{ShownArrays}
use Rattle.source_reads.specs.Reads.{shown_errors}
use Rattle.source_reads.specs.declared.SourceRead.{SourceRead}
use Rattle.source_reads.proofs.Counted.{same, none_yet, after_one}
use Rattle.molecule_reads.specs.Run.{reads_of, next_read, counted}
use Rattle.molecule_reads.specs.Claims.{reads_at}
use Rattle.molecule_reads.proofs.Counting.{Counting, begin as none_passed, one_more as one_passed, done, done_broken}
use Rattle.molecule_reads.proofs.Run.{Left, run_next}

pub record Walking (run : List ℕ) (s : ShownArrays) (before errors : List ℕ) (count at : ℕ) : Type 0 where
  pub passed : Counting run count at
  pub left : shown_errors (reads_at run at) run s errors ≡ shown_errors (reads_of run) run s before

module _ {run : List ℕ} {s : ShownArrays} {before : List ℕ} where
  pub begin : Walking run s before before 0 0
  unfolding reads_of
  begin = record { passed = none_passed; left = refl }

  module _ {errors : List ℕ} {count at : ℕ} (w : Walking run s before errors count at) where
    pub same_length : length errors ≡ length before
    same_length =
        sym (same (reads_at run at) run s errors)
        ∙ ap length w.left
        ∙ same (reads_of run) run s before

    pub one_more : {read : SourceRead} {after : List ℕ} → next_read run at ≡ Ok (Some read) → after ≡ shown_errors (read ∷ []) run s errors → Walking run s before after (count + 1) (read.offset + read.length)
    one_more {read} e added = record {
      passed = one_passed w.passed e;
      left =
          ap (shown_errors (reads_at run (read.offset + read.length)) run s) added
          ∙ sym (after_one (reads_at run (read.offset + read.length)) run s errors read)
          ∙ ap (λ (reads : List SourceRead). shown_errors reads run s errors) (sym (run_next run at e).left.reads_are)
          ∙ w.left;
    }

    pub all_added : {whole : Bool} → Left run at [] whole → errors ≡ shown_errors (reads_of run) run s before
    all_added e =
        none_yet [] run s errors
        ∙ ap (λ (reads : List SourceRead). shown_errors reads run s errors) (sym e.reads_are)
        ∙ w.left

    pub all_counted : Left run at [] true → counted run ≡ record { count = count; whole = Ok tt }
    all_counted e = done w.passed e

    pub broken_counted : Left run at [] false → counted run ≡ record { count = count; whole = Err Broken }
    broken_counted e = done_broken w.passed e
