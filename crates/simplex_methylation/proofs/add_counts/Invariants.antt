-- What the loop keeps: the counts that it has not come to, and, whatever is told of the closure's answers, those that it has.
use Prim.Native.Nat.{ℕ}
use Rattle.lists.specs.Table.{Tells}
use Rattle.lists.proofs.Output.{Filling}
use Rattle.simplex_methylation.specs.Simplex.{added}
use Rattle.simplex_methylation.specs.declared.ShownLetters.{ShownLetters}
use Rattle.simplex_methylation.proofs.Counts.{Kept}
use Rattle.simplex_methylation.proofs.add_counts.Given as goal

abbrev pub invariant-loop-i : goal.invariant-loop-i
invariant-loop-i g l =
    Kept l.n l.initial.unconverted_out l.i l.unconverted_out
    × Kept l.n l.initial.converted_out l.i l.converted_out
    × ((told : ℕ → ShownLetters)
    → Tells l.n (goal.F-post g l.shows) told
    → Filling l.n (added l.n (λ i. (told i).unconverted) l.initial.unconverted_out) l.initial.unconverted_out l.i l.unconverted_out
    × Filling l.n (added l.n (λ i. (told i).converted) l.initial.converted_out) l.initial.converted_out l.i l.converted_out)
