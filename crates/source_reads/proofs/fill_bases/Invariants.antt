-- What the loop keeps, whatever is told of the closure's answers.
use Prim.Native.Nat.{ℕ}
use Rattle.lists.specs.Table.{tabulate, Tells}
use Rattle.lists.proofs.Output.{Filling}
use Rattle.source_reads.proofs.fill_bases.Given as goal

abbrev pub invariant-loop-i : goal.invariant-loop-i
invariant-loop-i g l =
    (told : ℕ → ℕ)
    → Tells l.n (goal.F-post g l.at) told
    → Filling l.n (tabulate l.n told) l.initial.out l.i l.out
