-- What the loop keeps, whatever is told of the closure's answers.
use Prim.Native.Nat.{ℕ}
use Rattle.lists.specs.Table.{tabulate, Tells}
use Rattle.lists.proofs.Output.{Filling}
use Rattle.duplex_position.specs.declared.Position.{Position}
use Rattle.duplex_arrays.proofs.fill_positions.Given as goal

abbrev pub invariant-loop-i : goal.invariant-loop-i
invariant-loop-i g l =
    (told : ℕ → Position)
    → Tells l.n (goal.F-post g l.at) told
    → Filling l.n (tabulate l.n (λ i. (told i).base)) l.initial.bases_out l.i l.bases_out
    × Filling l.n (tabulate l.n (λ i. (told i).qual)) l.initial.quals_out l.i l.quals_out
