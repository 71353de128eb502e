-- What the loop keeps.
use Rattle.lists.specs.Table.{tabulate}
use Rattle.lists.proofs.Output.{Filling}
use Rattle.duplex_evidence.specs.Kept.{marked_at}
use Rattle.duplex_evidence.proofs.fill_counts.Given as goal

abbrev pub invariant-loop-i : goal.invariant-loop-i
invariant-loop-i l =
    Filling l.n (tabulate l.n (λ k. (marked_at l.marks l.own.unconverted.now l.own.converted.now k).unconverted)) l.initial.unconverted_out l.i l.unconverted_out
    × Filling l.n (tabulate l.n (λ k. (marked_at l.marks l.own.unconverted.now l.own.converted.now k).converted)) l.initial.converted_out l.i l.converted_out
