-- What the loop keeps: the combined depths of the positions so far are written.
use Rattle.lists.specs.Table.{tabulate}
use Rattle.lists.proofs.Output.{Filling}
use Rattle.duplex_depths.specs.Depths.{combined_depth}
use Rattle.duplex_depths.proofs.write_combined.Given as goal

abbrev pub invariant-loop-i : goal.invariant-loop-i
invariant-loop-i l = Filling l.positions (tabulate l.positions (combined_depth l.ab l.ba)) l.fn.out l.i l.out
