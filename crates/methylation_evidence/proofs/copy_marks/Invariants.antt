-- What the loop keeps.
use mathlib.Core.List.{map}
use lib.ListN.{length}
use Rattle.lists.proofs.Output.{Filling}
use Rattle.vanilla_caller.specs.Strand.{mark}
use Rattle.methylation_evidence.proofs.copy_marks.Given as goal

abbrev pub invariant-loop-i : goal.invariant-loop-i
invariant-loop-i l = Filling (length l.mark-items) (map mark l.mark-items) l.initial.out l.i l.out
