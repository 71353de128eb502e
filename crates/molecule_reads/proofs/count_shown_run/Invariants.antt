-- What the loop keeps.
use Prim.Native.Nat.{◌-◌}
use lib.ListN.{length}
use Rattle.source_reads.specs.Arrays.{shown_in}
use Rattle.molecule_reads.proofs.Walk.{Walking}
use Rattle.molecule_reads.proofs.count_shown_run.Given as goal

abbrev pub invariant-loop-read : goal.invariant-loop-read
invariant-loop-read l = Walking l.run (shown_in l.shown) l.initial.errors l.errors l.count l.at

abbrev pub decreases-loop-read : goal.decreases-loop-read
decreases-loop-read l = length l.run - l.at
