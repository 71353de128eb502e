-- What the loop keeps: the largest of each strand's depths so far.
use mathlib.Core.Path.{◌≡◌}
use lib.ListN.{length}
use Rattle.duplex_gate.specs.ConsensusGate.{largest_within}
use Rattle.duplex_gate.proofs.largest_within.Given as goal

abbrev pub invariant-loop-of_a : goal.invariant-loop-of_a
invariant-loop-of_a l = (l.of_ab ≡ largest_within (length l.yielded) l.ab) × (l.of_ba ≡ largest_within (length l.yielded) l.ba)
