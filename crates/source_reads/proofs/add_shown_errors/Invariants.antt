-- What the loop keeps.
use lib.ListN.{get_or}
use Rattle.source_reads.proofs.Adding.{Adding}
use Rattle.source_reads.proofs.add_shown_errors.Given as goal

abbrev pub invariant-loop-i : goal.invariant-loop-i
invariant-loop-i l = Adding l.n l.bases (λ j. get_or l.shown j 0) l.initial.errors l.i l.errors
