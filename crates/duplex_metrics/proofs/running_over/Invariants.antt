-- What the loop keeps.
use lib.ListN.{length}
use Rattle.lists.specs.Part.{only_if}
use Rattle.lists.specs.Table.{tabulate}
use Rattle.duplex_metrics.specs.Metrics.{capped, record_depth, record_depths}
use Rattle.duplex_metrics.proofs.SoFar.{mark, Reached}
use Rattle.duplex_metrics.proofs.running_over.Given as goal

abbrev pub invariant-loop-i : goal.invariant-loop-i
invariant-loop-i l =
    let b' = only_if l.second l.b in
    Reached (record_depth l.a b' 0) (record_depths (length l.errors) l.a b') (capped l.errors) (tabulate (length l.errors) (mark l.a b' (only_if l.asked l.bases))) l.i l.r
