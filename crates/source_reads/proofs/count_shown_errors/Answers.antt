-- `source_reads::count_shown_errors` meets its contract: after so many turns it has counted the first reads. Assumes nothing.
use Rattle.source_reads.specs.Arrays.{shown_in}
use Rattle.source_reads.proofs.Counted.{none_yet, next}
use Rattle.source_reads.proofs.count_shown_errors.Goals as goal

pub loop-read-init : goal.loop-read-init
loop-read-init c = none_yet c.args.list.reads.now c.args.list.bytes.now (shown_in c.args.shown) c.args.errors.now

pub loop-read-preserved : goal.loop-read-preserved
loop-read-preserved c =
    next c.args.list.reads.now c.args.list.bytes.now (shown_in c.args.shown) c.args.errors.now c.loop-read-test.true c.loop-read.invariant c.add_read_errors.ensures
