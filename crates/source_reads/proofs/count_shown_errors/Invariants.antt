-- What the loop keeps: after so many turns it has counted the first reads.
use Rattle.std.proofs.Common.{◌≡◌, take}
use Rattle.source_reads.specs.Arrays.{shown_in}
use Rattle.source_reads.specs.Reads.{shown_errors}
use Rattle.source_reads.proofs.count_shown_errors.Given as goal

abbrev pub invariant-loop-read : goal.invariant-loop-read
invariant-loop-read l = l.errors ≡ shown_errors (take l.read-index l.list.reads.now) l.list.bytes.now (shown_in l.shown) l.initial.errors
