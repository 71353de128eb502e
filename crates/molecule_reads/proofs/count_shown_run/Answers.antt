-- `molecule_reads::count_shown_run` meets its contract: of one read more both its count and its errors are kept. Assumes nothing.
use Rattle.std.proofs.Common.{rules}
use Rattle.molecule_reads.proofs.Run.{run_end, run_broken}
use Rattle.molecule_reads.proofs.Walk.{begin, one_more, all_added}
use Rattle.molecule_reads.proofs.count_shown_run.Goals as goal

pub loop-read-init : goal.loop-read-init
loop-read-init c = begin

pub loop-read-preserved : goal.loop-read-preserved
loop-read-preserved c = one_more c.loop-read.invariant {read = c.in-Ok-Some.read} (search rules) c.add_shown_read.ensures

pub returns-in-Ok-None-clause-errors : goal.returns-in-Ok-None-clause-errors
returns-in-Ok-None-clause-errors c = all_added c.loop-read.invariant (run_end c.args.run.now c.loop-read.at (search rules))

pub returns-in-Err-clause-errors : goal.returns-in-Err-clause-errors
returns-in-Err-clause-errors c = all_added c.loop-read.invariant (run_broken c.args.run.now c.loop-read.at {refusal = c.in-Err.refusal} (search rules)).0
