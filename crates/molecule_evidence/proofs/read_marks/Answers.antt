-- `molecule_evidence::read_marks` meets its contract: its loop fills the front of the output with the marks. Assumes nothing.
use Rattle.byte_numbers.proofs.Groups.{begin_read, read_within, next_read_lem}
use Rattle.molecule_evidence.specs.Evidence.{mark_in}
use Rattle.molecule_evidence.proofs.Evidence.{mark_at}
use Rattle.molecule_evidence.proofs.read_marks.Goals as goal

pub loop-i-init : goal.loop-i-init
loop-i-init c = begin_read 9 mark_in _ c.min-n.ensures

pub loop-i-preserved : goal.loop-i-preserved
loop-i-preserved c =
    let so_far = c.loop-i.invariant in
    let more = c.loop-i-test.true in
    next_read_lem 9 mark_in _ so_far more 0 (mark_at _ _ (read_within 9 mark_in _ so_far more))
