-- `molecule_evidence::read_counts` meets its contract: its loop fills the front of the output with the counts. Assumes nothing.
use mathlib.Core.Path.{◌≡◌, ◌∙◌}
use Prim.Native.Nat.{◌+◌, ◌-◌, ◌*◌}
use native.Mathlib.Omega.{arith}
use lib.ListN.{drop}
use lib.Seq.{take-take}
use Rattle.byte_numbers.proofs.Groups.{begin_read, read_within, next_read_lem}
use Rattle.molecule_evidence.specs.Evidence.{count_in}
use Rattle.molecule_evidence.proofs.Evidence.{count_at}
use Rattle.molecule_evidence.proofs.read_counts.Goals as goal

pub loop-i-init : goal.loop-i-init
loop-i-init c = begin_read 9 (count_in _) _ c.min-n.ensures

pub loop-i-preserved : goal.loop-i-preserved
loop-i-preserved c =
    let so_far = c.loop-i.invariant in
    let more = c.loop-i-test.true in
    let at = 9 * c.loop-i.i + c.args.offset in
    let whole : at + 4 - at ≡ 4 = omega arith in
    next_read_lem 9 (count_in _) _ so_far more 0 (rw (whole, take-take 4 4 (drop at c.args.bytes.now) (omega arith)) at c.from_bytes.ensures ∙ count_at _ _ (read_within 9 (count_in _) _ so_far more) _ c.requires)
