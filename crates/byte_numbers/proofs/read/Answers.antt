-- `byte_numbers::read` meets its contract: its loop fills the front of the output with the numbers. Assumes nothing.
use mathlib.Core.Path.{◌≡◌}
use Prim.Native.Nat.{◌+◌, ◌-◌, ◌*◌}
use native.Mathlib.Omega.{arith}
use lib.ListN.{drop}
use lib.Seq.{take-take}
use Rattle.byte_numbers.specs.Groups.{group}
use Rattle.byte_numbers.proofs.Groups.{begin_read, next_read_lem}
use Rattle.byte_numbers.proofs.read.Goals as goal

pub loop-i-init : goal.loop-i-init
loop-i-init g c =
    let N = g.N.LittleEndian in
    begin_read N.SIZE N.of_bytes _ (rw c.SIZE-size.ensures at c.min-n.ensures)

pub loop-i-preserved : goal.loop-i-preserved
unfolding group
loop-i-preserved g c =
    let N = g.N.LittleEndian in
    let size = c.SIZE-size.result in
    let whole : size * c.loop-i.i + size - size * c.loop-i.i ≡ size = omega arith in
    next_read_lem N.SIZE N.of_bytes _ c.loop-i.invariant c.loop-i-test.true N.nought (rw (whole, c.SIZE-size.ensures, take-take N.SIZE N.SIZE (drop (N.SIZE * c.loop-i.i) c.args.bytes.now) (omega arith)) at c.from_bytes.ensures)
