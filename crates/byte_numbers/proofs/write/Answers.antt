-- `byte_numbers::write` meets its contract: its loop writes the bytes of one number after another. Assumes nothing.
use mathlib.Core.Path.{◌≡◌, refl, ap, ◌∙◌}
use Prim.Native.Nat.{◌+◌, ◌-◌, ◌*◌}
use native.Mathlib.Omega.{arith}
use Rattle.byte_numbers.specs.Bytes.{all_bytes}
use lib.ListN.{length, get_or}
use lib.Seq.{sets}
use Rattle.std.proofs.lemmas.List.{get_or_read_under}
use Rattle.byte_numbers.proofs.Groups.{begin_write, next_write, done_write, write_room, part_stored}
use Rattle.byte_numbers.proofs.write.Goals as goal

pub loop-i-init : goal.loop-i-init
loop-i-init g c =
    let N = g.N.LittleEndian in
    begin_write N.SIZE (λ x k. N.to_bytes x) N.nought _ _ (λ x k. g.met.N.LittleEndian.fixed x) (rw c.SIZE-size.ensures at c.min-n.ensures)

pub loop-i-preserved : goal.loop-i-preserved
loop-i-preserved g c =
    let N = g.N.LittleEndian in
    let i = c.loop-i.i in
    let size = c.SIZE-size.result in
    let more = c.loop-i-test.true in
    let whole : size * i + size - size * i ≡ size = omega arith in
    let here : c.index-numbers-i.result ≡ get_or c.args.numbers.now i N.nought = get_or_read_under c.args.numbers.now i (length c.args.numbers.now) _ N.nought c.index-numbers-i.is (omega arith) refl in
    let stored = part_stored c.loop-i.out (N.to_bytes c.index-numbers-i.result) (N.SIZE * i) N.SIZE (g.met.N.LittleEndian.fixed c.index-numbers-i.result) (write_room c.loop-i.invariant more) (rw (whole, c.SIZE-size.ensures) at c.write_bytes.ensures) in
    next_write c.loop-i.invariant more (rw (whole, c.SIZE-size.ensures) (stored ∙ ap (λ x. sets c.loop-i.out (N.SIZE * i) (N.to_bytes x)) here))

pub returns : goal.returns
unfolding all_bytes
returns g c = done_write c.loop-i.invariant c.loop-i-test.false
