-- `duplex_depths::write_combined` meets its contract: what its loop, the copy and the zeros wrote stands one behind the other. Assumes nothing.
use mathlib.Core.Path.{ap, sym, ◌∙◌}
use mathlib.Core.List.{List}
use Prim.Native.Nat.{ℕ, ◌+◌, ◌-◌}
use native.Mathlib.Omega.{arith}
use lib.ListN.{length, get_or}
use Rattle.duplex_depths.specs.Depths.{combined_depths}
use Rattle.duplex_depths.proofs.Depths.{neither, longer_alone, longer_length, copied, filled, at_place, all_put}
use Rattle.duplex_depths.proofs.write_combined.Goals as goal

pub returns : goal.returns
unfolding combined_depths
returns c =
    let a = c.args.r in
    let n = a.positions in
    let before = c.args.out.now in
    let both = c.min-both.result in
    let end = c.min-end.result in
    let size = ap length c.longer-alone.ensures.is ∙ longer_length a.ab.now a.ba.now in
    let looped = at_place n a.ab.now a.ba.now before {j = both} (omega arith) c.loop-i.invariant.so_far in
    let alone = copied n a.ab.now a.ba.now before c.requires both (end - both) (omega (arith, size)) looped c.longer-alone.result.now (omega (arith, size))
    (λ j h. ap (λ (xs : List ℕ). get_or xs (both + j) 0) c.longer-alone.ensures.is ∙ longer_alone n a.ab.now a.ba.now {i = both + j} (omega (arith, h, size)) (omega arith) (rw (sym c.longer-alone.ensures.is) (c.longer-alone.ensures.fits (both + j)))) c.copy.ensures in
    all_put n a.ab.now a.ba.now before (omega arith)
    (filled n a.ab.now a.ba.now before c.requires end (n - end) (omega arith) (at_place n a.ab.now a.ba.now before {j = end} (omega (arith, size)) alone)
    (λ j h. neither a.ab.now a.ba.now {i = end + j} (omega (arith, h, size)) (omega (arith, h, size))) (c.fill.ensures.after (λ y h. h)))
