-- `duplex_arrays::fill_positions` meets its contract: its loop fills both outputs with what the closure answers. Assumes nothing.
use mathlib.Core.Path.{ap}
use Rattle.lists.proofs.Told.{next_table}
use Rattle.duplex_position.specs.declared.Position.{Position}
use Rattle.duplex_arrays.proofs.fill_positions.Goals as goal

pub loop-i-preserved : goal.loop-i-preserved
loop-i-preserved g c told t =
    let (bases, quals) = c.loop-i.invariant told t in
    let here = t c.loop-i.i c.loop-i-test.true _ c.at-p.ensures in
    (next_table _ _ bases c.loop-i-test.true (ap (λ (p : Position). p.base) here), next_table _ _ quals c.loop-i-test.true (ap (λ (p : Position). p.qual) here))
