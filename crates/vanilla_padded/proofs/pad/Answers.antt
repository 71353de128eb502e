-- `vanilla_padded::pad` meets its contract: a fill and a copy, by side. Assumes nothing.
use Rattle.vanilla_padded.proofs.Padding.{padded_left, padded_right}
use Rattle.vanilla_padded.proofs.pad.Goals as goal

pub returns-then-left : goal.returns-then-left
returns-then-left g c =
    let pre = c.requires in
    rw c.if-left.true (padded_left _ _ _ _ pre.fits.0 pre.fits.1 (c.fill.ensures.after pre.clones) c.copy.ensures)

pub returns : goal.returns
returns g c =
    let pre = c.requires in
    rw c.if-left.false (padded_right _ _ _ _ pre.fits.0 pre.fits.1 c.copy-2.ensures (c.fill-2.ensures.after pre.clones))
