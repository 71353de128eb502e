-- `duplex_texts::write_groups` meets its contract: one is copied, and the other behind it. Assumes nothing.
use mathlib.Core.Path.{◌≡◌}
use mathlib.Core.Bool.{cond}
use Rattle.duplex_texts.proofs.Texts.{put_grouped}
use Rattle.duplex_texts.proofs.write_groups.Goals as goal
use Rattle.duplex_texts.proofs.write_groups.Goals.{then-second_first, else-second_first, then-second_first-2, else-second_first-2}

pub returns : goal.returns
returns c =
    let a = c.args in
    let first : c.if-second_first.first.now ≡ cond a.second_first a.b.now a.a.now = elim c.if-second_first.branch [
      | then-second_first w ↦ rw (w.first-is, w.if-second_first.true)
      | else-second_first w ↦ rw (w.first-is, w.if-second_first.false)
    ] in
    let second : c.if-second_first-2.second.now ≡ cond a.second_first a.a.now a.b.now = elim c.if-second_first-2.branch [
      | then-second_first-2 w ↦ rw (w.second-is, w.if-second_first-2.true)
      | else-second_first-2 w ↦ rw (w.second-is, w.if-second_first-2.false)
    ] in
    put_grouped a.second_first a.a.now a.b.now a.out.now c.requires first second c.copy.ensures c.copy-2.ensures
