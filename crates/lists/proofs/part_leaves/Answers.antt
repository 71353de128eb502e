-- `lists::part_leaves` meets its contract: past the offset by the rest of the buffer. Assumes nothing.
use mathlib.Core.Path.{sym}
use Prim.Native.Nat.{◌+◌}
use native.Mathlib.Omega.{arith}
use borrow.Author.Tests.{lt-ltb}
use Rattle.lists.specs.Part.{leaves}
use Rattle.lists.proofs.Parts.{leaves_by_rest}
use Rattle.lists.proofs.part_leaves.Goals as goal

pub returns-then-size-offset : goal.returns-then-size-offset
unfolding leaves
returns-then-size-offset c =
    let a = c.args in
    sym (lt-ltb a.size (a.offset + a.count) (omega arith))

pub returns : goal.returns
returns c = leaves_by_rest _ _ _ c.if-size-offset.false
