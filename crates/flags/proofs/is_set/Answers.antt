-- `flags::is_set` meets its contract: by the digit's quotient, and 0 has none. Assumes nothing.
use native.Mathlib.Nat.{div-zero}
use borrow.Author.Rules.{rules}
use Rattle.flags.specs.Flags.{is_set}
use Rattle.flags.proofs.is_set.Goals as goal

pub returns-then-bit-eq0 : goal.returns-then-bit-eq0
unfolding is_set
returns-then-bit-eq0 c = rw (c.if-bit-eq0.true, div-zero)

pub returns : goal.returns
unfolding is_set
returns c = search rules
