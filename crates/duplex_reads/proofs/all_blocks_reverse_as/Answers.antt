-- `duplex_reads::all_blocks_reverse_as` meets its contract: block by block, and at the end for the last block. Assumes nothing.
use mathlib.Core.Path.{sym, ◌∙◌}
use native.Mathlib.Omega.{arith}
use Prim.Native.Nat.{◌*◌}
use Rattle.std.proofs.Common.{rules}
use Rattle.duplex_reads.proofs.Blocks.{next, stop, end}
use Rattle.duplex_reads.proofs.all_blocks_reverse_as.Goals as goal

pub returns-then-not-all_reverse_as : goal.returns-then-not-all_reverse_as
returns-then-not-all_reverse_as c = stop c.args.reverse _ _ c.args.reads.now c.loop-block.invariant c.all_reverse_as-in-loop-block.ensures (search rules)

pub loop-block-preserved : goal.loop-block-preserved
loop-block-preserved c = next c.args.reverse _ _ c.args.reads.now c.loop-block.invariant c.all_reverse_as-in-loop-block.ensures (search rules) (omega arith)

pub returns : goal.returns
returns c = c.all_reverse_as-2.ensures ∙ sym (end c.args.reverse (16 * c.loop-block.block) _ _ c.args.reads.now (omega arith) (omega arith) c.loop-block.invariant)
