-- `duplex_kind::is_covered` meets its contract: block by block, and at the end for the last block. Assumes nothing.
use mathlib.Core.Path.{sym, ◌∙◌}
use native.Mathlib.Omega.{arith}
use Prim.Native.Nat.{◌*◌}
use Rattle.std.proofs.Common.{rules}
use Rattle.duplex_kind.proofs.Blocks.{by_fold, next, stop, end}
use Rattle.duplex_kind.proofs.is_covered.Goals as goal

pub returns-then-depths-lt-BLOCK : goal.returns-then-depths-lt-BLOCK
returns-then-depths-lt-BLOCK c = c.is_block_covered.ensures ∙ by_fold c.args.depths.now

pub returns-then-is_block_covered : goal.returns-then-is_block_covered
returns-then-is_block_covered c = stop _ _ c.args.depths.now c.loop-block.invariant c.is_block_covered-in-loop-block.ensures (search rules)

pub loop-block-preserved : goal.loop-block-preserved
loop-block-preserved c = next _ _ c.args.depths.now c.loop-block.invariant c.is_block_covered-in-loop-block.ensures (search rules) (omega arith)

pub returns : goal.returns
returns c = c.is_block_covered-2.ensures ∙ sym (end (32 * c.loop-block.block) _ _ c.args.depths.now (omega arith) (omega arith) c.loop-block.invariant)
