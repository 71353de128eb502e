-- `methylation_evidence::copy_marks` meets its contract: its loop fills the front of the output with the marks, 0 or 1. Assumes nothing.
use mathlib.Core.Path.{refl, sym, ap, ◌∙◌}
use native.Mathlib.Omega.{arith}
use lib.ListN.{length, length-map, get_or-map, length-take}
use Rattle.std.specs.List.{take-map}
use Rattle.lists.proofs.Output.{put_equal, begin, next, done}
use Rattle.vanilla_caller.specs.Strand.{mark}
use Rattle.methylation_evidence.proofs.copy_marks.Goals as goal

pub loop-i-init : goal.loop-i-init
loop-i-init c = begin (length-map _ mark) (omega (arith, ap length c.front-mark-items.ensures, length-take (length c.args.out.now) c.args.marks.now))

pub loop-i-preserved : goal.loop-i-preserved
loop-i-preserved c = next 0 _ c.loop-i.invariant c.loop-i-test.true (c.mark_of.ensures ∙ sym (get_or-map mark c.front-mark-items.result.now c.loop-i.i 0))

pub returns : goal.returns
returns c = done c.loop-i.invariant c.loop-i-test.false ∙ put_equal _ (rw (c.front-mark-items.ensures, take-map) refl)
