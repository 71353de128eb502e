-- `lists::part` meets its contract, by the outcome of its test. Assumes nothing.
use mathlib.Core.Path.{sym, ◌∙◌}
use native.Mathlib.Omega.{arith}
use Rattle.lists.proofs.Parts.{stays, part_outside, part_within}
use Rattle.lists.proofs.part.Goals as goal

pub returns-then-part_leaves : goal.returns-then-part_leaves
returns-then-part_leaves g c = part_outside _ _ _ (sym c.part_leaves.ensures ∙ c.if-part_leaves.true)

pub overflow_add-result : goal.overflow_add-result
overflow_add-result g c = record { fits = omega (arith, stays _ _ _ (sym c.part_leaves.ensures ∙ c.if-part_leaves.false)) }

pub offset_bounds-xs-offset : goal.offset_bounds-xs-offset
offset_bounds-xs-offset g c = omega (arith, stays _ _ _ (sym c.part_leaves.ensures ∙ c.if-part_leaves.false))

pub slice_bounds-result-end-2 : goal.slice_bounds-result-end-2
slice_bounds-result-end-2 g c = stays _ _ _ (sym c.part_leaves.ensures ∙ c.if-part_leaves.false)

pub returns : goal.returns
returns g c = part_within _ _ _ (sym c.part_leaves.ensures ∙ c.if-part_leaves.false)
