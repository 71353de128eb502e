-- `mm_ml::EvidentBases::tag_lengths` meets its contract: nothing in mode Disabled or where nothing is called, else the group's text. Assumes nothing.
use mathlib.Core.Path.{sym, ◌∙◌}
use native.Mathlib.Omega.{arith}
use Rattle.mm_ml.specs.Tags.{annotated_in}
use Rattle.mm_ml.proofs.Group.{listed_most, untold_off, untold_none, told_some}
use Rattle.mm_ml.proofs.EvidentBases.tag_lengths.Goals as goal

pub returns-then-not-is_enabled : goal.returns-then-not-is_enabled
returns-then-not-is_enabled c = untold_off _ _ (sym c.is_enabled.ensures ∙ c.if-not-is_enabled.true)

pub returns-then-counts-eq0 : goal.returns-then-counts-eq0
returns-then-counts-eq0 c =
    untold_none _ _ (sym c.is_enabled.ensures ∙ c.if-not-is_enabled.false) (sym c.listed_length-counts.ensures.count ∙ c.if-counts-eq0.true)

pub overflow_add-result : goal.overflow_add-result
overflow_add-result c =
    record { fits = omega (arith, c.listed_length-counts.ensures.text, listed_most (annotated_in c.args.self.strand) c.args.self.evident.few, c.args.self.evident.few) }

pub returns : goal.returns
returns c =
    told_some _ _ (sym c.is_enabled.ensures ∙ c.if-not-is_enabled.false) c.if-counts-eq0.false c.listed_length-counts.ensures.text c.listed_length-counts.ensures.count
