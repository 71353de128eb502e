-- `molecule_encoding::OrderedFields::find` meets its contract: what is left of the search at each field is the whole search. Assumes
-- nothing.
use mathlib.Core.Path.{◌≡◌, sym, ap, ◌∙◌}
use Rattle.std.proofs.Common.{None, Ok}
use Rattle.fields.proofs.Fields.{rest_shorter}
use Rattle.fields.proofs.Walk.{begun, ended, broken}
use Rattle.molecule_encoding.proofs.Values.{found_end, found_cut, found_here, found_past, found_next}
use Rattle.molecule_encoding.proofs.ordered.OrderedFields.find.Goals as goal
use Rattle.molecule_encoding.proofs.ordered.OrderedFields.find.Goals.{in_default, in_default-2}

pub returns-then-f-tag : goal.returns-then-f-tag
returns-then-f-tag c =
    let here = begun _ (c.in-Ok-Some.is ∙ ap Ok c.in-Ok-Some.field-0-is) c.next_field.ensures in
    sym (found_here c.loop-f.invariant here c.if-f-tag.true)

pub returns-then-tag-f : goal.returns-then-tag-f
returns-then-tag-f c =
    let here = begun _ (c.in-Ok-Some.is ∙ ap Ok c.in-Ok-Some.field-0-is) c.next_field.ensures in
    sym (found_past c.loop-f.invariant here c.if-tag-f.true)

pub loop-f-smaller : goal.loop-f-smaller
loop-f-smaller c =
    rest_shorter c.loop-f.rest.now (begun _ (c.in-Ok-Some.is ∙ ap Ok c.in-Ok-Some.field-0-is) c.next_field.ensures)

pub loop-f-preserved : goal.loop-f-preserved
loop-f-preserved c =
    let here = begun _ (c.in-Ok-Some.is ∙ ap Ok c.in-Ok-Some.field-0-is) c.next_field.ensures in
    found_next c.loop-f.invariant here c.if-f-tag.false

pub returns : goal.returns
returns c =
    elim c.match-next_field.branch [
      | in_default w ↦
          let none : w.in_default.field-0 ≡ None = cc in
          sym (found_end c.loop-f.invariant (ended _ (w.in_default.is ∙ ap Ok none) c.next_field.ensures))
      | in_default-2 w ↦
          sym (found_cut c.loop-f.invariant (broken _ w.in_default.is c.next_field.ensures).0)
    ]
