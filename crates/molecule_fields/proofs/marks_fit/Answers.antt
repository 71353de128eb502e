-- `molecule_fields::marks_fit` meets its contract: it tests the mark of each place. Assumes nothing.
use borrow.Author.Rules.{rules}
use borrow.Author.Tests.{tests}
use mathlib.Core.Path.{◌∙◌}
use Prim.Native.Nat.{◌+◌, ◌*◌, ◌/◌}
use native.Mathlib.Omega.{arith}
use lib.ListN.{length, get_or}
use Rattle.std.proofs.lemmas.Iterator.{YieldsList-from_range}
use Rattle.std.proofs.lemmas.Iterator.Search.{all_from_yields_List}
use Rattle.molecule_fields.specs.Widths.{is_bit}
use Rattle.molecule_fields.proofs.Marks.{bits_by_place}
use Rattle.molecule_fields.proofs.marks_fit.Goals as goal

pub returns : goal.returns
returns c =
    let value = c.args.value.now in
    let n = length value / 9 in
    all_from_yields_List (λ i. is_bit (get_or value (9 * i + 1) 0)) _ _ c.all.result c.all.ensures.ran (YieldsList-from_range 0 n n (cc) (omega arith)) (λ i b q k. search (rules, tests)) ∙ bits_by_place value
