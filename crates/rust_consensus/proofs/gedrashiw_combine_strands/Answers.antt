-- `rust_consensus::gedrashiw_combine_strands` meets its contract: a ceiling that is outside is turned down, then a strand that is too long or
-- over the limit. Assumes nothing.
use mathlib.Core.Path.{refl, ap, ◌∙◌}
use mathlib.Core.Bool.{false}
use mathlib.Core.List.{[]}
use Rattle.std.proofs.Common.{Some, None, rules}
use Rattle.settings.proofs.Tested.{passed, turned_down, told_outside, told_passed}
use Rattle.settings.specs.declared.GivenSettings.{GivenSettings}
use Rattle.replies.proofs.Replied.{refused_by, not_refused}
use Rattle.vanilla_caller.specs.Strand.{arrays, lengths}
use Rattle.duplex_kind.specs.Limit.{length_faults}
use Rattle.duplex_kind.proofs.Limit.{lengths_passed, lengths_refused}
use Rattle.rust_consensus.proofs.Lengths.{Lent, limit_tested}
use Rattle.rust_consensus.proofs.gedrashiw_combine_strands.Goals as goal

pub returns : goal.returns
returns c =
    let g = c.args in
    let lab = g.settings in
    let x = arrays g.a_bases.now g.a_quals.now g.a_depths.now g.a_errors.now [] [] [] in
    let y = arrays g.b_bases.now g.b_quals.now g.b_depths.now g.b_errors.now [] [] [] in
    let (none, same) = passed lab c.tested.result c.tested.ensures c.in-Ok.settings c.in-Ok.is in
    let a : Lent c.new-a.result None x = record { annotation_is = c.new-a.ensures.annotation; arrays_are = c.new-a.ensures.arrays } in
    let b : Lent c.new-b.result None y = record { annotation_is = c.new-b.ensures.annotation; arrays_are = c.new-b.ensures.arrays } in
    let tested = limit_tested a b c.lengths.ensures c.lengths-2.ensures (ap (λ (s : GivenSettings). s.limit) same) c.limit_refusal.ensures in
    let u = Some (lengths None x) in
    let v = Some (lengths None y) in
    let within = lengths_passed lab.limit u v tested c.in_default.is in
    let combined = rw (c.new-a.ensures.arrays, c.new-b.ensures.arrays) at c.combine_strands.ensures.combined in
    not_refused c.combine_strands.result (told_passed lab (length_faults lab.limit u v) refl {wrong = false} refl none ∙ within) c.from-2.ensures (rw (← same) (search (rules, combined)))

pub returns-in-Err : goal.returns-in-Err
returns-in-Err c =
    let g = c.args in
    let lab = g.settings in
    let u = Some (lengths None (arrays g.a_bases.now g.a_quals.now g.a_depths.now g.a_errors.now [] [] [])) in
    let v = Some (lengths None (arrays g.b_bases.now g.b_quals.now g.b_depths.now g.b_errors.now [] [] [])) in
    let outside = turned_down lab c.tested.result c.tested.ensures c.in-Err.is in
    refused_by c.in-Err.refusal (told_outside lab (length_faults lab.limit u v) refl {wrong = false} refl outside) c.from.ensures

pub returns-in-Err-limit_refusal : goal.returns-in-Err-limit_refusal
returns-in-Err-limit_refusal c =
    let g = c.args in
    let lab = g.settings in
    let x = arrays g.a_bases.now g.a_quals.now g.a_depths.now g.a_errors.now [] [] [] in
    let y = arrays g.b_bases.now g.b_quals.now g.b_depths.now g.b_errors.now [] [] [] in
    let (none, same) = passed lab c.tested.result c.tested.ensures c.in-Ok.settings c.in-Ok.is in
    let a : Lent c.new-a.result None x = record { annotation_is = c.new-a.ensures.annotation; arrays_are = c.new-a.ensures.arrays } in
    let b : Lent c.new-b.result None y = record { annotation_is = c.new-b.ensures.annotation; arrays_are = c.new-b.ensures.arrays } in
    let tested = limit_tested a b c.lengths.ensures c.lengths-2.ensures (ap (λ (s : GivenSettings). s.limit) same) c.limit_refusal.ensures in
    let u = Some (lengths None x) in
    let v = Some (lengths None y) in
    let over = lengths_refused lab.limit u v tested c.in-Err-limit_refusal.is in
    refused_by c.in-Err-limit_refusal.refusal (told_passed lab (length_faults lab.limit u v) refl {wrong = false} refl none ∙ over) c.from-in-Err-limit_refusal.ensures
