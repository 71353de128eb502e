-- `rust_consensus::gedrashiw_combine_strands_annotated` meets its contract: a number that stands for nothing, a ceiling that is outside and
-- a strand that is too long or over the limit are turned down, and evidence that stands beside no annotation is not looked at. Assumes
-- nothing.
use mathlib.Core.Path.{◌≡◌, refl, sym, ◌∙◌}
use Rattle.std.proofs.Common.{Some, rules}
use Rattle.methylation.specs.Choices.{annotation_of}
use Rattle.settings.specs.Settings.{given_of}
use Rattle.settings.proofs.Tested.{passed, turned_down, told_broken, told_outside, told_passed}
use Rattle.replies.proofs.Replied.{refused_by, not_refused}
use Rattle.vanilla_caller.specs.Strand.{arrays, arrays_in, arrays_seen, lengths}
use Rattle.vanilla_caller.proofs.Strand.{lent_as}
use Rattle.duplex_kind.specs.Limit.{length_faults}
use Rattle.duplex_kind.proofs.Limit.{lengths_passed, lengths_refused}
use Rattle.duplex_strands.proofs.Absent.{not_looked_at}
use Rattle.rust_consensus.proofs.Annotations.{right, wrong}
use Rattle.rust_consensus.proofs.Lengths.{Lent, limit_tested}
use Rattle.rust_consensus.proofs.gedrashiw_combine_strands_annotated.Goals as goal

pub returns : goal.returns
returns c =
    let g = c.args in
    let lab = g.strands.settings in
    let m = c.in-Ok.annotations.0 in
    let n = c.in-Ok.annotations.1 in
    let x = arrays g.a_bases.now g.a_quals.now g.a_depths.now g.a_errors.now g.a_marks.now g.a_unconverted.now g.a_converted.now in
    let y = arrays g.b_bases.now g.b_quals.now g.b_depths.now g.b_errors.now g.b_marks.now g.b_unconverted.now g.b_converted.now in
    let lent_a : arrays_in c.annotated-a.result ≡ arrays_seen m x = lent_as m c.annotated-a.result c.new.result c.new-a_evidence.result c.annotated-a.ensures.arrays c.new.ensures.arrays c.new-a_evidence.ensures in
    let lent_b : arrays_in c.annotated-b.result ≡ arrays_seen n y = lent_as n c.annotated-b.result c.new-2.result c.new-b_evidence.result c.annotated-b.ensures.arrays c.new-2.ensures.arrays c.new-b_evidence.ensures in
    let numbers = right g.strands.a_annotation g.strands.b_annotation (sym c.annotations_in.ensures ∙ c.in-Ok.is) in
    let (none, same) = passed lab c.tested.result c.tested.ensures c.in-Ok-tested.settings c.in-Ok-tested.is in
    let u = Some (lengths (annotation_of g.strands.a_annotation) x) in
    let v = Some (lengths (annotation_of g.strands.b_annotation) y) in
    let rest = length_faults lab.limit u v in
    let a : Lent c.annotated-a.result m x = record { annotation_is = c.annotated-a.ensures.annotation; arrays_are = lent_a } in
    let b : Lent c.annotated-b.result n y = record { annotation_is = c.annotated-b.ensures.annotation; arrays_are = lent_b } in
    let tested = rw numbers.1 at (limit_tested a b c.lengths.ensures c.lengths-2.ensures refl c.limit_refusal.ensures) in
    let within = lengths_passed lab.limit u v tested c.in_default.is in
    let made = not_looked_at (given_of c.in-Ok-tested.settings) m x n y _ _ _ _ (rw (c.annotated-a.ensures.annotation, c.annotated-b.ensures.annotation, lent_a, lent_b) at c.combine_strands_annotated.ensures.combined) in
    let combined = rw (same, numbers.1) at made in
    not_refused c.combine_strands_annotated.result (told_passed lab rest refl numbers.0 none ∙ within) c.from-2.ensures (search (rules, combined))

pub returns-in-Err : goal.returns-in-Err
returns-in-Err c =
    let g = c.args in
    let lab = g.strands.settings in
    let x = arrays g.a_bases.now g.a_quals.now g.a_depths.now g.a_errors.now g.a_marks.now g.a_unconverted.now g.a_converted.now in
    let y = arrays g.b_bases.now g.b_quals.now g.b_depths.now g.b_errors.now g.b_marks.now g.b_unconverted.now g.b_converted.now in
    let u = Some (lengths (annotation_of g.strands.a_annotation) x) in
    let v = Some (lengths (annotation_of g.strands.b_annotation) y) in
    let rest = length_faults lab.limit u v in
    let (met, broken) = wrong g.strands.a_annotation g.strands.b_annotation (sym c.annotations_in.ensures ∙ c.in-Err.is) in
    refused_by c.in-Err.refusal (told_broken lab rest refl met ∙ rw broken) c.from.ensures

pub returns-in-Err-tested : goal.returns-in-Err-tested
returns-in-Err-tested c =
    let g = c.args in
    let lab = g.strands.settings in
    let x = arrays g.a_bases.now g.a_quals.now g.a_depths.now g.a_errors.now g.a_marks.now g.a_unconverted.now g.a_converted.now in
    let y = arrays g.b_bases.now g.b_quals.now g.b_depths.now g.b_errors.now g.b_marks.now g.b_unconverted.now g.b_converted.now in
    let u = Some (lengths (annotation_of g.strands.a_annotation) x) in
    let v = Some (lengths (annotation_of g.strands.b_annotation) y) in
    let rest = length_faults lab.limit u v in
    let numbers = right g.strands.a_annotation g.strands.b_annotation (sym c.annotations_in.ensures ∙ c.in-Ok.is) in
    let outside = turned_down lab c.tested.result c.tested.ensures c.in-Err-tested.is in
    refused_by c.in-Err-tested.refusal (told_outside lab rest refl numbers.0 outside) c.from-in-Err-tested.ensures

pub returns-in-Err-limit_refusal : goal.returns-in-Err-limit_refusal
returns-in-Err-limit_refusal c =
    let g = c.args in
    let lab = g.strands.settings in
    let m = c.in-Ok.annotations.0 in
    let n = c.in-Ok.annotations.1 in
    let x = arrays g.a_bases.now g.a_quals.now g.a_depths.now g.a_errors.now g.a_marks.now g.a_unconverted.now g.a_converted.now in
    let y = arrays g.b_bases.now g.b_quals.now g.b_depths.now g.b_errors.now g.b_marks.now g.b_unconverted.now g.b_converted.now in
    let lent_a : arrays_in c.annotated-a.result ≡ arrays_seen m x = lent_as m c.annotated-a.result c.new.result c.new-a_evidence.result c.annotated-a.ensures.arrays c.new.ensures.arrays c.new-a_evidence.ensures in
    let lent_b : arrays_in c.annotated-b.result ≡ arrays_seen n y = lent_as n c.annotated-b.result c.new-2.result c.new-b_evidence.result c.annotated-b.ensures.arrays c.new-2.ensures.arrays c.new-b_evidence.ensures in
    let numbers = right g.strands.a_annotation g.strands.b_annotation (sym c.annotations_in.ensures ∙ c.in-Ok.is) in
    let (none, same) = passed lab c.tested.result c.tested.ensures c.in-Ok-tested.settings c.in-Ok-tested.is in
    let u = Some (lengths (annotation_of g.strands.a_annotation) x) in
    let v = Some (lengths (annotation_of g.strands.b_annotation) y) in
    let rest = length_faults lab.limit u v in
    let a : Lent c.annotated-a.result m x = record { annotation_is = c.annotated-a.ensures.annotation; arrays_are = lent_a } in
    let b : Lent c.annotated-b.result n y = record { annotation_is = c.annotated-b.ensures.annotation; arrays_are = lent_b } in
    let tested = rw numbers.1 at (limit_tested a b c.lengths.ensures c.lengths-2.ensures refl c.limit_refusal.ensures) in
    let over = lengths_refused lab.limit u v tested c.in-Err-limit_refusal.is in
    refused_by c.in-Err-limit_refusal.refusal (told_passed lab rest refl numbers.0 none ∙ over) c.from-in-Err-limit_refusal.ensures
