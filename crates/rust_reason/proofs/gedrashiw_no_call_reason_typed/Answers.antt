-- `rust_reason::gedrashiw_no_call_reason_typed` meets its contract: what is said of the strands that the numbers tell of. Assumes nothing.
use mathlib.Core.Path.{ap, ◌∙◌}
use Rattle.vanilla_caller.specs.Strand.{arrays}
use Rattle.duplex_reply.proofs.Strand.{told_as}
use Rattle.rust_reason.specs.Reply.{reason_for}
use Rattle.rust_reason.proofs.Entry.{told}
use Rattle.rust_reason.proofs.gedrashiw_no_call_reason_typed.Goals as goal

pub returns : goal.returns
returns c =
    let a = c.args in
    let x = arrays a.a_bases.now a.a_quals.now a.a_depths.now a.a_errors.now a.a_marks.now a.a_unconverted.now a.a_converted.now in
    let y = arrays a.b_bases.now a.b_quals.now a.b_depths.now a.b_errors.now a.b_marks.now a.b_unconverted.now a.b_converted.now in
    c.from.ensures
    ∙ ap reason_for
    (told a.a_present a.a_annotation a.b_present a.b_annotation x y a.position
    (told_as a.a_present a.a_annotation c.new-a.result c.new-a_evidence.result c.strand_in-a.ensures c.new-a.ensures.arrays c.new-a_evidence.ensures)
    (told_as a.b_present a.b_annotation c.new-b.result c.new-b_evidence.result c.strand_in-b.ensures c.new-b.ensures.arrays c.new-b_evidence.ensures)
    c.reason_between.ensures)
