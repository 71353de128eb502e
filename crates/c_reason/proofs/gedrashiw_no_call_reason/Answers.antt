-- `c_reason::gedrashiw_no_call_reason` meets its contract: what is said of the strands that the bytes stand for, as far as they are
-- looked at. Assumes nothing.
use mathlib.Core.Path.{ap, ◌∙◌}
use Rattle.replies.specs.Choices.{yes}
use Rattle.molecule_strand.specs.Strand.{strand_bytes, encoded_annotation}
use Rattle.rust_reason.specs.Reply.{reason_for}
use Rattle.c_interface.specs.Entry.{told}
use Rattle.c_reason.proofs.Bytes.{entry_told}
use Rattle.c_reason.proofs.gedrashiw_no_call_reason.Goals as goal

pub returns : goal.returns
returns c =
    let g = c.args in
    c.from.ensures
    ∙ ap reason_for
    (entry_told _ _
    (strand_bytes (yes g.a_present) (encoded_annotation (told g.a_present g.a_annotated) g.a_pattern) g.a_bases.now g.a_quals.now g.a_depths.now g.a_errors.now g.a_evidence.now)
    (strand_bytes (yes g.b_present) (encoded_annotation (told g.b_present g.b_annotated) g.b_pattern) g.b_bases.now g.b_quals.now g.b_depths.now g.b_errors.now g.b_evidence.now)
    g.position
    (rw (c.new-a.ensures.bases, c.new-a.ensures.quals, c.new-a.ensures.depths, c.new-a.ensures.errors) at c.strand_told-a.ensures)
    (rw (c.new-b.ensures.bases, c.new-b.ensures.quals, c.new-b.ensures.depths, c.new-b.ensures.errors) at c.strand_told-b.ensures)
    c.reason_by.ensures)
