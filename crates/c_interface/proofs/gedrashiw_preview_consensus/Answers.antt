-- `c_interface::gedrashiw_preview_consensus` meets its contract: refused for a pattern, or the preview of the molecule as C gives it.
-- Assumes nothing.
use mathlib.Core.Path.{sym, ap, ◌∙◌}
use Rattle.std.proofs.Common.{rules}
use Rattle.replies.specs.Choices.{yes}
use Rattle.molecule_strand.specs.Strand.{strand_bytes, encoded_annotation}
use Rattle.c_interface.specs.Entry.{told, molecule_by, previewed}
use Rattle.c_interface.proofs.Entry.{refused_entry, made_entry}
use Rattle.c_interface.proofs.gedrashiw_preview_consensus.Goals as goal

pub returns-in-Ok : goal.returns-in-Ok
returns-in-Ok c =
    let x = c.args in
    let m = x.molecule in
    made_entry (previewed m)
    (strand_bytes (yes m.a.present) (encoded_annotation (told m.a.present m.a.annotated) m.a.pattern) x.a_bases.now x.a_quals.now x.a_depths.now x.a_errors.now x.a_evidence.now)
    (strand_bytes (yes m.b.present) (encoded_annotation (told m.b.present m.b.annotated) m.b.pattern) x.b_bases.now x.b_quals.now x.b_depths.now x.b_errors.now x.b_evidence.now)
    x.reads.now _
    (sym (ap molecule_by c.in-Ok.is) ∙ rw (c.new-a.ensures.bases, c.new-a.ensures.quals, c.new-a.ensures.depths, c.new-a.ensures.errors, c.new-b.ensures.bases, c.new-b.ensures.quals, c.new-b.ensures.depths, c.new-b.ensures.errors) at c.told_molecule.ensures)
    (search (rules, c.preview_consensus_bytes.ensures.made))
    c.from.ensures

pub returns-in-Err : goal.returns-in-Err
returns-in-Err c =
    let x = c.args in
    let m = x.molecule in
    refused_entry (previewed m)
    (strand_bytes (yes m.a.present) (encoded_annotation (told m.a.present m.a.annotated) m.a.pattern) x.a_bases.now x.a_quals.now x.a_depths.now x.a_errors.now x.a_evidence.now)
    (strand_bytes (yes m.b.present) (encoded_annotation (told m.b.present m.b.annotated) m.b.pattern) x.b_bases.now x.b_quals.now x.b_depths.now x.b_errors.now x.b_evidence.now)
    x.reads.now _
    (sym (ap molecule_by c.in-Err.is) ∙ rw (c.new-a.ensures.bases, c.new-a.ensures.quals, c.new-a.ensures.depths, c.new-a.ensures.errors, c.new-b.ensures.bases, c.new-b.ensures.quals, c.new-b.ensures.depths, c.new-b.ensures.errors) at c.told_molecule.ensures)
    c.from-in-Err.ensures
