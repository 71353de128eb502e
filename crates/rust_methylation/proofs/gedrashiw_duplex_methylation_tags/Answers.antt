-- `rust_methylation::gedrashiw_duplex_methylation_tags` meets its contract: evidence that stands beside no annotation is not looked at.
-- Assumes nothing.
use Rattle.std.proofs.Common.{rules}
use Rattle.duplex_texts.specs.Texts.{strand}
use Rattle.duplex_tags.proofs.Absent.{not_looked_at}
use Rattle.rust_methylation.proofs.Lent.{lent_as}
use Rattle.rust_methylation.proofs.gedrashiw_duplex_methylation_tags.Goals as goal

pub returns : goal.returns
returns c =
    let g = c.args in
    let m = c.in-Ok.choices.0 in
    let n = c.in-Ok.choices.1 in
    let lent_a = lent_as m c.of-a.result g.a_marks.now g.a_unconverted.now g.a_converted.now c.of-a.ensures.pattern c.of-a.ensures.evidence c.new-a_evidence.ensures in
    let lent_b = lent_as n c.of-b.result g.b_marks.now g.b_unconverted.now g.b_converted.now c.of-b.ensures.pattern c.of-b.ensures.evidence c.new-b_evidence.ensures in
    let made = not_looked_at _ _ (strand m g.a_marks.now g.a_unconverted.now g.a_converted.now) (strand n g.b_marks.now g.b_unconverted.now g.b_converted.now) _ _ _ _ _ (rw (lent_a, lent_b) at c.duplex_methylation_tags.ensures.tagged) in
    search (rules, made)
