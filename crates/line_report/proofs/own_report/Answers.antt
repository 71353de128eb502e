-- `line_report::own_report` meets its contract: what was read is judged. Assumes nothing.
use mathlib.Core.Path.{subst, ◌∙◌}
use Rattle.std.proofs.Common.{Some}
use Rattle.molecule_counts.specs.Counts.{CountedArrays, DecodedTo, buffers_in}
use Rattle.line_report.proofs.Cut.{own_read}
use Rattle.line_report.proofs.own_report.Goals as goal

pub returns : goal.returns
returns c =
    let x = c.args.x in
    let told = c.new-within.ensures in
    own_read c.args.kind c.args.n x.a x.b x.bases.now x.errors.now c.args.min_reads.now c.new-within.result c.first_read-own.result c.second_read-others.result (buffers_in c.decode.new.self) (buffers_in c.decode-2.new.self)
    (subst (λ (r : CountedArrays). DecodedTo (Some x.a) r (buffers_in c.decode.new.self)) c.zeros-a.ensures c.decode.ensures)
    (subst (λ (r : CountedArrays). DecodedTo x.b r (buffers_in c.decode-2.new.self)) c.zeros-b.ensures c.decode-2.ensures)
    c.first_read-own.ensures c.second_read-others.ensures
    (told.0, told.1, told.2 ∙ c.front.ensures, told.3 ∙ c.front-2.ensures)
    c.judge.ensures
