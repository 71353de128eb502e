-- `molecule_strand::kind_of_depths` meets its contract: refused by an early row, or told by what is given. Assumes nothing.
use mathlib.Core.Path.{sym, ◌∙◌}
use Rattle.std.proofs.lemmas.Result.{err_from_is_err_and}
use Rattle.molecule_strand.specs.Strand.{encoded_in}
use Rattle.molecule_strand.proofs.Kind.{refused_early, passed}
use Rattle.molecule_strand.proofs.Strand.{by_lengths}
use Rattle.molecule_strand.proofs.kind_of_depths.Goals as goal

pub returns-in_err-early_refusal : goal.returns-in_err-early_refusal
returns-in_err-early_refusal c =
    let a = c.args in
    let early = by_lengths (encoded_in a.a) (encoded_in a.b) c.byte_lengths.ensures c.byte_lengths-2.ensures c.early_refusal.ensures in
    let p = err_from_is_err_and c.from_residual.result c.from_residual.ensures.1 in
    rw (p.1, p.2) (refused_early (encoded_in a.a) (encoded_in a.b) a.a_depths.now a.b_depths.now (sym early ∙ c.in_err-early_refusal.was))

pub returns : goal.returns
returns c =
    let a = c.args in
    let early = by_lengths (encoded_in a.a) (encoded_in a.b) c.byte_lengths.ensures c.byte_lengths-2.ensures c.early_refusal.ensures in
    passed (encoded_in a.a) (encoded_in a.b) a.a_depths.now a.b_depths.now (sym early ∙ c.in_ok-early_refusal.was)
    (rw (c.given_by.ensures, c.given_by-2.ensures) at c.record_kind.ensures)
