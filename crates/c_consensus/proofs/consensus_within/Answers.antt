-- `c_consensus::consensus_within` meets its contract: refused for what is given or by row 12, or written by the kind of the record.
-- Assumes nothing.
use mathlib.Core.Path.{sym, ap, ◌∙◌}
use Rattle.std.proofs.Common.{rules}
use Rattle.std.proofs.lemmas.Result.{err_from_is_err_and}
use Rattle.std.specs.Prelude.{is_some}
use Rattle.molecule_errors.specs.Run.{run_in}
use Rattle.molecule_strand.specs.Strand.{encoded_in}
use Rattle.c_record.specs.Lent.{bytes_out}
use Rattle.c_consensus.specs.Parts.{settled_by}
use Rattle.c_consensus.proofs.Consensus.{given_down, short_down}
use Rattle.c_consensus.proofs.Arms.{kind_is, by_seen, made_none, made_ab, made_ba, made_both}
use Rattle.c_consensus.proofs.consensus_within.Goals as goal

pub returns-in_err-kind-clause-made : goal.returns-in_err-kind-clause-made
returns-in_err-kind-clause-made g c =
    let m = c.args.m in
    let p = err_from_is_err_and c.from_residual.result c.from_residual.ensures.1 in
    let told = kind_is c.args.given g.row.N m.a m.b (is_some m.reads) (run_in m.reads) c.requires.fits.0 c.requires.fits.1 c.read_to.ensures c.read_to-2.ensures c.kind_of_depths-of_strands.ensures c.tested.ensures c.within_limit-within.ensures c.listed_kind.ensures.kind (bytes_out c.args.out.now) in
    rw (p.1, p.2) (by_seen m.a m.b (given_down c.args.given (encoded_in m.a) (encoded_in m.b) (is_some m.reads) (run_in m.reads) (bytes_out c.args.out.now) (sym told ∙ ap settled_by c.in_err-kind.was)))

pub returns-in_err-refusal-clause-made : goal.returns-in_err-refusal-clause-made
returns-in_err-refusal-clause-made g c =
    let m = c.args.m in
    let p = err_from_is_err_and c.from_residual-in_err-refusal.result c.from_residual-in_err-refusal.ensures.1 in
    let told = kind_is c.args.given g.row.N m.a m.b (is_some m.reads) (run_in m.reads) c.requires.fits.0 c.requires.fits.1 c.read_to.ensures c.read_to-2.ensures c.kind_of_depths-of_strands.ensures c.tested.ensures c.within_limit-within.ensures c.listed_kind.ensures.kind (bytes_out c.args.out.now) in
    let refusal = rw (c.written_of.ensures, c.annotation_of-first.ensures, c.annotation_of-second.ensures) at (sym c.refusal.ensures ∙ c.in_err-refusal.was) in
    rw (p.1, p.2) (by_seen m.a m.b (short_down c.args.given (encoded_in m.a) (encoded_in m.b) (is_some m.reads) (run_in m.reads) (bytes_out c.args.out.now) (sym told ∙ ap settled_by c.in_ok-kind.was) refusal))

pub returns-in-None-clause-made : goal.returns-in-None-clause-made
returns-in-None-clause-made g c =
    let m = c.args.m in
    let refusal = rw (c.written_of.ensures, c.annotation_of-first.ensures, c.annotation_of-second.ensures) at (sym c.refusal.ensures ∙ c.in_ok-refusal.was) in
    rw (← c.in-None.is)
    (made_none c.args.given g.row.N m.a m.b (is_some m.reads) (run_in m.reads) c.requires.fits.0 c.requires.fits.1 c.read_to.ensures c.read_to-2.ensures c.kind_of_depths-of_strands.ensures c.tested.ensures c.within_limit-within.ensures c.listed_kind.ensures.kind (bytes_out c.args.out.now) (ap settled_by c.in_ok-kind.was) refusal c.in-None.is)

pub returns-in-Some-Ab-clause-made : goal.returns-in-Some-Ab-clause-made
returns-in-Some-Ab-clause-made g c =
    let m = c.args.m in
    let refusal = rw (c.written_of.ensures, c.annotation_of-first.ensures, c.annotation_of-second.ensures) at (sym c.refusal.ensures ∙ c.in_ok-refusal.was) in
    made_ab c.args.given g.row.N m.a m.b (is_some m.reads) (run_in m.reads) c.requires.fits.0 c.requires.fits.1 c.read_to.ensures c.read_to-2.ensures c.kind_of_depths-of_strands.ensures c.tested.ensures c.within_limit-within.ensures c.listed_kind.ensures.kind (bytes_out c.args.out.now) (ap settled_by c.in_ok-kind.was) refusal (search (rules, c.in-Some-Ab.is, c.in-Some-Ab.field-0-is))
    record {
      bases = c.write_single.ensures.bases;
      quals = c.write_single.ensures.quals;
      errors = c.write_single.ensures.errors;
      evidence_a = c.write_single.ensures.a_evidence;
      evidence_b = c.write_single.ensures.b_evidence;
    }

pub returns-in-Some-Ba-clause-made : goal.returns-in-Some-Ba-clause-made
returns-in-Some-Ba-clause-made g c =
    let m = c.args.m in
    let refusal = rw (c.written_of.ensures, c.annotation_of-first.ensures, c.annotation_of-second.ensures) at (sym c.refusal.ensures ∙ c.in_ok-refusal.was) in
    let wrote = c.write_single-in-Some-Ba.ensures in
    made_ba c.args.given g.row.N m.a m.b (is_some m.reads) (run_in m.reads) c.requires.fits.0 c.requires.fits.1 c.read_to.ensures c.read_to-2.ensures c.kind_of_depths-of_strands.ensures c.tested.ensures c.within_limit-within.ensures c.listed_kind.ensures.kind (bytes_out c.args.out.now) (ap settled_by c.in_ok-kind.was) refusal (search (rules, c.in-Some-Ba.is, c.in-Some-Ba.field-0-is))
    record { bases = wrote.bases; quals = wrote.quals; errors = wrote.errors; evidence_a = wrote.a_evidence; evidence_b = wrote.b_evidence }

pub returns-in-Some-Both-clause-made : goal.returns-in-Some-Both-clause-made
returns-in-Some-Both-clause-made g c =
    let m = c.args.m in
    let refusal = rw (c.written_of.ensures, c.annotation_of-first.ensures, c.annotation_of-second.ensures) at (sym c.refusal.ensures ∙ c.in_ok-refusal.was) in
    made_both c.args.given g.row.N m.a m.b (is_some m.reads) (run_in m.reads) c.requires.fits.0 c.requires.fits.1 c.read_to.ensures c.read_to-2.ensures c.kind_of_depths-of_strands.ensures c.tested.ensures c.within_limit-within.ensures c.listed_kind.ensures.kind (bytes_out c.args.out.now) (ap settled_by c.in_ok-kind.was) refusal (search (rules, c.in-Some-Both.is, c.in-Some-Both.field-0-is))
    c.strand_in-a.ensures c.strand_in-b.ensures c.listed_kind.ensures.errors c.write_both.ensures.positions (rw c.is_some-listed.ensures at c.write_both.ensures.errors)
    (rw (c.write_both.ensures.a_evidence, c.ct_input-ct.ensures, c.annotation_of-first.ensures, c.annotation_of-second.ensures, c.bases_of-a_bases.ensures, c.bases_of-b_bases.ensures) at c.write_kept.ensures)
    (rw (c.write_both.ensures.b_evidence, c.ct_input-ct.ensures, c.annotation_of-first.ensures, c.annotation_of-second.ensures, c.bases_of-a_bases.ensures, c.bases_of-b_bases.ensures) at c.write_kept-in-Some-Both.ensures)
