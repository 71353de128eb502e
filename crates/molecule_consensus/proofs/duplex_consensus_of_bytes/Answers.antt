-- `molecule_consensus::duplex_consensus_of_bytes` meets its contract: refused by rows 13 and 7, or read, and the record made of the numbers
-- and its errors counted. Assumes nothing.
use mathlib.Core.Path.{refl, sym, subst, ◌∙◌}
use Rattle.std.proofs.lemmas.Result.{err_from_is_err_and}
use Rattle.settings.specs.Settings.{given_of as lab_of}
use Rattle.methylation.specs.Outputs.{evidence_out}
use Rattle.duplex_outputs.specs.Lent.{record_out}
use Rattle.molecule_strand.specs.Strand.{encoded_in, Numbers, StrandRead}
use Rattle.molecule_strand.proofs.Strand.{by_lengths}
use Rattle.molecule_errors.proofs.Run.{listed_broken, listed_whole}
use Rattle.molecule_consensus.specs.Numbers.{numbers_in}
use Rattle.molecule_consensus.proofs.Bytes.{torn_down, turned_down, first_narrow, second_narrow}
use Rattle.molecule_consensus.proofs.Made.{strand_is, answered_of}
use Rattle.molecule_consensus.proofs.duplex_consensus_of_bytes.Goals as goal

pub returns-in_err-list-clause-made : goal.returns-in_err-list-clause-made
returns-in_err-list-clause-made c =
    let p = err_from_is_err_and c.from_residual.result c.from_residual.ensures.1 in
    let (torn, is) = listed_broken _ _ (sym c.read_list.ensures ∙ c.in_err-list.was) in
    rw (p.1, p.2, is) (torn_down (lab_of c.args.settings) c.args.m.a c.args.m.b _ _ _ torn)

pub returns-in_err-early_refusal-clause-made : goal.returns-in_err-early_refusal-clause-made
returns-in_err-early_refusal-clause-made c =
    let p = err_from_is_err_and c.from_residual-in_err-early_refusal.result c.from_residual-in_err-early_refusal.ensures.1 in
    let (whole, l) = listed_whole _ _ (sym c.read_list.ensures ∙ c.in_ok-list.was) in
    rw (p.1, p.2) (turned_down (lab_of c.args.settings) c.args.m.a c.args.m.b _ _ _ whole (sym (by_lengths (encoded_in c.args.m.a) (encoded_in c.args.m.b) c.byte_lengths.ensures c.byte_lengths-2.ensures c.early_refusal.ensures) ∙ c.in_err-early_refusal.was))

pub returns-clause-made : goal.returns-clause-made
returns-clause-made c =
    let (whole, l) = listed_whole _ _ (sym c.read_list.ensures ∙ c.in_ok-list.was) in
    let early = sym (by_lengths (encoded_in c.args.m.a) (encoded_in c.args.m.b) c.byte_lengths.ensures c.byte_lengths-2.ensures c.early_refusal.ensures) ∙ c.in_ok-early_refusal.was in
    let before = record_out c.args.out.now (evidence_out c.args.a_out.now) (evidence_out c.args.b_out.now) in
    let a_read = subst (λ (n : Numbers). StrandRead (encoded_in c.args.m.a) n (numbers_in c.read.new.self)) c.zeros-a_numbers.ensures c.read.ensures in
    let b_read = subst (λ (n : Numbers). StrandRead (encoded_in c.args.m.b) n (numbers_in c.read-2.new.self)) c.zeros-b_numbers.ensures c.read-2.ensures in
    let first = strand_is c.args.m.a {now = numbers_in c.read.new.self} (first_narrow (lab_of c.args.settings) c.args.m.a c.args.m.b _ _ before whole early) c.strand-a_read.ensures a_read in
    let second = strand_is c.args.m.b {now = numbers_in c.read-2.new.self} (second_narrow (lab_of c.args.settings) c.args.m.a c.args.m.b _ _ before whole early) c.strand-b_read.ensures b_read in
    answered_of (lab_of c.args.settings) c.args.m.a c.args.m.b _ _ _ whole early l first second c.duplex_record-made.result c.duplex_record-made.ensures.made refl refl c.count_errors.ensures
