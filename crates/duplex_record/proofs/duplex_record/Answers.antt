-- `duplex_record::duplex_record` meets its contract: refused by what is given, or by the record's kind what the call that writes it
-- leaves. Assumes nothing.
use mathlib.Core.Path.{◌≡◌, ap, ◌∙◌}
use native.Mathlib.Omega.{arith}
use Rattle.std.proofs.Common.{Ok, is_some}
use Rattle.std.proofs.lemmas.Result.{err_from_is_err_and}
use Rattle.settings.specs.Settings.{given_of as lab_of}
use Rattle.duplex_kind.specs.Kind.{given_of, count_in, leaving_in}
use Rattle.duplex_record.proofs.Record.{made_by, kind_told, lent_single, lent_combined, turned_down, none, alone_ab, alone_ba, both}
use Rattle.duplex_record.proofs.Untouched.{same}
use Rattle.duplex_record.proofs.duplex_record.Goals.{in-Ab, in-Ba, in-Both}
use Rattle.duplex_record.proofs.duplex_record.Goals as goal

pub returns-in_err-kind-clause-made : goal.returns-in_err-kind-clause-made
returns-in_err-kind-clause-made c =
    let a = given_of c.args.a in
    let b = given_of c.args.b in
    let p = err_from_is_err_and c.from_residual.result c.from_residual.ensures.1 in
    let kind = kind_told a b (is_some c.args.list) (count_in c.args.list) (leaving_in c.args.list) c.given_strand.ensures c.given_strand-2.ensures c.record_kind.ensures c.in_err-kind.was in
    rw (p.1, p.2) (turned_down (lab_of c.args.settings) a b _ _ _ _ kind)

pub returns-in_default-clause-made : goal.returns-in_default-clause-made
returns-in_default-clause-made c =
    let a = given_of c.args.a in
    let b = given_of c.args.b in
    let answer = c.in_ok-kind.was ∙ ap Ok c.in_default.is in
    let kind = kind_told a b (is_some c.args.list) (count_in c.args.list) (leaving_in c.args.list) c.given_strand.ensures c.given_strand-2.ensures c.record_kind.ensures answer in
    none (lab_of c.args.settings) a b _ _ _ _ kind

pub returns-clause-made : goal.returns-clause-made
returns-clause-made c =
    let a = given_of c.args.a in
    let b = given_of c.args.b in
    let kind = kind_told a b (is_some c.args.list) (count_in c.args.list) (leaving_in c.args.list) c.given_strand.ensures c.given_strand-2.ensures c.record_kind.ensures (c.in_ok-kind.was ∙ ap Ok c.in-Some.is) in
    let told : c.map.result ≡ made_by c.in-Some.kind c.match-kind.written = grind arith in
    elim c.match-kind.branch [
      | in-Ab w ↦ rw (w.out-is, w.a_out-is, w.b_out-is) (alone_ab (lab_of c.args.settings) a b _ _ _ _ _ (rw w.written-is at told) kind w.in-Ab.is (lent_single c.lent-a.result c.lent-a.ensures w.gated_single_strand-written.ensures.single) same)
      | in-Ba w ↦ rw (w.out-is, w.a_out-is, w.b_out-is) (alone_ba (lab_of c.args.settings) a b _ _ _ _ _ (rw w.written-is at told) kind w.in-Ba.is (lent_single c.lent-b.result c.lent-b.ensures w.gated_single_strand-written-in-Ba.ensures.single) same)
      | in-Both w ↦ rw (w.out-is, w.a_out-is, w.b_out-is) (both (lab_of c.args.settings) a b _ _ _ _ _ (rw w.written-is at told) kind w.in-Both.is (lent_combined c.lent-a.result c.lent-b.result c.lent-a.ensures c.lent-b.ensures (rw w.is_some.ensures at w.combine_strands_annotated-written.ensures.combined)))
    ]
