-- `duplex_texts::duplex_texts` meets its contract: refused by the sequence and the evidence, or by the room of the outputs
-- for the texts that are made in buffers, or all is written. Assumes nothing.
use mathlib.Core.Path.{◌≡◌, sym, ◌∙◌}
use mathlib.Core.Bool.{false}
use mathlib.Core.List.{List}
use Prim.Native.Nat.{ℕ}
use lib.ListN.{length}
use Rattle.std.proofs.Common.{None}
use Rattle.std.proofs.lemmas.Result.{err_from_is_err_and}
use Rattle.refusals.specs.Refusal.{refused}
use Rattle.refusals.proofs.Outcome.{refused_by, passed_by, is_met, not_met}
use Rattle.duplex_texts.specs.Lent.{texts_out}
use Rattle.duplex_texts.specs.Texts.{StrandAnnotation, TextArrays, strand_in, duplex_seq}
use Rattle.duplex_texts.specs.Outputs.{RoomTexts, given_of, text_lengths, texts_too_short}
use Rattle.duplex_texts.specs.Parts.{AsLong, needed_for}
use Rattle.duplex_texts.proofs.Refused.{as_long, refused_given, refused_room, all_written, enough_room}
use Rattle.duplex_texts.proofs.Made.{made, long_against, few_bytes, needed, all_put}
use Rattle.duplex_texts.proofs.duplex_texts.Goals as goal
use Rattle.duplex_texts.proofs.duplex_texts.Goals.{In_ok-given_refusal, After-front-restored, In_ok-refuse}

pub returns-in_err-given_refusal-clause-texts : goal.returns-in_err-given_refusal-clause-texts
returns-in_err-given_refusal-clause-texts c =
    let p = err_from_is_err_and c.from_residual.result c.from_residual.ensures.1 in
    let told = rw (c.lengths_of.ensures, c.lengths_of-2.ensures) at (sym c.given_refusal.ensures) in
    rw (p.1, p.2) (refused_given _ _ _ _ _ (refused_by _ _ (told ∙ c.in_err-given_refusal.was)))

-- Where the first test refuses nothing: how long the evidence is.
module _ (c : In_ok-given_refusal) where
  abbrev bases : List ℕ
  bases = c.args.bases.now

  abbrev a : StrandAnnotation
  a = strand_in c.args.a

  abbrev b : StrandAnnotation
  b = strand_in c.args.b

  passed : refused (given_of bases a b) ≡ None
  passed =
      let told = rw (c.lengths_of.ensures, c.lengths_of-2.ensures) at (sym c.given_refusal.ensures) in
      (passed_by _ _ (told ∙ c.in_ok-given_refusal.was)).0

  long : AsLong (length bases) a × AsLong (length bases) b
  long = as_long bases a b passed

-- What the texts are made against.
whole : (c : After-front-restored) → c.front-restored.result.now ≡ duplex_seq c.args.bases.now (strand_in c.args.a) (strand_in c.args.b)
whole c = c.front-restored.ensures ∙ made c.args.mode c.args.bases.now (strand_in c.args.a) (strand_in c.args.b) _ c.restore_both.ensures

-- Where the second test refuses nothing: there is room.
module _ (c : In_ok-refuse) where
  abbrev outputs : TextArrays
  outputs = texts_out c.args.out.now

  long_enough : texts_too_short c.needed_for-needed.result (text_lengths outputs) ≡ false
  long_enough = sym (rw c.lengths.ensures at c.is_too_short.ensures) ∙ not_met _ _ (sym c.refuse.ensures ∙ c.in_ok-refuse.was)

  room : RoomTexts (needed_for (length c.args.bases.now) c.strand_texts-of_a.result c.strand_texts-of_b.result) (text_lengths outputs)
  room = rw c.needed_for-needed.ensures at (enough_room _ (text_lengths outputs) long_enough)

pub restore_both-requires-clause-as_long : goal.restore_both-requires-clause-as_long
restore_both-requires-clause-as_long c = (long (goal.at.restore_both-requires-clause-as_long c).In_ok-given_refusal).0

pub restore_both-requires-clause-as_long_2 : goal.restore_both-requires-clause-as_long_2
restore_both-requires-clause-as_long_2 c = (long (goal.at.restore_both-requires-clause-as_long_2 c).In_ok-given_refusal).1

pub strand_texts-of_a-requires-clause-as_long : goal.strand_texts-of_a-requires-clause-as_long
strand_texts-of_a-requires-clause-as_long c =
    let here = goal.at.strand_texts-of_a-requires-clause-as_long c in
    long_against c.args.mode c.args.bases.now (strand_in c.args.a) (strand_in c.args.b) (whole here.After-front-restored) (long here.In_ok-given_refusal).0

pub strand_texts-of_b-requires-clause-as_long : goal.strand_texts-of_b-requires-clause-as_long
strand_texts-of_b-requires-clause-as_long c =
    let here = goal.at.strand_texts-of_b-requires-clause-as_long c in
    long_against c.args.mode c.args.bases.now (strand_in c.args.a) (strand_in c.args.b) (whole here.After-front-restored) (long here.In_ok-given_refusal).1

pub needed_for-needed-requires : goal.needed_for-needed-requires
needed_for-needed-requires c =
    let here = goal.at.needed_for-needed-requires c in
    let of_a = rw (whole here.After-front-restored) at c.strand_texts-of_a.ensures in
    let of_b = rw (whole here.After-front-restored) at c.strand_texts-of_b.ensures in
    few_bytes _ _ _ _ of_a of_b (long here.In_ok-given_refusal).0.few

pub returns-in_err-refuse-clause-texts : goal.returns-in_err-refuse-clause-texts
returns-in_err-refuse-clause-texts c =
    let here = goal.at.returns-in_err-refuse-clause-texts c in
    let of_a = rw (whole here.After-front-restored) at c.strand_texts-of_a.ensures in
    let of_b = rw (whole here.After-front-restored) at c.strand_texts-of_b.ensures in
    let lengths = c.needed_for-needed.ensures ∙ needed _ _ _ _ of_a of_b in
    let p = err_from_is_err_and c.from_residual-in_err-refuse.result c.from_residual-in_err-refuse.ensures.1 in
    let (short, row) = is_met _ _ (sym c.refuse.ensures ∙ c.in_err-refuse.was) in
    rw (p.1, p.2, sym row) (refused_room _ _ _ _ (texts_out c.args.out.now) (passed here.In_ok-given_refusal) lengths (sym (rw c.lengths.ensures at c.is_too_short.ensures) ∙ short))

pub returns-clause-texts : goal.returns-clause-texts
returns-clause-texts c =
    let here = goal.at.returns-clause-texts c in
    let of_a = rw (whole here.After-front-restored) at c.strand_texts-of_a.ensures in
    let of_b = rw (whole here.After-front-restored) at c.strand_texts-of_b.ensures in
    let lengths = c.needed_for-needed.ensures ∙ needed _ _ _ _ of_a of_b in
    all_written _ _ _ _ (outputs here.In_ok-refuse) (passed here.In_ok-given_refusal) lengths (long_enough here.In_ok-refuse) (all_put c.args.mode c.args.bases.now (strand_in c.args.a) (strand_in c.args.b) of_a of_b c.is_second_first-second_first.ensures (whole here.After-front-restored) (room here.In_ok-refuse) c.copy.ensures c.front-a_text.ensures c.front-b_text.ensures c.front-a_bytes.ensures c.front-b_bytes.ensures c.copy-2.ensures c.copy-3.ensures c.write_groups.ensures c.write_groups-2.ensures)
