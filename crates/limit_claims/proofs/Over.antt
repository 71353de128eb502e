-- The claims of specs/Over.antt.
--     in_turn              an entry over numbers
--     is_7, is_19          the row that refuses the one over bytes
--     over_the_limit       the claim
-- Assumes nothing.
use mathlib.Core.Path.{◌≡◌, refl, ap, ◌∙◌}
use mathlib.Core.Bool.{Bool, false, true, ◌||◌}
use mathlib.Core.List.{List, ◌++◌}
use Prim.Native.Nat.{ℕ, ◌≤◌}
use native.Mathlib.Omega.{arith}
use Rattle.std.proofs.Common.{Option, Some, None, Result, Err}
use Rattle.refusals.specs.declared.Refusal.{Refusal}
use Rattle.refusals.specs.declared.Refusal.TheVariants.{TooLong, OverLimit}
use Rattle.refusals.specs.Refusal.{number_of, number_or_0, refused}
use Rattle.refusals.specs.Outcome.{answer}
use Rattle.refusals.proofs.Condition.{neither}
use Rattle.phred.specs.Phred.{ceiling_outside}
use Rattle.settings.specs.Settings.{told_faults}
use Rattle.settings.specs.declared.GivenSettings.{GivenSettings}
use Rattle.settings.proofs.Tested.{told_passed}
use Rattle.methylation.specs.declared.ConversionPattern.{ConversionPattern}
use Rattle.replies.specs.Choices.{yes}
use Rattle.replies.specs.Replies.{not_counted, count_reply, RefusedOr}
use Rattle.replies.specs.declared.Count.{Count}
use Rattle.vanilla_caller.specs.Strand.{Arrays, lengths, strand_too_long, strand_ragged}
use Rattle.vanilla_caller.specs.declared.Lengths.{Lengths}
use Rattle.duplex_molecule.specs.declared.CtInput.{CtInput}
use Rattle.duplex_molecule.specs.declared.CtInput.TheVariants.{Neither}
use Rattle.duplex_outputs.specs.Outputs.{RecordArrays, record_lengths, record_too_short}
use Rattle.duplex_strands.specs.Combine.{common_length}
use Rattle.duplex_kind.specs.Kind.{given, long}
use Rattle.duplex_kind.specs.Limit.{lengths_of, over_in, length_faults}
use Rattle.duplex_kind.proofs.Limit.{by_7, by_19}
use Rattle.duplex_reply.specs.Reply.{no_record}
use Rattle.duplex_reply.specs.declared.DuplexRecord.{DuplexRecord}
use Rattle.molecule_strand.specs.Strand.{StrandBytes, strand_of}
use Rattle.molecule_consensus.specs.Bytes.{broken}
use Rattle.c_record.specs.Outputs.{RecordBytes}
use Rattle.c_interface.specs.Entry.{wrong_molecule as wrong_encoded, previewed, ConsensusEntry}
use Rattle.c_interface.specs.declared.ToldEncodedMolecule.{ToldEncodedMolecule}
use Rattle.ceiling_claims.specs.Bytes.{row_13}
use Rattle.ceiling_claims.specs.Entries.{AnnotatedEntry}
use Rattle.ceiling_claims.proofs.Bytes.{refused_as, byte_answers}
use Rattle.ceiling_claims.proofs.Entries.{within, row_of, Answers, answered_by, entry_answers, either_long, never_19}
use Rattle.limit_claims.specs.Over.{AtTheLimit, OverTheLimit}
use Rattle.limit_claims.proofs.Arrays.{over_less}

-- An entry that refuses by 13, the settings and its strands' lengths before its call, whose refusals are told by their numbers.
module _
    {Told Numbers Outputs : Type 0} {reply : Result Told Refusal → Numbers} {As : Outputs → Outputs → Result Told Refusal → Type 0}
    {wrong : Bool} {lab : GivenSettings} {a b : Option Lengths} {before now : Outputs} {r : Numbers} {no : ℕ → Numbers} {number : Numbers → ℕ}
    (tells : (row : Refusal) → reply (Err row) ≡ no (number_of row))
    (x : RefusedOr (refused (told_faults wrong lab ++ length_faults lab.limit a b)) reply As before now r)
    (answers : Answers wrong (ceiling_outside lab.ceiling) false (over_in 1024 a || over_in 1024 b) (over_in lab.limit a || over_in lab.limit b) (number r)) where
  in_turn : AtTheLimit no number wrong lab a b before now r
  in_turn = record {
    over = λ w least most short over. turned (by_lengths w least most ∙ by_19 lab.limit a b short over);
    long = λ w least most long. turned (by_lengths w least most ∙ by_7 lab.limit a b long);
    within = λ w e. never_19 answers w e;
  }
    where
      -- Where 13 and 14 do not refuse, the lengths do.
      by_lengths : wrong ≡ false → 3 ≤ lab.ceiling → lab.ceiling ≤ 93 → refused (told_faults wrong lab ++ length_faults lab.limit a b) ≡ refused (length_faults lab.limit a b)
      by_lengths w least most = told_passed lab (length_faults lab.limit a b) refl w (rw (within least most))

      turned : {row : Refusal} → refused (told_faults wrong lab ++ length_faults lab.limit a b) ≡ Some row → (r ≡ no (number_of row)) × (now ≡ before)
      turned {row} e =
          let t = x.turned row e in
          (t.answered ∙ tells row, t.outputs)

count_number : (row : Option Refusal) (n : ℕ) → (count_reply (answer row n)).refused ≡ number_or_0 row
count_number None n = refl
count_number (Some row) n = refl

annotated_at :
    (wrong : Bool) (lab : GivenSettings) (ct : CtInput) (ma : Option ConversionPattern) (a : Arrays) (mb : Option ConversionPattern) (b : Arrays) (listed : Bool)
    (before now : RecordArrays) (r : Count)
    → AnnotatedEntry wrong lab ct ma a mb b listed before now r
    → AtTheLimit not_counted (λ (c : Count). c.refused) wrong lab (Some (lengths ma a)) (Some (lengths mb b)) before now r
annotated_at wrong lab ct ma a mb b listed before now r x =
    let first = lengths ma a in
    let second = lengths mb b in
    let uneven = strand_ragged first || strand_ragged second in
    let short = record_too_short (common_length first second) (record_lengths ma mb before) in
    let answered =
    answered_by wrong (ceiling_outside lab.ceiling) (strand_too_long first || strand_too_long second) (over_in lab.limit (Some first) || over_in lab.limit (Some second)) (strand_too_long first || strand_too_long second) uneven false false short (common_length first second) refl (λ told p. p.answered) x in
    in_turn (λ row. refl) x
    (record {
      uneven = uneven;
      many = false;
      leaving = false;
      short = short;
      is = ap (λ (c : Count). c.refused) answered ∙ count_number _ (common_length first second);
    })

module _ (wrong outside broken long over uneven many leaving short : Bool) (h : (wrong || broken) ≡ false) (inside : outside ≡ false) where
  is_7 : long ≡ true → row_of wrong outside broken long over uneven many leaving short ≡ Some TooLong
  is_7 e =
      let (w, fits) = neither wrong broken h in
      rw (w, inside, fits, e)

  is_19 : long ≡ false → over ≡ true → row_of wrong outside broken long over uneven many leaving short ≡ Some OverLimit
  is_19 e f =
      let (w, fits) = neither wrong broken h in
      rw (w, inside, fits, e, f)

bytes_at :
    (m : ToldEncodedMolecule) (a b : StrandBytes) (run : List ℕ) (before now : RecordBytes) (r : DuplexRecord)
    → ConsensusEntry m a b run before now r
    → AtTheLimit no_record (λ (d : DuplexRecord). d.refused) (row_13 m a b run) m.settings (lengths_of (strand_of a)) (lengths_of (strand_of b)) before now r
bytes_at m a b run before now r x = record {
  over = λ h least most short over.
      refused_as m a b run before now r x (is_19 (wrong_encoded m) (ceiling_outside m.settings.ceiling) (broken a b (yes m.listed) run) _ _ _ _ _ _ h (within least most) (own ∙ short) over);
  long = λ h least most e.
      refused_as m a b run before now r x (is_7 (wrong_encoded m) (ceiling_outside m.settings.ceiling) (broken a b (yes m.listed) run) _ _ _ _ _ _ h (within least most) (own ∙ e));
  within = λ w e. never_19 (byte_answers m a b run before now r x) w e;
}
  where
    own : (long (given (strand_of a)) || long (given (strand_of b))) ≡ (over_in 1024 (lengths_of (strand_of a)) || over_in 1024 (lengths_of (strand_of b)))
    own = either_long (strand_of a) (strand_of b)

pub over_the_limit : OverTheLimit
over_the_limit = record {
  typed = λ m a b reads bytes before now r x. in_turn (λ row. refl) x (entry_answers m a b reads bytes before now r x);
  annotated = annotated_at;
  plain = λ lab a b listed before now r x. annotated_at false lab Neither None a None b listed before now r x;
  bytes = bytes_at;
  preview = λ m a b run before now r x. bytes_at (previewed m) a b run before now r x;
  over_256 = λ m a b run before now r x h least most short over.
      (bytes_at (previewed m) a b run before now r x).over h least most short
      (over_less _ 256 (omega arith) (lengths_of (strand_of a)) (lengths_of (strand_of b)) over);
}
