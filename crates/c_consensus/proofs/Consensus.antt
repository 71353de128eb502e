-- What is promised of a call from bytes to bytes, by its refusals and by what it wrote.
--     given_down, short_down     refused for what is given, and by row 12: nothing is written
--     room_is                    not refused by row 12: there is room
--     none_met, told, same_settings     what an answer says of the call
--     Puts, made_is              made: every output has its own bytes
-- Assumes nothing.
use mathlib.Core.Path.{◌≡◌, refl, sym, ap, subst, ◌∙◌}
use mathlib.Core.Bool.{Bool, true, false, cond}
use mathlib.Core.List.{List}
use Prim.Native.Nat.{ℕ}
use Rattle.std.proofs.Common.{Option, Some, None, Ok, Err}
use Rattle.lists.specs.Output.{put}
use Rattle.refusals.specs.declared.Refusal.{Refusal}
use Rattle.refusals.specs.declared.Refusal.TheVariants.{OutputTooShort}
use Rattle.refusals.specs.Outcome.{answer}
use Rattle.refusals.proofs.Outcome.{refused_by, passed_by}
use Rattle.settings.specs.declared.GivenSettings.{GivenSettings}
use Rattle.molecule_strand.specs.Strand.{StrandBytes, strand_of}
use Rattle.molecule_errors.specs.Run.{run_errors}
use Rattle.duplex_kind.specs.declared.DuplexConsensus.{DuplexConsensus}
use Rattle.duplex_outputs.specs.Outputs.{RecordArrays}
use Rattle.duplex_record.specs.Record.{record_arrays}
use Rattle.c_record.specs.Outputs.{RecordBytes, LeavesBytes, as_arrays, as_bytes, written_of, short_for, outputs_refused}
use Rattle.c_record.specs.declared.Written.{Written}
use Rattle.c_record.proofs.Outputs.{Room, room_for}
use Rattle.c_consensus.specs.Consensus.{call_refused, ConsensusBytesAs}
use Rattle.c_consensus.proofs.Rows.{kind, inputs, of_inputs, last_row, given_refused, given_passed, same_short}

-- Every output has its own bytes written to its front.
pub record Puts (written before now : RecordBytes) : Type 0 where
  pub bases : now.bases ≡ put written.bases before.bases
  pub quals : now.quals ≡ put written.quals before.quals
  pub errors : now.errors ≡ put written.errors before.errors
  pub evidence_a : now.evidence_a ≡ put written.evidence_a before.evidence_a
  pub evidence_b : now.evidence_b ≡ put written.evidence_b before.evidence_b

puts_is : {written before now : RecordBytes} → Puts written before now → LeavesBytes None written before now
puts_is p = record { bases = p.bases; quals = p.quals; errors = p.errors; evidence_a = p.evidence_a; evidence_b = p.evidence_b }

none_left : {written before : RecordBytes} {row : Refusal} → LeavesBytes (Some row) written before before
none_left = record { bases = refl; quals = refl; errors = refl; evidence_a = refl; evidence_b = refl }

-- Row 12 alone.
passes : (short : Bool) {x : Unit {0}} → answer {A = Unit {0}} (cond short (Some OutputTooShort) None) tt ≡ Ok x → short ≡ false
passes true e = absurd cc
passes false e = refl

pub room_is : (w : Written) (before : RecordBytes) {x : Unit {0}} → answer (outputs_refused w before) tt ≡ Ok x → Room w before
room_is w before e = room_for w before (passes (short_for w (as_arrays before)) e)

module _ (lab : GivenSettings) (a b : StrandBytes) (listed : Bool) (run : List ℕ) (before : RecordBytes) where
  abbrev out : RecordArrays
  out = as_arrays before

  abbrev pub of_kind : Option DuplexConsensus → RecordBytes
  of_kind k = as_bytes (record_arrays lab (strand_of a) (strand_of b) listed (run_errors (strand_of a) (strand_of b) run) k)

  abbrev w : Option DuplexConsensus → Written
  w k = written_of a.annotation b.annotation k

  refused : {row : Refusal} → call_refused lab a b listed run before ≡ Some row → ConsensusBytesAs lab a b listed run before before (Err row)
  refused {row} e = record {
    answered = ap (λ (x : Option Refusal). answer x (kind lab a b listed run)) (sym e);
    outputs = subst (λ (x : Option Refusal). LeavesBytes x (of_kind (kind lab a b listed run)) before before) (sym e) none_left;
  }

  pub given_down : {row : Refusal} → of_inputs lab a b listed run ≡ Err row → ConsensusBytesAs lab a b listed run before before (Err row)
  given_down e = refused (given_refused lab a b listed run out (refused_by _ _ e))

  module _ {k : Option DuplexConsensus} {used : GivenSettings} (e : of_inputs lab a b listed run ≡ Ok (k, used)) where
    pub none_met : inputs lab a b listed run ≡ None
    none_met = (passed_by _ _ e).0

    pub told : kind lab a b listed run ≡ k
    told = ap (λ (x : Option DuplexConsensus × GivenSettings). x.0) (passed_by _ _ e).1

    pub same_settings : lab ≡ used
    same_settings = ap (λ (x : Option DuplexConsensus × GivenSettings). x.1) (passed_by _ _ e).1

    number : outputs_refused (w k) before ≡ call_refused lab a b listed run before
    unfolding strand_of
    number = rw (← told) (ap (last_row lab a b listed run) (same_short (strand_of a) (strand_of b) out (kind lab a b listed run)) ∙ sym (given_passed lab a b listed run out none_met))

    pub short_down : {row : Refusal} → answer (outputs_refused (w k) before) (tt {0}) ≡ Err row → ConsensusBytesAs lab a b listed run before before (Err row)
    short_down f = refused (sym number ∙ refused_by _ _ f)

    pub made_is : {x : Unit {0}} {after : RecordBytes} → answer (outputs_refused (w k) before) (tt {0}) ≡ Ok x → Puts (of_kind k) before after → ConsensusBytesAs lab a b listed run before after (Ok k)
    made_is {x} {after} f p =
        let none : call_refused lab a b listed run before ≡ None = sym number ∙ (passed_by _ _ f).0 in
        let put_all : Puts (of_kind (kind lab a b listed run)) before after = subst (λ (y : Option DuplexConsensus). Puts (of_kind y) before after) (sym told) p in
        record {
          answered = ap Ok (sym told) ∙ ap (λ (y : Option Refusal). answer y (kind lab a b listed run)) (sym none);
          outputs = subst (λ (y : Option Refusal). LeavesBytes y (of_kind (kind lab a b listed run)) before after) (sym none) (puts_is put_all);
        }
