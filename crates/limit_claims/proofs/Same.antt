-- The claims of specs/Same.antt.
--     same_record, same_bytes     what two calls leave that would write the same
--     same_calls                  two calls of every entry, by limits that are told apart by no strand that 7 lets pass
--     same_within, as_at_1024, short_records, previewed_same, none_above_1024     the claims
-- Assumes nothing.
use mathlib.Core.Path.{◌≡◌, refl, sym, ap, ◌∙◌}
use mathlib.Core.Bool.{Bool, false, ◌||◌}
use mathlib.Core.List.{List}
use Prim.Native.Nat.{ℕ}
use native.Mathlib.Omega.{arith}
use Rattle.std.proofs.Common.{Option, Some, None}
use Rattle.refusals.specs.declared.Refusal.{Refusal}
use Rattle.refusals.specs.Outcome.{answer}
use Rattle.phred.specs.Phred.{ceiling_outside}
use Rattle.methylation.specs.Arrays.{EvidenceArrays}
use Rattle.methylation.specs.declared.ConversionPattern.{ConversionPattern}
use Rattle.replies.specs.Choices.{yes}
use Rattle.replies.specs.Replies.{count_reply}
use Rattle.replies.specs.declared.Count.{Count}
use Rattle.vanilla_caller.specs.Strand.{Arrays, lengths}
use Rattle.vanilla_caller.specs.declared.Lengths.{Lengths}
use Rattle.duplex_molecule.specs.declared.CtInput.{CtInput}
use Rattle.duplex_molecule.specs.declared.CtInput.TheVariants.{Neither}
use Rattle.duplex_outputs.specs.Outputs.{RecordArrays, LeavesRecord}
use Rattle.duplex_kind.specs.Kind.{given, long, kind_of}
use Rattle.duplex_kind.specs.Limit.{lengths_of, over_in}
use Rattle.duplex_reply.specs.Reply.{record_for}
use Rattle.duplex_reply.specs.Strand.{wrong_molecule, told_strand}
use Rattle.duplex_reply.specs.declared.DuplexRecord.{DuplexRecord}
use Rattle.molecule_strand.specs.Strand.{strand_of}
use Rattle.molecule_consensus.specs.Bytes.{broken}
use Rattle.c_record.specs.Outputs.{RecordBytes, record_bytes, LeavesBytes}
use Rattle.c_interface.specs.Entry.{wrong_molecule as wrong_encoded, entry_refused}
use Rattle.ceiling_claims.specs.Entries.{settings_of, AnnotatedEntry}
use Rattle.ceiling_claims.proofs.Entries.{same_limit, either_long, by_row}
use Rattle.ceiling_claims.proofs.Records.{same_evidence}
use Rattle.limit_claims.specs.Arrays.{Within}
use Rattle.limit_claims.specs.Same.{SameCall, SameCalls, SameWithin, AsAt1024, ShortRecords, Previewed, Any, NoneAbove1024}
use Rattle.limit_claims.proofs.Arrays.{within_more}

abbrev whole : List ℕ → List ℕ → List ℕ → EvidenceArrays → EvidenceArrays → RecordArrays
whole bases quals errors a b = record { bases = bases; quals = quals; errors = errors; a = a; b = b }

same_record : {row : Option Refusal} {written before now also : RecordArrays} → LeavesRecord row written before now → LeavesRecord row written before also → now ≡ also
same_record {row} {written} {before} {now} {also} l m =
    let bases = l.bases ∙ sym m.bases in
    let quals = l.quals ∙ sym m.quals in
    let errors = l.errors ∙ sym m.errors in
    let a = same_evidence row written.a before.a now.a also.a l.a m.a in
    let b = same_evidence row written.b before.b now.b also.b l.b m.b in
    let same : whole now.bases now.quals now.errors now.a now.b ≡ whole also.bases also.quals also.errors also.a also.b = cc in
    same

same_bytes : {row : Option Refusal} {written before now also : RecordBytes} → LeavesBytes row written before now → LeavesBytes row written before also → now ≡ also
same_bytes {now = now} {also = also} l m =
    let bases = l.bases ∙ sym m.bases in
    let quals = l.quals ∙ sym m.quals in
    let errors = l.errors ∙ sym m.errors in
    let evidence_a = l.evidence_a ∙ sym m.evidence_a in
    let evidence_b = l.evidence_b ∙ sym m.evidence_b in
    let same : record_bytes now.bases now.quals now.errors now.evidence_a now.evidence_b ≡ record_bytes also.bases also.quals also.errors also.evidence_a also.evidence_b = cc in
    same

-- The two limits say the same of strands that fit, but for those that 7 refuses.
module _
    (Fits : Option Lengths → Option Lengths → Type 0) (one other : ℕ)
    (alike :
    (a b : Option Lengths)
    → Fits a b
    → (over_in 1024 a || over_in 1024 b) ≡ false
    → (over_in one a || over_in one b) ≡ (over_in other a || over_in other b)) where
  module _ (ceiling : ℕ) (wrong : Bool) (ct : CtInput) (ma : Option ConversionPattern) (a : Arrays) (mb : Option ConversionPattern) (b : Arrays) (listed : Bool) {before now also : RecordArrays} {r s : Count} where
    same_combined :
        Fits (Some (lengths ma a)) (Some (lengths mb b))
        → AnnotatedEntry wrong (settings_of ceiling one) ct ma a mb b listed before now r
        → AnnotatedEntry wrong (settings_of ceiling other) ct ma a mb b listed before also s
        → SameCall now also r s
    same_combined fits x y =
        by_row (λ (now also : RecordArrays) (r s : Count). SameCall now also r s) (λ row. record { answer = refl; outputs = refl })
        (λ t u p q. record { answer = ap count_reply (p.answered ∙ sym q.answered); outputs = same_record p.outputs q.outputs })
        (same_limit wrong (ceiling_outside ceiling) false _ _ _ false false false false (alike (Some (lengths ma a)) (Some (lengths mb b)) fits)) x y

  same_calls : SameCalls Fits one other
  same_calls = record {
    typed = λ ceiling m a b reads bytes before now also r s fits x y.
        let first = told_strand m.a a in
        let second = told_strand m.b b in
        by_row (λ (now also : RecordArrays) (r s : DuplexRecord). SameCall now also r s) (λ row. record { answer = refl; outputs = refl })
        (λ t u p q. record { answer = ap record_for (p.answered ∙ sym q.answered); outputs = same_record p.outputs q.outputs })
        (same_limit (wrong_molecule m) (ceiling_outside ceiling) false _ _ _ false false false false (alike (lengths_of first) (lengths_of second) fits)) x y;
    annotated = λ ceiling wrong ct ma a mb b listed before now also r s fits x y. same_combined ceiling wrong ct ma a mb b listed fits x y;
    plain = λ ceiling a b listed before now also r s fits x y. same_combined ceiling false Neither None a None b listed fits x y;
    bytes = λ ceiling m a b run before now also r s fits x y.
        let first = strand_of a in
        let second = strand_of b in
        let row = λ (limit : ℕ). entry_refused (wrong_encoded m) (settings_of ceiling limit) a b (yes m.listed) run before in
        let same : row one ≡ row other =
        same_limit (wrong_encoded m) (ceiling_outside ceiling) (broken a b (yes m.listed) run) (long (given first) || long (given second)) _ _ _ _ _ _
        (λ short. alike (lengths_of first) (lengths_of second) fits (sym (either_long first second) ∙ short)) in
        record {
          answer = x.answered ∙ ap (λ (row : Option Refusal). record_for (answer row (kind_of first second))) same ∙ sym y.answered;
          outputs = same_bytes (rw same at x.outputs) y.outputs;
        };
  }

pub same_within : SameWithin
same_within most one other low high =
    same_calls (Within most) one other (λ a b w short. within_more most one low a b w ∙ sym (within_more most other high a b w))

pub as_at_1024 : AsAt1024
as_at_1024 limit h = same_within limit limit 1024 (omega arith) h

pub short_records : ShortRecords
short_records = as_at_1024 256 (omega arith)

pub previewed_same : Previewed
previewed_same m limit a b run before now also r s h k w x y =
    (same_within 256 _ limit (omega arith) k).bytes m.settings.ceiling m a b run before now also r s w x y

pub none_above_1024 : NoneAbove1024
none_above_1024 limit h = same_calls Any limit 1024 (λ a b fits short. within_more 1024 limit h a b short ∙ sym short)
