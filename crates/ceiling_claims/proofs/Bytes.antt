-- The claims of specs/Bytes.antt.
--     is_13, is_14                 the row that refuses, by what it tests
--     refused_bytes, refused_as    a refusal writes nothing
--     byte_answers                 the number that is answered
--     lowered_bytes                a record that is written as bytes
--     tested_at_the_byte_entry, bytes_at_two     the claims
-- Assumes nothing.
use mathlib.Core.Path.{◌≡◌, refl, sym, ap, ◌∙◌}
use mathlib.Core.Bool.{Bool, true, false, ◌&&◌, ◌||◌, true≢false}
use mathlib.Core.List.{List, [], ◌∷◌}
use Prim.Native.Nat.{ℕ}
use lib.ListN.{length}
use Rattle.std.proofs.Common.{Option, Some, Ok}
use Rattle.refusals.specs.declared.Refusal.{Refusal}
use Rattle.refusals.specs.declared.Refusal.TheVariants.{Broken, CeilingOutside}
use Rattle.refusals.specs.Refusal.{too_many}
use Rattle.refusals.specs.Outcome.{answer, after}
use Rattle.phred.specs.Phred.{ceiling_outside}
use Rattle.byte_numbers.specs.Bytes.{bytes16}
use Rattle.methylation.specs.Arrays.{EvidenceArrays}
use Rattle.molecule_evidence.specs.Evidence.{evidence_bytes}
use Rattle.replies.specs.Choices.{yes}
use Rattle.duplex_outputs.specs.Outputs.{RecordArrays}
use Rattle.duplex_kind.specs.Kind.{given, long, uneven, kind_of}
use Rattle.duplex_kind.specs.Limit.{lengths_of, over_in}
use Rattle.duplex_reply.specs.Reply.{record_for}
use Rattle.duplex_reply.specs.declared.DuplexRecord.{DuplexRecord}
use Rattle.molecule_strand.specs.Strand.{StrandBytes, strand_of}
use Rattle.molecule_reads.specs.Run.{reads_of}
use Rattle.duplex_record.specs.Record.{outputs_short}
use Rattle.molecule_errors.specs.Run.{run_errors}
use Rattle.molecule_consensus.specs.Bytes.{broken, bytes_record}
use Rattle.c_record.specs.Outputs.{RecordBytes, record_bytes, as_bytes, as_arrays, LeavesBytes}
use Rattle.c_interface.specs.Entry.{wrong_molecule, entry_refused, ConsensusEntry}
use Rattle.c_interface.specs.declared.ToldEncodedMolecule.{ToldEncodedMolecule}
use Rattle.ceiling_claims.specs.Records.{of_two}
use Rattle.ceiling_claims.specs.Entries.{settings_of}
use Rattle.ceiling_claims.specs.Bytes.{AtTheByteEntry, TestedAtTheByteEntry, LoweredBytes, BytesAtTwo}
use Rattle.ceiling_claims.proofs.Records.{Lowering, Written, written_of, lowered_after, of_kind, made_written}
use Rattle.ceiling_claims.proofs.Entries.{below, above, within, both_within, row_of, same_ceiling, Answers, never_14, record_number, told_positions}

is_13 :
    (wrong outside broken long over uneven many leaving short : Bool)
    → (wrong || broken) ≡ true
    → row_of wrong outside broken long over uneven many leaving short ≡ Some Broken
is_13 true outside broken long over uneven many leaving short h = refl
is_13 false outside true long over uneven many leaving short h = refl
is_13 false outside false long over uneven many leaving short h = absurd (true≢false (sym h))

is_14 :
    (wrong outside broken long over uneven many leaving short : Bool)
    → (wrong || broken) ≡ false
    → outside ≡ true
    → row_of wrong outside broken long over uneven many leaving short ≡ Some CeilingOutside
is_14 true outside broken long over uneven many leaving short h e = absurd (true≢false h)
is_14 false outside true long over uneven many leaving short h e = absurd (true≢false h)
is_14 false outside false long over uneven many leaving short h e = rw e

-- A refusal writes nothing.
pub refused_bytes : {row : Refusal} {written before now : RecordBytes} {refusal : Option Refusal} → refusal ≡ Some row → LeavesBytes refusal written before now → now ≡ before
refused_bytes {before = before} {now = now} e l =
    let bases : now.bases ≡ before.bases = rw e at l.bases in
    let quals : now.quals ≡ before.quals = rw e at l.quals in
    let errors : now.errors ≡ before.errors = rw e at l.errors in
    let evidence_a : now.evidence_a ≡ before.evidence_a = rw e at l.evidence_a in
    let evidence_b : now.evidence_b ≡ before.evidence_b = rw e at l.evidence_b in
    let whole : record_bytes now.bases now.quals now.errors now.evidence_a now.evidence_b ≡ record_bytes before.bases before.quals before.errors before.evidence_a before.evidence_b = cc in
    whole

module _ (m : ToldEncodedMolecule) (a b : StrandBytes) (run : List ℕ) (before now : RecordBytes) (r : DuplexRecord) (x : ConsensusEntry m a b run before now r) where
  pub refused_as : {row : Refusal} → entry_refused (wrong_molecule m) m.settings a b (yes m.listed) run before ≡ Some row → (r ≡ record_for (answer (Some row) (kind_of (strand_of a) (strand_of b)))) × (now ≡ before)
  refused_as e = (x.answered ∙ ap (λ (row : Option Refusal). record_for (answer row (kind_of (strand_of a) (strand_of b)))) e, refused_bytes e x.outputs)

  pub byte_answers :
      Answers (wrong_molecule m) (ceiling_outside m.settings.ceiling) (broken a b (yes m.listed) run) (long (given (strand_of a)) || long (given (strand_of b)))
      (over_in m.settings.limit (lengths_of (strand_of a)) || over_in m.settings.limit (lengths_of (strand_of b))) r.refused
  byte_answers = record {
    uneven = uneven (given (strand_of a)) || uneven (given (strand_of b));
    many = yes m.listed && too_many (length (reads_of run) ∷ []);
    leaving = yes m.listed && false;
    short = outputs_short (strand_of a) (strand_of b) (as_arrays before) (kind_of (strand_of a) (strand_of b));
    is = ap (λ (d : DuplexRecord). d.refused) x.answered ∙ record_number _ (kind_of (strand_of a) (strand_of b));
  }

  at_the_byte_entry : AtTheByteEntry m a b run before now r
  at_the_byte_entry = record {
    broken = λ w. refused_as (is_13 (wrong_molecule m) (ceiling_outside m.settings.ceiling) (broken a b (yes m.listed) run) _ _ _ _ _ _ w);
    below = λ w h. refused_as (is_14 (wrong_molecule m) (ceiling_outside m.settings.ceiling) (broken a b (yes m.listed) run) _ _ _ _ _ _ w (below h));
    above = λ w h. refused_as (is_14 (wrong_molecule m) (ceiling_outside m.settings.ceiling) (broken a b (yes m.listed) run) _ _ _ _ _ _ w (above h));
    within = λ least most e. never_14 byte_answers (within least most) e;
  }

pub tested_at_the_byte_entry : TestedAtTheByteEntry
tested_at_the_byte_entry = at_the_byte_entry

-- What two calls leave that would write these arrays as bytes.
lowered_bytes :
    (row : Option Refusal) (ceiling n : ℕ) (x y : RecordArrays) {before lower higher : RecordBytes}
    → LeavesBytes row (as_bytes x) before lower
    → LeavesBytes row (as_bytes y) before higher
    → Written ceiling n x y
    → LoweredBytes ceiling (written_of row n) lower higher
lowered_bytes row ceiling n x y {before} {lower} {higher} l h w =
    let q : Lowering ceiling (written_of row n) lower.quals higher.quals = rw (l.quals, h.quals) (lowered_after row ceiling n x.quals y.quals before.quals w.quals) in
    record {
      bases = l.bases ∙ ap (λ (xs : List ℕ). after row xs before.bases) w.bases ∙ sym h.bases;
      quals = q.lowered;
      errors = l.errors ∙ ap (λ (xs : List ℕ). after row (bytes16 xs) before.errors) w.same.errors ∙ sym h.errors;
      evidence_a = l.evidence_a ∙ ap (λ (e : EvidenceArrays). after row (evidence_bytes e.marks e.unconverted e.converted) before.evidence_a) w.same.evidence_a ∙ sym h.evidence_a;
      evidence_b = l.evidence_b ∙ ap (λ (e : EvidenceArrays). after row (evidence_bytes e.marks e.unconverted e.converted) before.evidence_b) w.same.evidence_b ∙ sym h.evidence_b;
    }

pub bytes_at_two : BytesAtTwo
bytes_at_two lower higher limit m a b run before at_lower at_higher r s c x y =
    let by = λ (ceiling : ℕ). settings_of ceiling limit in
    let kind = kind_of (strand_of a) (strand_of b) in
    let row = entry_refused (wrong_molecule m) (by higher) a b (yes m.listed) run before in
    let same : entry_refused (wrong_molecule m) (by lower) a b (yes m.listed) run before ≡ row =
    same_ceiling (wrong_molecule m) (broken a b (yes m.listed) run) _ _ _ _ _ _ (both_within c) in
    let written = of_kind (by lower) (by higher) c (yes m.listed) (run_errors (strand_of a) (strand_of b) run) (strand_of a) (strand_of b) kind in (
      x.answered ∙ ap (λ (row : Option Refusal). record_for (answer row kind)) same ∙ sym y.answered,
      rw (x.answered, told_positions, same, made_written row kind)
          (lowered_bytes row _ (of_two (Ok kind)) (bytes_record (by lower) a b (yes m.listed) run) (bytes_record (by higher) a b (yes m.listed) run) (rw same at x.outputs) y.outputs written),
    )
