-- Laws of row 12 for a record as bytes.
--     Room, room_for        outputs that it does not refuse have room for what goes there
--     refused_is            what the code tests is its condition
-- Assumes nothing.
use mathlib.Core.Path.{◌≡◌, refl, sym, ap, ◌∙◌}
use mathlib.Core.Bool.{Bool, true, false}
use mathlib.Core.List.{[], ◌∷◌}
use Prim.Native.Nat.{ℕ, ◌/◌, ◌≤◌}
use native.Mathlib.Omega.{arith}
use lib.ListN.{length}
use Rattle.refusals.specs.declared.Refusal.TheVariants.{OutputTooShort}
use Rattle.refusals.specs.declared.Refusal.{Refusal}
use Rattle.refusals.specs.Refusal.{◌if◌, refused}
use Rattle.refusals.specs.Outcome.{answer, refused_if}
use Rattle.std.proofs.Common.{Option, Some, None, Result, Ok, Err}
use Rattle.methylation.specs.Arrays.{evidence_places}
use Rattle.methylation.specs.Methylation.{is_annotated}
use Rattle.methylation.specs.declared.ConversionPattern.{ConversionPattern}
use Rattle.byte_numbers.specs.Bytes.{number_of}
use Rattle.byte_numbers.proofs.Groups.{length_by_group}
use Rattle.molecule_evidence.specs.Evidence.{mark_in, count_in}
use Rattle.duplex_outputs.specs.Outputs.{record_lengths, record_too_short}
use Rattle.duplex_outputs.specs.declared.RecordLengths.{RecordLengths}
use Rattle.duplex_outputs.proofs.Outputs.{roomy}
use Rattle.c_record.specs.Outputs.{RecordBytes, as_arrays, short_for, outputs_refused, positions_in}
use Rattle.c_record.specs.declared.Written.{Written}

-- How many positions the outputs hold.
abbrev held : Written → RecordBytes → RecordLengths
held w out = positions_in w (length out.bases) (length out.quals) (length out.errors) (length out.evidence_a) (length out.evidence_b)

same_held : (w : Written) (out : RecordBytes) → record_lengths w.first w.second (as_arrays out) ≡ held w out
unfolding as_arrays
same_held w out =
    rw
    (length_by_group 2 number_of out.errors, length_by_group 9 mark_in out.evidence_a, length_by_group 9 (count_in 1) out.evidence_a, length_by_group 9 (count_in 5) out.evidence_a, length_by_group 9 mark_in out.evidence_b, length_by_group 9 (count_in 1) out.evidence_b, length_by_group 9 (count_in 5) out.evidence_b)

-- Outputs that row 12 does not refuse have room for what goes there.
pub record Room (w : Written) (out : RecordBytes) : Type 0 where
  pub bases : w.positions ≤ length out.bases
  pub quals : w.positions ≤ length out.quals
  pub errors : w.positions ≤ length out.errors / 2
  pub evidence_a : evidence_places w.first w.positions ≤ length out.evidence_a / 9
  pub evidence_b : evidence_places w.second w.positions ≤ length out.evidence_b / 9

places_fit : (annotation : Option ConversionPattern) {n k m : ℕ} → m ≡ k → (is_annotated annotation ≡ true → n ≤ m) → evidence_places annotation n ≤ k
places_fit None e h = omega arith
places_fit (Some pattern) e h = rw e at (h refl)

pub room_for : (w : Written) (out : RecordBytes) → short_for w (as_arrays out) ≡ false → Room w out
unfolding as_arrays
room_for w out h =
    let r = roomy w.positions w.first w.second (as_arrays out) h in
    record {
      bases = r.own.0;
      quals = r.own.1.0;
      errors = rw (length_by_group 2 number_of out.errors) at r.own.1.1.0;
      evidence_a = places_fit w.first (length_by_group 9 mark_in out.evidence_a) (λ e. (r.a e).0);
      evidence_b = places_fit w.second (length_by_group 9 mark_in out.evidence_b) (λ e. (r.b e).0);
    }

-- One row alone.
alone : (short : Bool) → refused_if short OutputTooShort ≡ answer (refused ((OutputTooShort if short) ∷ [])) tt
alone true = refl
alone false = refl

-- What the code tests is row 12's condition.
pub refused_is : (w : Written) (out : RecordBytes) {short : Bool} {r : Result (Unit {0}) Refusal} → short ≡ record_too_short w.positions (held w out) → r ≡ refused_if short OutputTooShort → r ≡ answer (outputs_refused w out) tt
refused_is w out {short} e f =
    let is : short ≡ short_for w (as_arrays out) = e ∙ ap (λ (l : RecordLengths). record_too_short w.positions l) (sym (same_held w out)) in
    f ∙ ap (λ (b : Bool). refused_if b OutputTooShort) is ∙ alone (short_for w (as_arrays out))
