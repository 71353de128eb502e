-- Where combining is not refused, the arrays reach as far as the record, and the outputs have room for it.
--     room                                        of each length
--     refused_as, combined_as                     what a call that combines answers and leaves
--     called_enough                               for base and quality
--     errors_enough, first_enough, second_enough  for the errors, and for the evidence of A and of B
-- Assumes nothing.
use mathlib.Core.Path.{◌≡◌, refl, sym, subst, ◌∙◌}
use mathlib.Core.Bool.{Bool, true, false, true≢false}
use mathlib.Core.List.{[], ◌∷◌}
use Prim.Native.Nat.{ℕ, ◌≤◌}
use lib.ListN.{length}
use native.Mathlib.Omega.{arith}
use Rattle.refusals.specs.declared.Refusal.{Refusal}
use Rattle.refusals.specs.Outcome.{answer}
use Rattle.refusals.proofs.Outcome.{refused_by, passed_by}
use Rattle.refusals.proofs.Claims.{none_lost}
use Rattle.refusals.proofs.Condition.{Every, neither}
use Rattle.settings.specs.declared.GivenSettings.{GivenSettings}
use Rattle.methylation.specs.Arrays.{three, evidence_lengths, PutsEvidence}
use Rattle.methylation.specs.Methylation.{is_annotated}
use Rattle.methylation.specs.declared.ConversionPattern.TheVariants.{CToT, GToA}
use Rattle.vanilla_caller.specs.Strand.{Arrays, lengths, strand_ragged}
use Rattle.vanilla_caller.proofs.Strand.{even}
use Rattle.duplex_molecule.specs.Molecule.{ct_input, can_call}
use Rattle.duplex_molecule.specs.declared.CtInput.{CtInput}
use Rattle.duplex_arrays.specs.Positions.{arrays_short, positions_short, errors_short, PositionsAs, ErrorsAs}
use Rattle.duplex_arrays.proofs.Short.{long_enough, put_all}
use Rattle.duplex_outputs.specs.Outputs.{RecordArrays, LeavesRecord, record_lengths}
use Rattle.duplex_outputs.proofs.Outputs.{Roomy, roomy, PutsRecord, record_refused, record_passed}
use Rattle.duplex_strands.specs.Combine.{common_length, kept_evidence, both_arrays, uncounted, combine_faults, combine_refused, CombinedAs}
use Rattle.std.proofs.Common.{None, Some, Option, Result, Ok, Err}
use Rattle.methylation.specs.declared.ConversionPattern.{ConversionPattern}

-- A strand reaches n positions, and where it is annotated its evidence does.
record Reaches (m : Option ConversionPattern) (s : Arrays) (n : ℕ) : Type 0 where
  bases : n ≤ length s.bases
  quals : n ≤ length s.quals
  depths : n ≤ length s.depths
  errors : n ≤ length s.errors
  evidence : is_annotated m ≡ true → (n ≤ length s.evidence.marks) × (n ≤ length s.evidence.unconverted) × (n ≤ length s.evidence.converted)

pub record Room (ma : Option ConversionPattern) (a : Arrays) (mb : Option ConversionPattern) (b : Arrays) (out : RecordArrays) (n : ℕ) : Type 0 where
  strand_a : Reaches ma a n
  strand_b : Reaches mb b n
  outputs : Roomy n ma mb out

reaches : (m : Option ConversionPattern) (s : Arrays) (n : ℕ) → n ≤ length s.bases → strand_ragged (lengths m s) ≡ false → Reaches m s n
reaches m s n h e =
    let same = even m s e in
    record {
      bases = h;
      quals = omega (arith, same.own.0);
      depths = omega (arith, same.own.1.0);
      errors = omega (arith, same.own.1.1.0);
      evidence = λ k.
          let all = same.evidence k in
          (omega (arith, all.0), omega (arith, all.1.0), omega (arith, all.1.1.0));
    }

module _ (ma : Option ConversionPattern) (a : Arrays) (mb : Option ConversionPattern) (b : Arrays) (out : RecordArrays) where
  abbrev common : ℕ
  common = common_length (lengths ma a) (lengths mb b)

  common_room : combine_refused ma a mb b out ≡ None → Room ma a mb b out common
  common_room e =
      let (long, (uneven, (short, none))) = none_lost (combine_faults (lengths ma a) (lengths mb b) (record_lengths ma mb out)) e in
      let (even_a, even_b) = neither (strand_ragged (lengths ma a)) (strand_ragged (lengths mb b)) uneven in
      record {
        strand_a = reaches ma a common (omega arith) even_a;
        strand_b = reaches mb b common (omega arith) even_b;
        outputs = roomy common ma mb out short;
      }

  -- What a call goes on with.
  pub room : {n : ℕ} → Ok n ≡ answer (combine_refused ma a mb b out) common → Room ma a mb b out n
  room h =
      let (none, same) = passed_by _ _ (sym h) in
      subst (λ (m : ℕ). Room ma a mb b out m) same (common_room none)

module _ {lab : GivenSettings} {ct : CtInput} {ma : Option ConversionPattern} {a : Arrays} {mb : Option ConversionPattern} {b : Arrays} {listed : Bool} {before : RecordArrays} where
  pub refused_as :
      {e : Refusal} {r : Result ℕ Refusal}
      → Err e ≡ answer (combine_refused ma a mb b before) (common_length (lengths ma a) (lengths mb b))
      → r ≡ Err e
      → CombinedAs lab ct ma a mb b listed before before r
  refused_as {e} h same = record {
    answered = same ∙ h;
    outputs = subst (λ (row : Option Refusal). LeavesRecord row (both_arrays lab listed uncounted (common_length (lengths ma a) (lengths mb b)) ct ma a mb b) before before) (sym (refused_by _ _ (sym h))) (record_refused e _ before);
  }

  written_as :
      {n : ℕ} {now : RecordArrays}
      → Ok n ≡ answer (combine_refused ma a mb b before) (common_length (lengths ma a) (lengths mb b))
      → PutsRecord (both_arrays lab listed uncounted n ct ma a mb b) before now
      → CombinedAs lab ct ma a mb b listed before now (Ok n)
  written_as {n} {now} h puts =
      let (none, same) = passed_by _ _ (sym h) in
      let at_n : LeavesRecord (combine_refused ma a mb b before) (both_arrays lab listed uncounted n ct ma a mb b) before now =
      subst (λ (row : Option Refusal). LeavesRecord row (both_arrays lab listed uncounted n ct ma a mb b) before now) (sym none) (record_passed puts) in
      record {
        answered = h;
        outputs = subst (λ (m : ℕ). LeavesRecord (combine_refused ma a mb b before) (both_arrays lab listed uncounted m ct ma a mb b) before now) (sym same) at_n;
      }

-- There may be calls only where both strands are annotated.
both_annotated : (ma mb : Option ConversionPattern) → can_call (ct_input ma mb) ≡ true → (is_annotated ma ≡ true) × (is_annotated mb ≡ true)
unfolding ct_input
both_annotated None mb e = absurd (true≢false (sym e))
both_annotated (Some p) None e = absurd (true≢false (sym e))
both_annotated (Some CToT) (Some CToT) e = absurd (true≢false (sym e))
both_annotated (Some CToT) (Some GToA) e = (refl, refl)
both_annotated (Some GToA) (Some CToT) e = (refl, refl)
both_annotated (Some GToA) (Some GToA) e = absurd (true≢false (sym e))

never : {P : Type 0} → false ≡ true → P
never e = absurd (true≢false (sym e))

module _ {ma : Option ConversionPattern} {a : Arrays} {mb : Option ConversionPattern} {b : Arrays} {out : RecordArrays} {n : ℕ} (r : Room ma a mb b out n) where
  positions : Every (λ x. n ≤ x) (length a.bases ∷ length a.quals ∷ length b.bases ∷ length b.quals ∷ length out.bases ∷ length out.quals ∷ [])
  positions = (r.strand_a.bases, (r.strand_a.quals, (r.strand_b.bases, (r.strand_b.quals, (r.outputs.own.0, (r.outputs.own.1.0, tt))))))

  pub called_enough : {ct : CtInput} → ct ≡ ct_input ma mb → positions_short n ct a b out.bases out.quals ≡ false
  called_enough e =
      rw e
      (long_enough n (can_call (ct_input ma mb)) _ _
      (λ k.
      let (in_a, in_b) = both_annotated ma mb k in
      ((r.strand_a.evidence in_a).0, ((r.strand_b.evidence in_b).0, tt)))
      positions)

  pub errors_enough : errors_short n a b out.errors ≡ false
  errors_enough =
      let s = r.strand_a in
      let t = r.strand_b in
      long_enough n false _ _ never
      (s.bases, (s.quals, (s.depths, (s.errors, (t.bases, (t.quals, (t.depths, (t.errors, (r.outputs.own.1.1.0, tt)))))))))

  pub first_enough :
      is_annotated ma ≡ true
      → arrays_short n false [] (length a.bases ∷ length b.bases ∷ length a.evidence.unconverted ∷ length a.evidence.converted ∷ three (evidence_lengths out.a)) ≡ false
  first_enough k =
      let s = r.strand_a.evidence k in
      long_enough n false _ _ never (r.strand_a.bases, (r.strand_b.bases, (s.1, (s.2, r.outputs.a k))))

  pub second_enough :
      is_annotated mb ≡ true
      → arrays_short n false [] (length a.bases ∷ length b.bases ∷ length b.evidence.unconverted ∷ length b.evidence.converted ∷ three (evidence_lengths out.b)) ≡ false
  second_enough k =
      let s = r.strand_b.evidence k in
      long_enough n false _ _ never (r.strand_a.bases, (r.strand_b.bases, (s.1, (s.2, r.outputs.b k))))

-- What a call answers and leaves whose arrays and errors are written, and the evidence of A and of B.
module _ {lab : GivenSettings} {ct : CtInput} {ma : Option ConversionPattern} {a : Arrays} {mb : Option ConversionPattern} {b : Arrays} {listed : Bool} {before now : RecordArrays} {n : ℕ} where
  pub combined_as :
      Ok n ≡ answer (combine_refused ma a mb b before) (common_length (lengths ma a) (lengths mb b))
      → ct ≡ ct_input ma mb
      → PositionsAs lab.ceiling n ct a b before.bases before.quals now.bases now.quals
      → ErrorsAs listed n ct a b before.errors now.errors
      → PutsEvidence (kept_evidence n ct a b ma a) before.a now.a
      → PutsEvidence (kept_evidence n ct a b mb b) before.b now.b
      → CombinedAs lab ct ma a mb b listed before now (Ok n)
  combined_as told meant positions errors first second =
      let r = room ma a mb b before told in
      written_as told (record {
        bases = put_all _ _ (called_enough r meant) positions.bases_now;
        quals = put_all _ _ (called_enough r meant) positions.quals_now;
        errors = put_all _ _ (errors_enough r) errors;
        a = first;
        b = second;
      })
