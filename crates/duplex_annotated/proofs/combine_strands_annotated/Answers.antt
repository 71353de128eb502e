-- `duplex_annotated::combine_strands_annotated` meets its contract: refused by its row, or each output written, where it has room. Assumes nothing.
use mathlib.Core.Path.{◌≡◌, refl, subst}
use mathlib.Core.Bool.{Bool}
use Prim.Native.Nat.{ℕ}
use Rattle.std.proofs.Common.{rules, Option, Ok}
use Rattle.std.proofs.lemmas.Result.{err_from_is_err_and}
use Rattle.refusals.specs.Outcome.{answer}
use Rattle.settings.specs.Settings.{given_of}
use Rattle.settings.specs.declared.GivenSettings.{GivenSettings}
use Rattle.methylation.specs.declared.ConversionPattern.{ConversionPattern}
use Rattle.methylation.specs.Outputs.{evidence_out}
use Rattle.vanilla_caller.specs.Strand.{Arrays, annotation_in, arrays_in, lengths}
use Rattle.duplex_molecule.specs.Molecule.{ct_input}
use Rattle.duplex_molecule.specs.declared.CtInput.{CtInput}
use Rattle.duplex_arrays.specs.Positions.{PositionsAs, ErrorsAs}
use Rattle.duplex_evidence.specs.Kept.{EvidenceAs}
use Rattle.duplex_evidence.proofs.Kept.{put_kept}
use Rattle.duplex_outputs.specs.Lent.{record_out}
use Rattle.duplex_outputs.specs.Outputs.{RecordArrays, record_of}
use Rattle.duplex_strands.specs.Combine.{common_length, combine_refused, CombinedAs, kept_marks, kept_unconverted, kept_converted}
use Rattle.duplex_strands.proofs.Room.{room, refused_as, combined_as, first_enough, second_enough}
use Rattle.duplex_annotated.proofs.combine_strands_annotated.Goals as goal

both_as :
    {lab : GivenSettings} {ct : CtInput} (ma : Option ConversionPattern) (a : Arrays) (mb : Option ConversionPattern) (b : Arrays) {listed : Bool} (before : RecordArrays) {now : RecordArrays} {n : ℕ}
    → Ok n ≡ answer (combine_refused ma a mb b before) (common_length (lengths ma a) (lengths mb b))
    → ct ≡ ct_input ma mb
    → PositionsAs lab.ceiling n ct a b before.bases before.quals now.bases now.quals
    → ErrorsAs listed n ct a b before.errors now.errors
    → EvidenceAs n ct a b ma a before.a now.a
    → EvidenceAs n ct a b mb b before.b now.b
    → CombinedAs lab (ct_input ma mb) ma a mb b listed before now (Ok n)
unfolding kept_marks kept_unconverted kept_converted
both_as {lab} {ct} ma a mb b {listed} before {now} {n} told meant positions errors first second =
    let r = room ma a mb b before told in
    subst (λ (x : CtInput). CombinedAs lab x ma a mb b listed before now (Ok n)) meant
    (combined_as told meant positions errors
    (record {
      marks = put_kept _ _ _ (first_enough r) first.marks;
      unconverted = put_kept _ _ _ (first_enough r) first.unconverted;
      converted = put_kept _ _ _ (first_enough r) first.converted;
    })
    (record {
      marks = put_kept _ _ _ (second_enough r) second.marks;
      unconverted = put_kept _ _ _ (second_enough r) second.unconverted;
      converted = put_kept _ _ _ (second_enough r) second.converted;
    }))

pub returns-in_err-n-clause-combined : goal.returns-in_err-n-clause-combined
returns-in_err-n-clause-combined c =
    let p = err_from_is_err_and c.from_residual.result c.from_residual.ensures.1 in
    let told = rw (c.lengths-room.ensures, c.and-for_a.ensures, c.and-for_b.ensures, c.annotation.ensures, c.annotation-2.ensures, c.lengths.ensures, c.lengths-2.ensures, c.lengths-3.ensures, c.lengths-4.ensures) at c.in_err-n.ensures in
    rw (p.1, p.2) (refused_as told refl)

pub returns-clause-combined : goal.returns-clause-combined
returns-clause-combined c =
    let told = rw (c.lengths-room.ensures, c.and-for_a.ensures, c.and-for_b.ensures, c.annotation.ensures, c.annotation-2.ensures, c.lengths.ensures, c.lengths-2.ensures, c.lengths-3.ensures, c.lengths-4.ensures) at c.in_ok-n.ensures in
    let a = c.args in
    let evidence_a = c.write_evidence.new.out in
    let evidence_b = c.write_evidence-2.new.out in
    let now = record_of c.write_positions.new.out.bases.now c.write_positions.new.out.quals.now c.write_errors.new.errors_out evidence_a.marks.now evidence_a.unconverted.now evidence_a.converted.now evidence_b.marks.now evidence_b.unconverted.now evidence_b.converted.now in
    let made : CombinedAs (given_of a.settings) (ct_input (annotation_in a.a) (annotation_in a.b)) (annotation_in a.a) (arrays_in a.a) (annotation_in a.b) (arrays_in a.b) a.listed (record_out a.out.now (evidence_out a.a_out.now) (evidence_out a.b_out.now)) now (Ok c.in_ok-n.n) =
    both_as _ _ _ _ _ told (rw (c.annotation-3.ensures, c.annotation-4.ensures) at c.ct_input-ct.ensures) c.write_positions.ensures.written c.write_errors.ensures c.write_evidence.ensures.written c.write_evidence-2.ensures.written in
    search (rules, made)
