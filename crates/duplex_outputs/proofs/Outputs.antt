-- What a call that writes a record leaves in its outputs, by its refusal.
--     record_refused     refused: every output is as it was
--     record_passed      not refused: every output has its array written to its front
--     roomy              row 12 does not refuse: there is room for n positions, and for evidence where it goes
-- Assumes nothing.
use mathlib.Core.Path.{◌≡◌, refl}
use Rattle.std.proofs.Common.{Option, Some, None}
use mathlib.Core.Bool.{true, false}
use Prim.Native.Nat.{ℕ, ◌≤◌}
use Rattle.lists.specs.Output.{put}
use Rattle.refusals.specs.declared.Refusal.{Refusal}
use Rattle.refusals.specs.Refusal.{too_short}
use Rattle.refusals.proofs.Condition.{Every, neither, not_too_short}
use Rattle.methylation.specs.Arrays.{three, evidence_lengths, evidence_too_short, PutsEvidence}
use Rattle.methylation.specs.Methylation.{is_annotated}
use Rattle.methylation.specs.declared.ConversionPattern.{ConversionPattern}
use Rattle.methylation.proofs.Arrays.{evidence_refused, evidence_put, where_annotated}
use Rattle.duplex_outputs.specs.Outputs.{RecordArrays, own_lengths, record_lengths, record_too_short, LeavesRecord}

pub record_refused : (row : Refusal) (written before : RecordArrays) → LeavesRecord (Some row) written before before
record_refused row written before = record {
  bases = refl;
  quals = refl;
  errors = refl;
  a = evidence_refused row _ _;
  b = evidence_refused row _ _;
}

-- Every output has its array written to its front.
pub record PutsRecord (written before now : RecordArrays) : Type 0 where
  pub bases : now.bases ≡ put written.bases before.bases
  pub quals : now.quals ≡ put written.quals before.quals
  pub errors : now.errors ≡ put written.errors before.errors
  pub a : PutsEvidence written.a before.a now.a
  pub b : PutsEvidence written.b before.b now.b

pub record_passed : {written before now : RecordArrays} → PutsRecord written before now → LeavesRecord None written before now
record_passed p = record {
  bases = p.bases;
  quals = p.quals;
  errors = p.errors;
  a = evidence_put p.a;
  b = evidence_put p.b;
}

-- There is room for n positions, and for evidence where it goes.
pub record Roomy (n : ℕ) (for_a for_b : Option ConversionPattern) (out : RecordArrays) : Type 0 where
  pub own : Every (λ x. n ≤ x) (own_lengths (record_lengths for_a for_b out))
  pub a : is_annotated for_a ≡ true → Every (λ x. n ≤ x) (three (evidence_lengths out.a))
  pub b : is_annotated for_b ≡ true → Every (λ x. n ≤ x) (three (evidence_lengths out.b))

pub roomy : (n : ℕ) (for_a for_b : Option ConversionPattern) (out : RecordArrays) → record_too_short n (record_lengths for_a for_b out) ≡ false → Roomy n for_a for_b out
roomy n for_a for_b out h =
    let own = own_lengths (record_lengths for_a for_b out) in
    let (enough, others) = neither (too_short n own) _ h in
    let (first, second) = neither _ _ others in
    let test = evidence_too_short n in
    record {
      own = not_too_short n own enough;
      a = λ e. not_too_short n (three (evidence_lengths out.a)) (where_annotated test for_a out.a first e);
      b = λ e. not_too_short n (three (evidence_lengths out.b)) (where_annotated test for_b out.b second e);
    }
