-- What a call that writes a strand alone answers and leaves, by its refusal.
--     turned_down                  refused: every output is as it was
--     passed, has_room, written    not refused: each output has room for its array, and holds it
-- Assumes nothing.
use mathlib.Core.Path.{◌≡◌, sym, ◌∙◌}
use mathlib.Core.Bool.{true}
use Prim.Native.Nat.{ℕ, ◌≤◌}
use native.Mathlib.Omega.{arith}
use lib.ListN.{length}
use Rattle.std.proofs.Common.{Option, Some, None, Result, Ok, Err}
use Rattle.refusals.specs.declared.Refusal.{Refusal}
use Rattle.refusals.specs.Refusal.{refused}
use Rattle.refusals.specs.Outcome.{answer}
use Rattle.refusals.proofs.Claims.{none_lost}
use Rattle.refusals.proofs.Outcome.{refused_by, passed_by}
use Rattle.methylation.specs.Methylation.{is_annotated}
use Rattle.methylation.specs.declared.ConversionPattern.{ConversionPattern}
use Rattle.duplex_outputs.specs.declared.RecordLengths.{RecordLengths}
use Rattle.vanilla_caller.specs.Strand.{Arrays, lengths}
use Rattle.vanilla_caller.specs.declared.Lengths.{Lengths}
use Rattle.vanilla_caller.proofs.Strand.{even}
use Rattle.duplex_outputs.specs.Outputs.{RecordArrays, record_lengths}
use Rattle.duplex_outputs.proofs.Outputs.{roomy, record_refused, record_passed, PutsRecord}
use Rattle.duplex_single.specs.Single.{single_arrays, single_faults, single_refused, SingleAs}

module _ (annotation : Option ConversionPattern) (s : Arrays) (out : RecordArrays) where
  pub record Room : Type 0 where
    pub bases : length s.bases ≤ length out.bases
    pub quals : length s.quals ≤ length out.quals
    pub errors : length s.errors ≤ length out.errors
    pub marks : is_annotated annotation ≡ true → (length s.bases ≤ length s.evidence.marks) × (length s.bases ≤ length out.a.marks)
    pub unconverted : is_annotated annotation ≡ true → (length s.bases ≤ length s.evidence.unconverted) × (length s.bases ≤ length out.a.unconverted)
    pub converted : is_annotated annotation ≡ true → (length s.bases ≤ length s.evidence.converted) × (length s.bases ≤ length out.a.converted)

  room : single_refused annotation s out ≡ None → Room
  room z =
      let n = length s.bases in
      let clear = none_lost (single_faults (lengths annotation s) (record_lengths annotation None out)) z in
      let same = even annotation s clear.1.0 in
      let enough = roomy n annotation None out clear.1.1.0 in
      let there = same.evidence in
      let lent = enough.a in
      record {
        bases = enough.own.0;
        quals = omega (arith, same.own.0, enough.own.1.0);
        errors = omega (arith, same.own.1.1.0, enough.own.1.1.0);
        marks = λ k. (omega (arith, (there k).0), (lent k).0);
        unconverted = λ k. (omega (arith, (there k).1.0), (lent k).1.0);
        converted = λ k. (omega (arith, (there k).1.1.0), (lent k).1.1.0);
      }

-- By the lengths that the code has of the strand and of its outputs.
module _ (annotation : Option ConversionPattern) (s : Arrays) (before : RecordArrays) {t : Lengths} {out : RecordLengths} {r : Result (Unit {0}) Refusal} (long : t ≡ lengths annotation s) (lent : out ≡ record_lengths annotation None before) (tested : r ≡ answer (refused (single_faults t out)) tt) where
  by_arrays : r ≡ answer (single_refused annotation s before) tt
  by_arrays = rw (long, lent) at tested

  pub turned_down : {row : Refusal} {q : Result ℕ Refusal} → r ≡ Err row → q ≡ Err row → SingleAs annotation s before before q
  turned_down {row} h f =
      let z : single_refused annotation s before ≡ Some row = refused_by _ tt (sym by_arrays ∙ h) in
      record { answered = rw z f; outputs = rw z (record_refused row _ _) }

  module _ {x : Unit {0}} (h : r ≡ Ok x) where
    passed : single_refused annotation s before ≡ None
    passed = (passed_by _ tt (sym by_arrays ∙ h)).0

    pub has_room : Room annotation s before
    has_room = room annotation s before passed

    pub written : {now : RecordArrays} → PutsRecord (single_arrays annotation s) before now → SingleAs annotation s before now (Ok (length s.bases))
    written puts = record { answered = rw passed; outputs = rw passed (record_passed puts) }
