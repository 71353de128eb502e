-- What is promised of a call on bytes, by its tests of the run and of the byte counts, and by what the call below them answered.
--     seen_is                 what is looked at of a strand
--     narrow                  a strand that row 7 does not refuse has at most 1,024 positions an array
--     torn_down               refused by row 13, of the run
--     turned_down             refused by row 13 or 7, of the byte counts
--     passed_on               passed by them: the record of the numbers that were read, with its errors counted
-- Assumes nothing.
use mathlib.Core.Path.{◌≡◌, refl, sym, ap, subst, ◌∙◌}
use mathlib.Core.Bool.{Bool, true, false, cond, not, ◌&&◌, ◌||◌}
use mathlib.Core.List.{List}
use Prim.Native.Nat.{ℕ, ◌%◌}
use native.Mathlib.Omega.{arith}
use lib.Dec.{eqb}
use lib.ListN.{length}
use Rattle.std.proofs.Common.{Option, None, Some, Result, Ok, Err}
use Rattle.lists.specs.Part.{only_if}
use Rattle.refusals.specs.declared.Refusal.{Refusal}
use Rattle.refusals.specs.declared.Refusal.TheVariants.{Broken, TooLong}
use Rattle.refusals.specs.Refusal.{refused}
use Rattle.refusals.specs.Outcome.{answer}
use Rattle.refusals.proofs.Condition.{neither}
use Rattle.settings.specs.declared.GivenSettings.{GivenSettings}
use Rattle.byte_numbers.specs.Bytes.{number_of, odd_count}
use Rattle.byte_numbers.proofs.Groups.{length_by_group}
use Rattle.methylation.specs.Methylation.{is_annotated}
use Rattle.methylation.specs.declared.ConversionPattern.{ConversionPattern}
use Rattle.molecule_evidence.specs.Evidence.{mark_in, count_in}
use Rattle.molecule_fields.specs.Widths.{is_run}
use Rattle.molecule_reads.specs.Run.{reads_of}
use Rattle.duplex_outputs.specs.Outputs.{RecordArrays, LeavesRecord}
use Rattle.duplex_outputs.proofs.Outputs.{record_refused}
use Rattle.duplex_kind.specs.Kind.{given, kind_of, long}
use Rattle.duplex_kind.specs.declared.DuplexConsensus.{DuplexConsensus}
use Rattle.duplex_record.specs.Record.{duplex_refused, DuplexAs}
use Rattle.molecule_errors.specs.Run.{run_errors}
use Rattle.molecule_strand.specs.Rows.{misfit_in, numbers_in, long_in, early_faults}
use Rattle.molecule_strand.specs.Strand.{StrandBytes, strand_bytes, strand_of, pattern_held, bytes_held, encoded_in, Narrow}
use Rattle.molecule_strand.specs.declared.EncodedStrand.{EncodedStrand}
use Rattle.molecule_strand.proofs.Strand.{looked_at}
use Rattle.molecule_consensus.specs.Bytes.{seen, misfit, broken, bytes_refused, bytes_record, BytesAs}
use Rattle.molecule_consensus.proofs.Few.{not_long}

pub seen_is : (s : Option EncodedStrand) → seen (encoded_in s) ≡ looked_at (encoded_in s)
unfolding only_if
seen_is None = refl
seen_is (Some s) = refl

or_assoc : (p q r : Bool) → ((p || q) || r) ≡ (p || (q || r))
or_assoc true q r = refl
or_assoc false q r = refl

-- The tests look at nothing of an absent strand, nor at evidence without an annotation.
module _ where
  counted : (annotation : Option ConversionPattern) (d e v : List ℕ) →
      ((odd_count (length d) || odd_count (length e)) || (is_annotated annotation && not (eqb (length v % 9) 0)))
      ≡ (odd_count (length d) || (odd_count (length e) || not (eqb (length (only_if (is_annotated annotation) v) % 9) 0)))
  unfolding only_if
  counted None d e v = or_assoc (odd_count (length d)) (odd_count (length e)) false
  counted (Some pattern) d e v = or_assoc (odd_count (length d)) (odd_count (length e)) (not (eqb (length v % 9) 0))

  pub same_misfit : (s : Option EncodedStrand) → misfit_in (encoded_in s) ≡ misfit (seen (encoded_in s))
  unfolding only_if
  same_misfit None = refl
  same_misfit (Some s) = counted (pattern_held s.methylation) s.depths.now s.errors.now (bytes_held s.methylation)

  seen_long : (present : Bool) (annotation : Option ConversionPattern) (bases quals depths errors evidence : List ℕ) →
      let s = strand_bytes present annotation bases quals depths errors evidence in
      long_in s ≡ long_in (seen s)
  unfolding only_if
  seen_long false annotation bases quals depths errors evidence = refl
  seen_long true None bases quals depths errors evidence = refl
  seen_long true (Some pattern) bases quals depths errors evidence = refl

  -- Refusal 7 counts the numbers that the bytes are.
  of_numbers : (s : StrandBytes) → long_in s ≡ long (given (strand_of s))
  unfolding strand_of
  of_numbers s =
      rw
      (length_by_group 2 number_of s.depths, length_by_group 2 number_of s.errors, length_by_group 9 mark_in s.evidence, length_by_group 9 (count_in 1) s.evidence, length_by_group 9 (count_in 5) s.evidence)

  pub same_long : (s : StrandBytes) → long_in s ≡ long (given (strand_of (seen s)))
  same_long s = seen_long s.present s.annotation s.bases s.quals s.depths s.errors s.evidence ∙ of_numbers (seen s)

-- What is read of a strand that row 7 does not refuse is all of it.
narrow_of : (annotation : Option ConversionPattern) (bases quals depths errors evidence : List ℕ) →
    let s = strand_bytes true annotation bases quals depths errors evidence in
    long_in s ≡ false → Narrow (looked_at s)
unfolding only_if
narrow_of None bases quals depths errors evidence h =
    let all = (not_long (numbers_in (strand_bytes true None bases quals depths errors evidence)) h).0 in
    record { depths = all.1.1.0; errors = all.1.1.1.0; evidence = omega arith }
narrow_of (Some pattern) bases quals depths errors evidence h =
    let (all, more) = not_long (numbers_in (strand_bytes true (Some pattern) bases quals depths errors evidence)) h in
    record { depths = all.1.1.0; errors = all.1.1.1.0; evidence = more.0 }

pub narrow : (s : Option EncodedStrand) → long_in (encoded_in s) ≡ false → Narrow (looked_at (encoded_in s))
unfolding only_if
narrow None h = record { depths = omega arith; errors = omega arith; evidence = omega arith }
narrow (Some s) h = narrow_of (pattern_held s.methylation) s.bases.now s.quals.now s.depths.now s.errors.now (bytes_held s.methylation) h

-- A refusal by one of the first two rows is one whatever comes after.
abbrev two_rows : Bool → Bool → Option Refusal → Option Refusal
two_rows x l rest = cond x (Some Broken) (cond l (Some TooLong) rest)

first_two : (x l : Bool) (rest : Option Refusal) {row : Refusal} → answer (two_rows x l None) (tt {0}) ≡ Err row → two_rows x l rest ≡ Some row
first_two true l rest e = cc
first_two false true rest e = cc
first_two false false rest {row} e = absurd (no e)
  where
    no : ◌≡◌ {A = Result (Unit {0}) Refusal} (Ok tt) (Err row) → ⊥
    no q = cc

neither_row : {x : Unit {0}} (p l : Bool) → answer (two_rows p l None) (tt {0}) ≡ Ok x → (p ≡ false) × (l ≡ false)
neither_row {x} true l e = absurd (no e)
  where
    no : ◌≡◌ {A = Result (Unit {0}) Refusal} (Err Broken) (Ok x) → ⊥
    no q = cc
neither_row {x} false true e = absurd (no e)
  where
    no : ◌≡◌ {A = Result (Unit {0}) Refusal} (Err TooLong) (Ok x) → ⊥
    no q = cc
neither_row false false e = (refl, refl)

or_false : (p q : Bool) → (p || (q || false)) ≡ (p || q)
or_false true q = refl
or_false false true = refl
or_false false false = refl

or_true : (p q : Bool) → (p || (q || true)) ≡ true
or_true true q = refl
or_true false true = refl
or_true false false = refl

module _ (lab : GivenSettings) (a b : Option EncodedStrand) (listed : Bool) (run : List ℕ) (before : RecordArrays) where
  abbrev A : StrandBytes
  A = seen (encoded_in a)

  abbrev B : StrandBytes
  B = seen (encoded_in b)

  abbrev kind : Option DuplexConsensus
  kind = kind_of (strand_of A) (strand_of B)

  -- Refused with a row.
  down : (row : Refusal) → bytes_refused A B listed run before ≡ Some row → BytesAs lab A B listed run before before (Err row)
  down row e = record {
    answered = rw e;
    outputs = subst (λ (x : Option Refusal). LeavesRecord x (bytes_record lab A B listed run) before before) (sym e) (record_refused row (bytes_record lab A B listed run) before);
  }

  pub torn_down : (listed && not (is_run run)) ≡ true → BytesAs lab A B listed run before before (Err Broken)
  torn_down t =
      let met : broken A B listed run ≡ true = rw t (or_true (misfit A) (misfit B)) in
      down Broken (rw met)

  -- The list's run is whole.
  module _ (t : (listed && not (is_run run)) ≡ false) where
    met_is : (misfit_in (encoded_in a) || misfit_in (encoded_in b)) ≡ broken A B listed run
    met_is = rw (t, same_misfit a, same_misfit b) (sym (or_false (misfit A) (misfit B)))

    long_is : (long_in (encoded_in a) || long_in (encoded_in b)) ≡ (long (given (strand_of A)) || long (given (strand_of B)))
    long_is = rw (same_long (encoded_in a), same_long (encoded_in b))

    pub turned_down : {row : Refusal} → answer (refused (early_faults (encoded_in a) (encoded_in b))) (tt {0}) ≡ Err row → BytesAs lab A B listed run before before (Err row)
    turned_down {row} e = down row (first_two (broken A B listed run) (long (given (strand_of A)) || long (given (strand_of B))) _ (rw (met_is, long_is) at e))

    module _ {x : Unit {0}} (e : answer (refused (early_faults (encoded_in a) (encoded_in b))) (tt {0}) ≡ Ok x) where
      none_met : (broken A B listed run ≡ false) × ((long_in (encoded_in a) || long_in (encoded_in b)) ≡ false)
      none_met =
          let p = neither_row (misfit_in (encoded_in a) || misfit_in (encoded_in b)) (long_in (encoded_in a) || long_in (encoded_in b)) e in
          (sym met_is ∙ p.0, p.1)

      pub first_narrow : Narrow (looked_at (encoded_in a))
      first_narrow = narrow a (neither (long_in (encoded_in a)) (long_in (encoded_in b)) none_met.1).0

      pub second_narrow : Narrow (looked_at (encoded_in b))
      second_narrow = narrow b (neither (long_in (encoded_in a)) (long_in (encoded_in b)) none_met.1).1

      same_refused : duplex_refused (strand_of A) (strand_of B) listed (length (reads_of run)) false before ≡ bytes_refused A B listed run before
      same_refused = rw none_met.0

      pub passed_on : {now : RecordArrays} {r : Result (Option DuplexConsensus) Refusal} → DuplexAs lab (strand_of A) (strand_of B) listed (length (reads_of run)) false (run_errors (strand_of A) (strand_of B) run) before now r → BytesAs lab A B listed run before now r
      passed_on {now} d = record {
        answered = d.answered ∙ ap (λ (m : Option Refusal). answer m kind) same_refused;
        outputs = subst (λ (m : Option Refusal). LeavesRecord m (bytes_record lab A B listed run) before now) same_refused d.outputs;
      }
