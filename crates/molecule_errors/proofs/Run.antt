-- What a call leaves by the run that it is given.
--     listed_broken, listed_whole     what the list of a run says
--     refused_as, made_as      the record that was made, and the errors counted after it, are the record with the run's errors
-- Assumes nothing.
use mathlib.Core.Path.{◌≡◌, refl, sym, ap, subst, ◌∙◌}
use mathlib.Core.Bool.{Bool, true, false, cond, not, ◌&&◌}
use mathlib.Core.List.{List}
use Prim.Native.Nat.{ℕ}
use lib.ListN.{length}
use Rattle.std.proofs.Common.{Option, Some, None, Result, Ok, Err}
use Rattle.std.specs.Prelude.{is_some}
use Rattle.refusals.specs.declared.Refusal.{Refusal}
use Rattle.refusals.specs.declared.Refusal.TheVariants.{Broken}
use Rattle.refusals.specs.Outcome.{answer}
use Rattle.refusals.proofs.Outcome.{refused_by}
use Rattle.settings.specs.declared.GivenSettings.{GivenSettings}
use Rattle.molecule_fields.specs.Widths.{is_run}
use Rattle.duplex_outputs.specs.Outputs.{RecordArrays, LeavesRecord}
use Rattle.duplex_strands.specs.Combine.{uncounted}
use Rattle.duplex_kind.specs.Kind.{Strand, kind_of, count_in, leaving_in}
use Rattle.duplex_kind.specs.declared.DuplexConsensus.{DuplexConsensus}
use Rattle.duplex_kind.specs.declared.GivenReads.{GivenReads}
use Rattle.duplex_record.specs.Record.{record_arrays, duplex_refused, DuplexAs}
use Rattle.duplex_consensus.specs.Consensus.{combined_of, counted_positions}
use Rattle.duplex_consensus.proofs.Made.{with_errors, counted_as}
use Rattle.source_reads.specs.Reads.{any_leaves, counted_errors}
use Rattle.molecule_reads.specs.Run.{reads_of}
use Rattle.molecule_reads.proofs.Claims.{none_leaves}
use Rattle.molecule_errors.specs.Run.{listed, run_errors}

-- The list of a run that is not refused: its reads, where it is listed.
pub record Listed (there : Bool) (run : List ℕ) (list : Option GivenReads) : Type 0 where
  pub there_is : is_some list ≡ there
  pub count_is : count_in list ≡ cond there (length (reads_of run)) 0
  pub leaving_is : leaving_in list ≡ false

module _ (run : List ℕ) where
  abbrev of_run : Bool → Result (Option GivenReads) Refusal
  of_run whole = cond whole (Ok (Some (record { count = length (reads_of run); leaving = false }))) (Err Broken)

  broken_if : (whole : Bool) {row : Refusal} → of_run whole ≡ Err row → (not whole ≡ true) × (row ≡ Broken)
  broken_if true {row} e = absurd (no e)
    where
      no : {x : Option GivenReads} → ◌≡◌ {A = Result (Option GivenReads) Refusal} (Ok x) (Err row) → ⊥
      no q = cc
  broken_if false e = (refl, cc)

  whole_if : (whole : Bool) {list : Option GivenReads} → of_run whole ≡ Ok list → (not whole ≡ false) × Listed true run list
  whole_if true {list} e =
      let is : list ≡ Some (record { count = length (reads_of run); leaving = false }) = cc in
      (refl, rw is (record { there_is = refl; count_is = refl; leaving_is = refl }))
  whole_if false {list} e = absurd (no e)
    where
      no : ◌≡◌ {A = Result (Option GivenReads) Refusal} (Err Broken) (Ok list) → ⊥
      no q = cc

  pub listed_broken : (there : Bool) {row : Refusal} → listed there run ≡ Err row → ((there && not (is_run run)) ≡ true) × (row ≡ Broken)
  listed_broken true e = broken_if (is_run run) e
  listed_broken false {row} e = absurd (no e)
    where
      no : ◌≡◌ {A = Result (Option GivenReads) Refusal} (Ok None) (Err row) → ⊥
      no q = cc

  pub listed_whole : (there : Bool) {list : Option GivenReads} → listed there run ≡ Ok list → ((there && not (is_run run)) ≡ false) × Listed there run list
  listed_whole true e = whole_if (is_run run) e
  listed_whole false {list} e =
      let is : list ≡ None = cc in
      (refl, rw is (record { there_is = refl; count_is = refl; leaving_is = refl }))

-- Without a list no reads are counted, and their number refuses none.
of_list : (a b : Strand) (there : Bool) (n : ℕ) (before : RecordArrays) → duplex_refused a b there (cond there n 0) false before ≡ duplex_refused a b there n false before
of_list a b true n before = refl
of_list a b false n before = refl

module _ (lab : GivenSettings) (a b : Strand) {there : Bool} {run : List ℕ} {list : Option GivenReads} (l : Listed there run list) {before now : RecordArrays} {r : Result (Option DuplexConsensus) Refusal} where
  -- The record of the list that the code has, as the record of the run's reads.
  pub on_list : DuplexAs lab a b (is_some list) (count_in list) (leaving_in list) uncounted before now r → DuplexAs lab a b there (length (reads_of run)) false uncounted before now r
  on_list d =
      let e : DuplexAs lab a b there (cond there (length (reads_of run)) 0) false uncounted before now r = rw (l.there_is, l.count_is, l.leaving_is) at d in
      let same = of_list a b there (length (reads_of run)) before in
      record {
        answered = e.answered ∙ ap (λ (k : Option Refusal). answer k (kind_of a b)) same;
        outputs = subst (λ (k : Option Refusal). LeavesRecord k (record_arrays lab a b there uncounted (kind_of a b)) before now) same e.outputs;
      }

-- A record that was refused.
pub refused_as :
    (lab : GivenSettings) (a b : Strand) {there : Bool} {run : List ℕ} {list : Option GivenReads}
    → Listed there run list
    → {before now : RecordArrays} {row : Refusal}
    → DuplexAs lab a b (is_some list) (count_in list) (leaving_in list) uncounted before now (Err row)
    → DuplexAs lab a b there (length (reads_of run)) false (run_errors a b run) before now (Err row)
refused_as lab a b {there} {run} l {before} {now} {row} d =
    let e = on_list lab a b l d in
    let is : duplex_refused a b there (length (reads_of run)) false before ≡ Some row = refused_by _ _ (sym e.answered) in
    let o : LeavesRecord (Some row) (record_arrays lab a b there uncounted (kind_of a b)) before now = subst (λ (k : Option Refusal). LeavesRecord k (record_arrays lab a b there uncounted (kind_of a b)) before now) is e.outputs in
    record {
      answered = e.answered;
      outputs = subst (λ (k : Option Refusal). LeavesRecord k (record_arrays lab a b there (run_errors a b run) (kind_of a b)) before now) (sym is)
          (record {
            bases = o.bases;
            quals = o.quals;
            errors = o.errors;
            a = record { marks = o.a.marks; unconverted = o.a.unconverted; converted = o.a.converted };
            b = record { marks = o.b.marks; unconverted = o.b.unconverted; converted = o.b.converted };
          });
    }

none_leaves_listed : (there : Bool) (run : List ℕ) → false ≡ (there && any_leaves (length run) (reads_of run))
none_leaves_listed true run = sym (none_leaves run)
none_leaves_listed false run = refl

-- A record that was made, with its errors counted.
pub made_as :
    (lab : GivenSettings) (a b : Strand) {there : Bool} {run : List ℕ} {list : Option GivenReads}
    → Listed there run list
    → (before now : RecordArrays) {made : Option DuplexConsensus} {us : List ℕ}
    → DuplexAs lab a b (is_some list) (count_in list) (leaving_in list) uncounted before now (Ok made)
    → us ≡ counted_errors (reads_of run) run (combined_of a b (counted_positions {E = Refusal} there (Ok made))) now.errors
    → DuplexAs lab a b there (length (reads_of run)) false (run_errors a b run) before (with_errors us now) (Ok made)
made_as lab a b {there} {run} l before now {made} {us} d u =
    subst (λ (x : Bool). DuplexAs lab a b there (length (reads_of run)) x (run_errors a b run) before (with_errors us now) (Ok made)) (none_leaves run)
    (counted_as lab a b there (reads_of run) run before now (none_leaves_listed there run) (on_list lab a b l d) refl u)
