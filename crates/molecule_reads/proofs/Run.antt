-- A walk over the reads of a run, from one `next_read` to the next: what its answer at a place says of the reads from there on.
--     run_end, run_broken     there are none, and the run is whole or broken
--     run_next                a read, and the reads from the next place on
--     next_further, next_within     the next place, which lies further on and within the run
-- Assumes nothing.
use mathlib.Core.Path.{◌≡◌, refl, sym, ap, ◌∙◌}
use borrow.Author.Tests.{leb-true}
use lib.Dec.{eqb, leb}
use Rattle.std.proofs.Common.{Option, Some, None, Result, Ok, Err}
use Rattle.refusals.proofs.Condition.{both_hold}
use mathlib.Core.Bool.{Bool, true, false, cond, not, ◌&&◌}
use mathlib.Core.List.{List, [], ◌∷◌}
use Prim.Native.Nat.{ℕ, ◌+◌, ◌-◌, ◌≤◌, ◌<◌}
use native.Mathlib.Omega.{arith}
use lib.ListN.{length, drop}
use Rattle.lists.specs.Every.{every}
use Rattle.fields.specs.Encoding.{Field, Fields, fields, fields_of, whole_fields, cut_field, next_field, field_at}
use Rattle.fields.specs.Encoding.{FieldAt}
use Rattle.refusals.specs.declared.Refusal.{Refusal}
use Rattle.refusals.specs.declared.Refusal.TheVariants.{Broken}
use Rattle.fields.proofs.Walk.{BeginsAt, at_end, at_cut, cut_is_broken, at_whole}
use Rattle.molecule_fields.specs.Widths.{is_read, is_run}
use Rattle.source_reads.specs.declared.SourceRead.{SourceRead}
use Rattle.molecule_reads.specs.Run.{read_of, reads_from, read_at, next_read}

-- What a walk finds from a place on.
pub record Left (run : List ℕ) (at : ℕ) (reads : List SourceRead) (whole : Bool) : Type 0 where
  pub reads_are : reads_from at (whole_fields (drop at run)) ≡ reads
  pub whole_is : is_run (drop at run) ≡ whole

-- The same, given the fields from there on.
left_of :
    (run : List ℕ) (at : ℕ) (fs : List Field) (left : Bool)
    → fields_of (drop at run) ≡ fields fs left
    → Left run at (reads_from at fs) (not left && every is_read fs)
unfolding is_run
left_of run at fs left e = record {
  reads_are = ap (λ (x : Fields). reads_from at x.whole_ones) e;
  whole_is = ap (λ (x : Fields). not x.cut_one && every is_read x.whole_ones) e;
}

and_false : (b : Bool) → (b && false) ≡ false
and_false true = refl
and_false false = refl

module _ (run : List ℕ) (at : ℕ) where
  -- A read begins at the place, and the next one behind it.
  pub record ReadsOn (read : SourceRead) : Type 0 where
    pub further : at < read.offset + read.length
    pub within : read.offset + read.length ≤ length run
    pub left : Left run at (read ∷ reads_from (read.offset + read.length) (whole_fields (drop (read.offset + read.length) run))) (is_run (drop (read.offset + read.length) run))

  module _ (f : FieldAt) (b : BeginsAt run at f) where
    abbrev next : ℕ
    next = f.offset + f.length

    abbrev rest : List Field
    rest = whole_fields (drop next run)

    begun : Left run at (reads_from at (field_at run f ∷ rest)) (not (cut_field (drop next run)) && every is_read (field_at run f ∷ rest))
    begun = left_of run at (field_at run f ∷ rest) (cut_field (drop next run)) b.fields_are

    no_read : is_read (field_at run f) ≡ false → Left run at [] false
    unfolding reads_from every
    no_read e = record {
      reads_are = begun.reads_are ∙ rw e;
      whole_is = begun.whole_is ∙ rw e (and_false (not (cut_field (drop next run))));
    }

    -- The flags are two bytes of the value.
    behind : is_read (field_at run f) ≡ true → f.offset + 2 + (length (field_at run f).value - 2) ≡ next
    behind e =
        let flagged = leb-true 2 (length (field_at run f).value) (both_hold (eqb f.tag 0x30) (leb 2 (length (field_at run f).value)) e).1 in
        omega (arith, b.sized)

    a_read : is_read (field_at run f) ≡ true → ReadsOn (read_of f.offset (field_at run f))
    unfolding reads_from every is_run
    a_read e =
        let start : at + 3 ≡ f.offset = sym b.header in
        let then = behind e in
        record {
          further = omega (arith, b.header, then);
          within = omega (arith, b.within, then);
          left = rw then
              (record {
                reads_are = begun.reads_are ∙ rw (e, start, b.sized);
                whole_is = begun.whole_is ∙ rw e;
              });
        }

  -- What is known of the reads from a place on, by what begins there.
  abbrev Told : Result (Option SourceRead) Refusal → Type 0
  Told (Ok None) = Left run at [] true
  Told (Ok (Some read)) = ReadsOn read
  Told (Err refusal) = Left run at [] false × (refusal ≡ Broken)

  told : Told (next_read run at)
  unfolding next_read reads_from every
  told = go (next_field run at) refl
    where
      go : (r : Result (Option FieldAt) Refusal) → next_field run at ≡ r → Told (read_at run r)
      go (Ok None) e = left_of run at [] false (at_end run at e)
      go (Err refusal) e = (left_of run at [] true (at_cut run at e), cut_is_broken run at e)
      go (Ok (Some f)) e = by_test (is_read (field_at run f)) refl
        where
          by_test : (t : Bool) → is_read (field_at run f) ≡ t → Told (cond t (Ok (Some (read_of f.offset (field_at run f)))) (Err Broken))
          by_test true t = a_read f (at_whole run at e) t
          by_test false t = (no_read f (at_whole run at e) t, refl)

  pub run_end : next_read run at ≡ Ok None → Left run at [] true
  run_end e = rw e at told

  pub run_broken : {refusal : Refusal} → next_read run at ≡ Err refusal → Left run at [] false × (refusal ≡ Broken)
  run_broken e = rw e at told

  pub run_next : {read : SourceRead} → next_read run at ≡ Ok (Some read) → ReadsOn read
  run_next e = rw e at told

  pub next_further : {read : SourceRead} → next_read run at ≡ Ok (Some read) → at < read.offset + read.length
  next_further e = (run_next e).further

  pub next_within : {read : SourceRead} → next_read run at ≡ Ok (Some read) → read.offset + read.length ≤ length run
  next_within e = (run_next e).within
