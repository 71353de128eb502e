-- What the reads of a run are: proofs of specs/Claims.antt.
--     each_read, only_reads     of `EachRead` and `OnlyReads`
--     next_reads      of `NextReads`
--     only_these      fields that are reads, by the format's words
--     none_leaves     every read's part lies within the run, so that row 10 refuses none
--     told            of a run of reads, each has its field's flags, and its part holds the value after them
-- Assumes nothing.
use mathlib.Core.Path.{◌≡◌, refl, sym, ap, ap₂, ◌∙◌}
use mathlib.Core.Bool.{Bool, true, false, cond, not, ◌&&◌, ◌||◌}
use mathlib.Core.List.{List, [], ◌∷◌, map}
use Prim.Native.Nat.{ℕ, ◌+◌, ◌-◌, ◌≤◌}
use native.Mathlib.Omega.{arith}
use borrow.Author.Tests.{le-ltb, le-leb, leb-true, eq-eqb, eqb-true, not-true}
use lib.Dec.{eqb, leb}
use lib.ListN.{length, drop}
use Rattle.lists.specs.Every.{every}
use Rattle.lists.specs.Part.{leaves}
use Rattle.lists.proofs.Parts.{part_after}
use Rattle.refusals.proofs.Condition.{both_hold}
use Rattle.fields.specs.Encoding.{Field, encoded, Fields, fields, fields_of, whole_fields, cut_field, field_at}
use Rattle.fields.specs.Encoding.{FieldAt}
use Rattle.fields.proofs.Fields.{read_back, written}
use Rattle.fields.proofs.Walk.{BeginsAt, along}
use Rattle.molecule_fields.specs.Widths.{is_read, flags_of, bases_of, is_run}
use Rattle.source_reads.specs.Reads.{read_leaves, any_leaves}
use Rattle.source_reads.specs.declared.SourceRead.{SourceRead}
use Rattle.molecule_reads.specs.Run.{read_of, reads_from, reads_of}
use Rattle.molecule_reads.specs.Claims.{AllReads, said, shown, EachRead, OnlyReads, NextReads}
use Rattle.molecule_reads.proofs.Run.{run_end, run_broken, run_next}

-- One more read within a buffer of n bytes.
stays_too : (n : ℕ) (read : SourceRead) (reads : List SourceRead) → read_leaves n read ≡ false → any_leaves n reads ≡ false → any_leaves n (read ∷ reads) ≡ false
unfolding any_leaves
stays_too n read reads here later = ap (λ (b : Bool). b || any_leaves n reads) here ∙ later

module _ (run : List ℕ) where
  -- Of the reads from a place on.
  abbrev Within : ℕ → Type 0
  Within at = any_leaves (length run) (reads_from at (whole_fields (drop at run))) ≡ false

  module _ (at : ℕ) (f : FieldAt) (b : BeginsAt run at f) where
    abbrev rest : List Field
    rest = whole_fields (drop (f.offset + f.length) run)

    here : reads_from at (whole_fields (drop at run)) ≡ cond (is_read (field_at run f)) (read_of f.offset (field_at run f) ∷ reads_from (f.offset + f.length) rest) []
    unfolding reads_from
    here =
        let start : at + 3 ≡ f.offset = sym b.header in
        ap (λ (x : Fields). reads_from at x.whole_ones) b.fields_are ∙ rw (start, b.sized)

    two : is_read (field_at run f) ≡ true → 2 ≤ f.length
    two e = rw b.sized at (leb-true 2 (length (field_at run f).value) (both_hold (eqb f.tag 0x30) (leb 2 (length (field_at run f).value)) e).1)

    stays : is_read (field_at run f) ≡ true → read_leaves (length run) (read_of f.offset (field_at run f)) ≡ false
    unfolding read_leaves leaves
    stays e = rw b.sized (le-ltb (length run) (f.offset + 2 + (f.length - 2)) (omega (arith, two e, b.within)))

    within_whole : Within (f.offset + f.length) → Within at
    within_whole later = rw here (go (is_read (field_at run f)) refl later)
      where
        go : (t : Bool) → is_read (field_at run f) ≡ t → Within (f.offset + f.length) → any_leaves (length run) (cond t (read_of f.offset (field_at run f) ∷ reads_from (f.offset + f.length) rest) []) ≡ false
        go true t later = stays_too _ _ _ (stays t) later
        go false t later = unfold any_leaves in refl

  within_none : (at : ℕ) → whole_fields (drop at run) ≡ [] → Within at
  unfolding reads_from any_leaves
  within_none at e = rw e

  pub none_leaves : any_leaves (length run) (reads_of run) ≡ false
  unfolding reads_of
  none_leaves = along run Within within_none within_whole 0

  -- A read's flags and bases, and those of a field.
  abbrev seen : SourceRead → ℕ × List ℕ
  seen read = shown run read

  abbrev meant : Field → ℕ × List ℕ
  meant f = (flags_of f, bases_of f)

  abbrev Told : ℕ → Type 0
  Told at = is_run (drop at run) ≡ true → map seen (reads_from at (whole_fields (drop at run))) ≡ map meant (whole_fields (drop at run))

  told_none : (at : ℕ) → whole_fields (drop at run) ≡ [] → Told at
  unfolding reads_from
  told_none at e whole = rw e

  module _ (at : ℕ) (f : FieldAt) (b : BeginsAt run at f) where
    -- What is left of a run of reads after its first one.
    run_opened : is_run (drop at run) ≡ true → (is_read (field_at run f) ≡ true) × (is_run (drop (f.offset + f.length) run) ≡ true)
    unfolding is_run every
    run_opened whole =
        let others = whole_fields (drop (f.offset + f.length) run) in
        let uncut = not (cut_field (drop (f.offset + f.length) run)) in
        let opened : (uncut && (is_read (field_at run f) && every is_read others)) ≡ true = sym (ap (λ (x : Fields). not x.cut_one && every is_read x.whole_ones) b.fields_are) ∙ whole in
        let (a, c) = both_hold uncut (is_read (field_at run f) && every is_read others) opened in
        let (d, e) = both_hold (is_read (field_at run f)) (every is_read others) c in
        (d, rw (a, e))

    first_told : is_read (field_at run f) ≡ true → seen (read_of f.offset (field_at run f)) ≡ meant (field_at run f)
    first_told e =
        ap (λ (bases : List ℕ). (flags_of (field_at run f), bases)) (rw b.sized (part_after 2 f.offset f.length run (two at f b e) b.within))

    told_whole : Told (f.offset + f.length) → Told at
    told_whole later whole =
        let (one, left) = run_opened whole in
        let others = whole_fields (drop (f.offset + f.length) run) in
        let reads_are : reads_from at (whole_fields (drop at run)) ≡ read_of f.offset (field_at run f) ∷ reads_from (f.offset + f.length) others = rw one at (here at f b) in
        let fields_are : whole_fields (drop at run) ≡ field_at run f ∷ others = ap (λ (x : Fields). x.whole_ones) b.fields_are in
        ap (map seen) reads_are
        ∙ ap₂ (λ (x : ℕ × List ℕ) (xs : List (ℕ × List ℕ)). x ∷ xs) (first_told one) (later left)
        ∙ ap (map meant) (sym fields_are)

  pub told : is_run run ≡ true → map seen (reads_of run) ≡ map meant (whole_fields run)
  unfolding reads_of
  told = along run Told told_none told_whole 0

all_reads : (fs : List Field) → AllReads fs → every is_read fs ≡ true
unfolding every
all_reads [] all = refl
all_reads (f ∷ fs) all = rw (eq-eqb f.tag 0x30 all.0.0, le-leb 2 (length f.value) all.0.1) (all_reads fs all.1)

pub only_these : (fs : List Field) → every is_read fs ≡ true → AllReads fs
unfolding every
only_these [] e = tt
only_these (f ∷ fs) e =
    let (here, later) = both_hold (is_read f) (every is_read fs) e in
    let (tag, size) = both_hold (eqb f.tag 0x30) (leb 2 (length f.value)) here in
    ((eqb-true f.tag 0x30 tag, leb-true 2 (length f.value) size), only_these fs later)

pub each_read : EachRead
unfolding is_run flags_of
each_read fs short all =
    let are : fields_of (encoded fs) ≡ fields fs false = read_back fs short in
    let whole : (not (cut_field (encoded fs)) && every is_read (whole_fields (encoded fs))) ≡ true = ap (λ (x : Fields). not x.cut_one && every is_read x.whole_ones) are ∙ all_reads fs all in
    record {
      reads = told (encoded fs) whole ∙ ap (λ (x : Fields). map said x.whole_ones) are;
      whole = whole;
      stay = none_leaves (encoded fs);
    }

pub only_reads : OnlyReads
unfolding is_run
only_reads run small e =
    let (uncut, all) = both_hold (not (cut_field run)) (every is_read (whole_fields run)) e in
    (written run small (not-true (cut_field run) uncut), only_these (whole_fields run) all)

pub next_reads : NextReads
unfolding reads_of
next_reads = record {
  from_begin = λ run. refl;
  further = λ run at read e. (run_next run at e).left.reads_are;
  at_end = λ run at e. (run_end run at e).reads_are;
  at_break = λ run at refusal e. (run_broken run at e).0.reads_are;
}
