-- What a call of `padded` answers and leaves, by its refusal.
--     turned_down           refused: every output is as it was
--     passed, has_room      not refused: each array goes up to the new length and each output has room
--     all_fits              evidence is written where the annotation is kept
-- Assumes nothing.
use mathlib.Core.Path.{◌≡◌, refl, sym, ap, ◌∙◌}
use mathlib.Core.Bool.{Bool, true, false, cond}
use mathlib.Core.List.{List, map}
use Prim.Native.Nat.{ℕ, ◌≤◌}
use native.Mathlib.Omega.{arith}
use borrow.Author.Tests.{ltb-false, eqb-true}
use lib.Dec.{eqb}
use lib.ListN.{length, take, length-map}
use Rattle.std.proofs.Common.{Option, Some, None, Result, Ok, Err}
use Rattle.lists.specs.Output.{put}
use Rattle.lists.specs.Part.{only_if}
use Rattle.lists.proofs.Output.{put_fitting}
use Rattle.refusals.specs.declared.Refusal.{Refusal}
use Rattle.refusals.specs.Refusal.{refused}
use Rattle.refusals.specs.Outcome.{answer}
use Rattle.refusals.proofs.Claims.{none_lost}
use Rattle.refusals.proofs.Outcome.{refused_by, passed_by}
use Rattle.refusals.proofs.Condition.{Every}
use Rattle.methylation.specs.Arrays.{EvidenceArrays, evidence_arrays, three, evidence_lengths, PutsEvidence}
use Rattle.methylation.specs.Methylation.{is_annotated}
use Rattle.methylation.specs.declared.ConversionPattern.{ConversionPattern}
use Rattle.methylation.specs.Annotation.{evidence_held}
use Rattle.vanilla_caller.specs.Strand.{Arrays, annotation_in, plain, lengths, mark}
use Rattle.vanilla_caller.specs.declared.VanillaConsensusRead.{VanillaConsensusRead}
use Rattle.vanilla_padded.specs.Lent.{kept_of}
use Rattle.vanilla_caller.specs.declared.Lengths.{Lengths}
use Rattle.vanilla_caller.proofs.Strand.{Even, even, roomy, leaves_refused, Puts, leaves_passed}
use Rattle.vanilla_padded.specs.Padding.{Padding, kept, padded_arrays, padded_faults, padded_refused, PaddedAs}

module _ (annotation : Option ConversionPattern) (s : Arrays) (p : Padding) (out : Arrays) where
  abbrev n : ℕ
  n = p.new_length

  abbrev there : Option ConversionPattern
  there = kept annotation (length s.bases) n

  pub record Room : Type 0 where
    pub bases : (length s.bases ≤ n) × (n ≤ length out.bases)
    pub quals : (length s.quals ≤ n) × (n ≤ length out.quals)
    pub depths : (length s.depths ≤ n) × (n ≤ length out.depths)
    pub errors : (length s.errors ≤ n) × (n ≤ length out.errors)
    pub evidence : is_annotated there ≡ true → (length s.evidence.marks ≤ length out.evidence.marks) × (length s.evidence.unconverted ≤ length out.evidence.unconverted) × (length s.evidence.converted ≤ length out.evidence.converted)

  -- An annotation is kept of a strand that has one, and has n positions.
  of_kept : (same : Bool) (m : Option ConversionPattern) → is_annotated (cond same m None) ≡ true → (is_annotated m ≡ true) × (same ≡ true)
  of_kept true m h = (h, refl)
  of_kept false m h = absurd cc

  -- Where evidence is written, its arrays have n elements.
  same_length : Even annotation s → is_annotated there ≡ true → Every (λ x. x ≡ n) (three (evidence_lengths s.evidence))
  same_length same h =
      let (here, equal) = of_kept (eqb (length s.bases) n) annotation h in
      let as_long : length s.bases ≡ n = eqb-true (length s.bases) n equal in
      rw as_long at (same.evidence here)

  pub room : padded_refused annotation s p out ≡ None → Room
  room z =
      let clear = none_lost (padded_faults (lengths annotation s) n (lengths there out)) z in
      let same = even annotation s clear.1.0 in
      let fits = ltb-false n (length s.bases) clear.1.1.0 in
      let enough = roomy n there out clear.1.1.1.0 in
      record {
        bases = (fits, enough.own.0);
        quals = (omega (arith, same.own.0), enough.own.1.0);
        depths = (omega (arith, same.own.1.0), enough.own.1.1.0);
        errors = (omega (arith, same.own.1.1.0), enough.own.1.1.1.0);
        evidence = λ k.
            let own = same_length same k in
            let lent = enough.evidence k in
            (omega (arith, own.0, lent.0), omega (arith, own.1.0, lent.1.0), omega (arith, own.1.1.0, lent.1.1.0));
      }

module _ (annotation : Option ConversionPattern) (s : Arrays) (p : Padding) (before : Arrays) {t out : Lengths} {k : Option ConversionPattern} {r : Result (Unit {0}) Refusal} (long : t ≡ lengths annotation s) (is : k ≡ kept annotation (length s.bases) p.new_length) (lent : out ≡ lengths k before) (tested : r ≡ answer (refused (padded_faults t p.new_length out)) tt) where
  by_arrays : r ≡ answer (padded_refused annotation s p before) tt
  by_arrays = rw (long, lent, is) at tested

  pub turned_down : {row : Refusal} {q : Result (Option ConversionPattern) Refusal} → r ≡ Err row → q ≡ Err row → PaddedAs annotation s p before before q
  turned_down {row} h f =
      let z : padded_refused annotation s p before ≡ Some row = refused_by _ tt (sym by_arrays ∙ h) in
      record { answered = rw z f; outputs = rw z (leaves_refused row _ _) }

  module _ {x : Unit {0}} (h : r ≡ Ok x) where
    pub passed : padded_refused annotation s p before ≡ None
    passed = (passed_by _ tt (sym by_arrays ∙ h)).0

    pub has_room : Room annotation s p before
    has_room = room annotation s p before passed

-- All of a list goes to an output with room for it, where it is kept, and none where it is not.
pub all_fits : {A : Type 0} (xs out : List A) (b : Bool) → (b ≡ true → length xs ≤ length out) → put (only_if b (take (length out) xs)) out ≡ put (only_if b xs) out
unfolding only_if
all_fits xs out true h = put_fitting xs out (h refl)
all_fits xs out false h = refl

map_only_if : (b : Bool) (xs : List ℕ) → only_if b (map mark xs) ≡ map mark (only_if b xs)
unfolding only_if
map_only_if true xs = refl
map_only_if false xs = refl

-- The annotation that is kept.
pub kept_is : (s : VanillaConsensusRead) (n : ℕ) → annotation_in (kept_of s n) ≡ kept (annotation_in s) (length s.bases.now) n
kept_is s n = go (eqb (length s.bases.now) n)
  where
    go : (same : Bool) → annotation_in (cond same s (plain s)) ≡ cond same (annotation_in s) None
    go true = refl
    go false = refl

-- So the evidence that is written is that of the definition.
module _ (s : VanillaConsensusRead) (before now : EvidenceArrays) where
  abbrev e : EvidenceArrays
  e = evidence_held s.methylation

  abbrev WrittenOf : VanillaConsensusRead → Type 0
  WrittenOf k =
      (now.marks ≡ put (only_if (is_annotated (annotation_in k)) (take (length before.marks) (map mark (evidence_held k.methylation).marks))) before.marks)
      × (now.unconverted ≡ put (only_if (is_annotated (annotation_in k)) (take (length before.unconverted) (evidence_held k.methylation).unconverted)) before.unconverted)
      × (now.converted ≡ put (only_if (is_annotated (annotation_in k)) (take (length before.converted) (evidence_held k.methylation).converted)) before.converted)

  abbrev Fits : Option ConversionPattern → Type 0
  Fits left = is_annotated left ≡ true → (length e.marks ≤ length before.marks) × (length e.unconverted ≤ length before.unconverted) × (length e.converted ≤ length before.converted)

  abbrev Puts_if : Option ConversionPattern → Type 0
  Puts_if left =
      let written = is_annotated left in
      PutsEvidence (evidence_arrays (map mark (only_if written e.marks)) (only_if written e.unconverted) (only_if written e.converted)) before now

  by_length : (same : Bool) → Fits (cond same (annotation_in s) None) → WrittenOf (cond same s (plain s)) → Puts_if (cond same (annotation_in s) None)
  unfolding only_if
  by_length true fits w =
      let written = is_annotated (annotation_in s) in
      record {
        marks = w.0 ∙ all_fits (map mark e.marks) before.marks written (λ h. omega (arith, (fits h).0, length-map e.marks mark)) ∙ ap (λ (l : List ℕ). put l before.marks) (map_only_if written e.marks);
        unconverted = w.1 ∙ all_fits e.unconverted before.unconverted written (λ h. (fits h).1);
        converted = w.2 ∙ all_fits e.converted before.converted written (λ h. (fits h).2);
      }
  by_length false fits w = record { marks = w.0; unconverted = w.1; converted = w.2 }

  pub kept_evidence : (n : ℕ) {k : VanillaConsensusRead} → k ≡ kept_of s n → Fits (kept (annotation_in s) (length s.bases.now) n) → WrittenOf k → Puts_if (kept (annotation_in s) (length s.bases.now) n)
  kept_evidence n is fits w = by_length (eqb (length s.bases.now) n) fits (rw is at w)

pub written :
    (annotation : Option ConversionPattern) (s : Arrays) (p : Padding) (before : Arrays) {now : Arrays} {k : Option ConversionPattern}
    → padded_refused annotation s p before ≡ None
    → k ≡ kept annotation (length s.bases) p.new_length
    → Puts (padded_arrays annotation s p) before now
    → PaddedAs annotation s p before now (Ok k)
written annotation s p before z e puts = record { answered = rw (z, e); outputs = rw z (leaves_passed puts) }
