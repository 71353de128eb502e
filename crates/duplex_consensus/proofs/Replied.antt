-- What the entry promises, by the strands as numbers tell of them and the record that is made.
--     refused_in, read_in   what a strand's numbers say: 13, or the strand
--     given_by              what is given of a list that there is by a flag
--     is_listed             whether there is one is the flag
--     list_by               the record made without a list is that of one that is not there
--     limit_told            what the call that tests the strands' lengths answers, by the numbers
--     numbered              the record of the strands as the code has them is that of the numbers
-- Assumes nothing.
use mathlib.Core.Path.{◌≡◌, refl, ap, subst, ◌∙◌}
use mathlib.Core.Bool.{Bool, true, false, cond, ◌&&◌}
use mathlib.Core.List.{List, []}
use Prim.Native.Nat.{ℕ}
use Rattle.std.proofs.Common.{Option, None, Result, Ok, Err, is_some, length}
use Rattle.std.specs.Bool.{then_some}
use Rattle.refusals.specs.declared.Refusal.{Refusal}
use Rattle.refusals.specs.declared.Refusal.TheVariants.{Broken}
use Rattle.refusals.specs.Refusal.{refused}
use Rattle.refusals.specs.Outcome.{answer}
use Rattle.methylation.specs.declared.ConversionPattern.{ConversionPattern}
use Rattle.methylation.specs.Choices.{annotation_of, wrong_annotation}
use Rattle.settings.specs.declared.GivenSettings.{GivenSettings}
use Rattle.replies.specs.Choices.{yes}
use Rattle.vanilla_caller.specs.Strand.{Arrays, arrays, arrays_seen}
use Rattle.vanilla_caller.specs.declared.Lengths.{Lengths}
use Rattle.duplex_outputs.specs.Outputs.{RecordArrays}
use Rattle.duplex_strands.specs.Combine.{uncounted}
use Rattle.duplex_kind.specs.Kind.{Strand, strand, given_of, count_in, leaving_in}
use Rattle.duplex_kind.specs.Limit.{lengths_of, length_faults}
use Rattle.duplex_kind.specs.declared.DuplexConsensus.{DuplexConsensus}
use Rattle.duplex_kind.specs.declared.GivenReads.{GivenReads}
use Rattle.duplex_kind.proofs.Limit.{lengths_looked_at, same_lengths}
use Rattle.duplex_reply.specs.Strand.{strand_by, wrong_strand}
use Rattle.duplex_record.specs.Record.{DuplexAs}
use Rattle.duplex_record.proofs.Absent.{not_looked_at}
use Rattle.source_reads.specs.Reads.{any_leaves}
use Rattle.source_reads.specs.declared.SourceReads.{SourceReads}
use Rattle.duplex_molecule.specs.Molecule.{ct_input}
use Rattle.source_reads.specs.declared.SourceRead.{SourceRead}
use Rattle.duplex_consensus.specs.Consensus.{list_errors, given_list, given_in, ConsensusAs}

abbrev by : Bool → Bool → Option ConversionPattern → Arrays → Result Strand Refusal
by present wrong annotation x = cond present (cond wrong (Err Broken) (Ok (strand true annotation x))) (Ok (given_of None))

refused_by : (p v : Bool) (m : Option ConversionPattern) (x : Arrays) {e : Refusal} → by p v m x ≡ Err e → ((p && v) ≡ true) × (e ≡ Broken)
refused_by true true m x h = (refl, cc)
refused_by true false m x h = absurd cc
refused_by false v m x h = absurd cc

pub refused_in : (p m : ℕ) (x : Arrays) {e : Refusal} → strand_by p m x ≡ Err e → (wrong_strand p m ≡ true) × (e ≡ Broken)
refused_in p m x h = refused_by (yes p) (wrong_annotation m) (annotation_of m) x h

right_by : (p v : Bool) (m : Option ConversionPattern) (x : Arrays) {s : Strand} → by p v m x ≡ Ok s → (p && v) ≡ false
right_by true true m x h = absurd cc
right_by true false m x h = refl
right_by false v m x h = refl

pub read_in : (p m : ℕ) (x : Arrays) {s : Strand} → strand_by p m x ≡ Ok s → wrong_strand p m ≡ false
read_in p m x h = right_by (yes p) (wrong_annotation m) (annotation_of m) x h

abbrev none : Arrays
none = arrays [] [] [] [] [] [] []

lengths_by : (p v : Bool) (m : Option ConversionPattern) (x : Arrays) {s : Strand} → by p v m x ≡ Ok s → lengths_of s ≡ lengths_of (strand p m x)
lengths_by true true m x h = absurd cc
lengths_by true false m x {s} h = let same : s ≡ strand true m x = cc in ap lengths_of same
lengths_by false v m x {s} h = let same : s ≡ given_of None = cc in ap lengths_of same

-- A strand as the code has it is as long as the one that its numbers tell of.
as_long : (p m : ℕ) (x : Arrays) {s : Strand} → strand_by p m (arrays_seen (annotation_of m) x) ≡ Ok s → lengths_of s ≡ lengths_of (strand (yes p) (annotation_of m) x)
as_long p m x h =
    lengths_by (yes p) (wrong_annotation m) (annotation_of m) (arrays_seen (annotation_of m) x) h
    ∙ lengths_looked_at (strand (yes p) (annotation_of m) x)

pub limit_told :
    (lab : GivenSettings) (p m q n : ℕ) (x y : Arrays) {limit : ℕ} {s t : Strand} {a b : Option Lengths} {r : Result (Unit {0}) Refusal}
    → strand_by p m (arrays_seen (annotation_of m) x) ≡ Ok s
    → strand_by q n (arrays_seen (annotation_of n) y) ≡ Ok t
    → r ≡ answer (refused (length_faults limit a b)) tt
    → limit ≡ lab.limit
    → a ≡ lengths_of s
    → b ≡ lengths_of t
    → r ≡ answer (refused (length_faults lab.limit (lengths_of (strand (yes p) (annotation_of m) x)) (lengths_of (strand (yes q) (annotation_of n) y)))) tt
limit_told lab p m q n x y e f h limits here there = same_lengths lab.limit _ _ h limits (here ∙ as_long p m x e) (there ∙ as_long q n y f)

-- What is given of a list that there is by a flag.
pub given_by : (listed : Bool) (reads : SourceReads) → given_in (then_some listed reads) ≡ given_list listed (length reads.reads.now) (any_leaves (length reads.bytes.now) reads.reads.now)
given_by true reads = refl
given_by false reads = refl

pub is_listed : (listed : Bool) (count : ℕ) (leaving : Bool) → is_some (given_list listed count leaving) ≡ listed
is_listed true count leaving = refl
is_listed false count leaving = refl

-- A list that is not there is not looked at.
pub list_by :
    (lab : GivenSettings) (a b : Strand) (listed : Bool) (count : ℕ) (leaving : Bool) {list : Option GivenReads} {before now : RecordArrays} {r : Result (Option DuplexConsensus) Refusal}
    → list ≡ given_list listed count leaving
    → DuplexAs lab a b (is_some list) (count_in list) (leaving_in list) uncounted before now r
    → DuplexAs lab a b listed count (listed && leaving) uncounted before now r
list_by lab a b listed count leaving {list} {before} {now} {r} e d = go listed (subst (λ (l : Option GivenReads). DuplexAs lab a b (is_some l) (count_in l) (leaving_in l) uncounted before now r) e d)
  where
    go : (listed : Bool) → (let list = given_list listed count leaving in DuplexAs lab a b (is_some list) (count_in list) (leaving_in list) uncounted before now r) → DuplexAs lab a b listed count (listed && leaving) uncounted before now r
    go true d = d
    go false d = (not_looked_at lab uncounted uncounted false 0 false before now r).list a b count false d

module _ (lab : GivenSettings) (listed : Bool) (reads : List SourceRead) (bytes : List ℕ) (before now : RecordArrays) (r : Result (Option DuplexConsensus) Refusal) where
  abbrev As : Strand → Strand → Type 0
  As a b = ConsensusAs lab a b listed reads bytes before now r

  abbrev errors : Strand → Strand → ℕ → ℕ
  errors a b = list_errors reads bytes (ct_input a.annotation b.annotation) a.arrays b.arrays

  abbrev leaving : Bool
  leaving = any_leaves (length bytes) reads

  first_by : (p v : Bool) (m : Option ConversionPattern) (x : Arrays) {s b : Strand} → by p v m x ≡ Ok s → As s b → As (strand p m x) b
  first_by true true m x h d = absurd cc
  first_by true false m x {s} {b} h d =
      let same : s ≡ strand true m x = cc in
      subst (λ (s : Strand). As s b) same d
  first_by false v m x {s} {b} h d =
      let same : s ≡ given_of None = cc in
      (not_looked_at lab (errors (given_of None) b) (errors (strand false m x) b) listed (length reads) leaving before now r).first None m none x b (subst (λ (s : Strand). As s b) same d)

  second_by : (p v : Bool) (m : Option ConversionPattern) (x : Arrays) {s a : Strand} → by p v m x ≡ Ok s → As a s → As a (strand p m x)
  second_by true true m x h d = absurd cc
  second_by true false m x {s} {a} h d =
      let same : s ≡ strand true m x = cc in
      subst (λ (s : Strand). As a s) same d
  second_by false v m x {s} {a} h d =
      let same : s ≡ given_of None = cc in
      (not_looked_at lab (errors a (given_of None)) (errors a (strand false m x)) listed (length reads) leaving before now r).second a None m none x (subst (λ (s : Strand). As a s) same d)

  pub numbered :
      (p m q n : ℕ) (x y : Arrays) {s t : Strand}
      → strand_by p m (arrays_seen (annotation_of m) x) ≡ Ok s
      → strand_by q n (arrays_seen (annotation_of n) y) ≡ Ok t
      → As s t
      → As (strand (yes p) (annotation_of m) x) (strand (yes q) (annotation_of n) y)
  unfolding list_errors
  numbered p m q n x y {s} {t} e f d =
      let a = strand (yes p) (annotation_of m) x in
      let b = strand (yes q) (annotation_of n) y in
      let by_first = first_by (yes p) (wrong_annotation m) (annotation_of m) (arrays_seen (annotation_of m) x) e d in
      (not_looked_at lab (errors a b) (errors a b) listed (length reads) leaving before now r).evidence a b
      (second_by (yes q) (wrong_annotation n) (annotation_of n) (arrays_seen (annotation_of n) y) f by_first)
