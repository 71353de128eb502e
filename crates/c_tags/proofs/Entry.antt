-- What is promised of a call over bytes, by its first test, the texts and the counts.
--     same_test            its first test is the library's, over numbers
--     early, late, all_written     what it promises where that test refuses, where the texts do, and where all is written
--     lent_as              the strand that is lent to the library
--     few_places           how many positions there are at most
--     Ready, ready         what is written as bytes has room
--     left_counts          the counts that are written are the strands'
-- Assumes nothing.
use mathlib.Core.Path.{◌≡◌, refl, sym, ap, ◌∙◌}
use mathlib.Core.Bool.{true}
use mathlib.Core.List.{List}
use Prim.Native.Nat.{ℕ, ◌/◌, ◌≤◌}
use native.Mathlib.Omega.{arith}
use lib.ListN.{length}
use Rattle.std.proofs.Common.{Option, Some, None, Result, Ok, Err}
use Rattle.std.specs.Option.{option_map_or}
use Rattle.lists.specs.Part.{only_if}
use Rattle.lists.specs.Table.{tabulate}
use Rattle.refusals.specs.declared.Refusal.{Refusal}
use Rattle.refusals.specs.Outcome.{answer}
use Rattle.refusals.proofs.Outcome.{refused_by, passed_by}
use Rattle.methylation.specs.Methylation.{is_annotated}
use Rattle.methylation.specs.declared.ConversionPattern.{ConversionPattern}
use Rattle.methylation.specs.declared.EvidenceLengths.{EvidenceLengths}
use Rattle.methylation.specs.declared.MethylationMode.{MethylationMode}
use Rattle.byte_numbers.specs.Bytes.{words16, bytes16}
use Rattle.byte_numbers.specs.Groups.{by_group}
use Rattle.byte_numbers.proofs.Bytes.{length_numbers}
use Rattle.byte_numbers.proofs.Groups.{length_by_group}
use Rattle.molecule_evidence.specs.Evidence.{mark_in, count_in, counts_of as counts_in9, marks_of, unconverted_of, converted_of}
use Rattle.methylation_evidence.specs.Counts.{tag_counts, summed_counts}
use Rattle.methylation.specs.Annotation as held
use Rattle.methylation.specs.Arrays.{EvidenceArrays, evidence_arrays}
use Rattle.methylation.specs.declared.MethylationAnnotation.{MethylationAnnotation}
use Rattle.molecule_strand.specs.Strand.{pattern_held, bytes_held, lengths_held}
use Rattle.molecule_strand.specs.declared.EncodedAnnotation.{EncodedAnnotation}
use Rattle.duplex_texts.specs.Texts.{TextArrays, strand_in}
use Rattle.duplex_texts.specs.Outputs.{strand_lengths, DuplexTextsAs}
use Rattle.duplex_texts.specs.Parts.{AsLong}
use Rattle.duplex_texts.specs.declared.TextLengths.{TextLengths}
use Rattle.duplex_texts.proofs.Refused.{as_long}
use Rattle.duplex_tags.specs.Tags.{KindArrays, kind_arrays, CountArrays, counts_of, kind_counts, duplex_counts}
use Rattle.duplex_tags.specs.Outputs.{kind_lengths, LeavesKind, LeavesCounts}
use Rattle.duplex_tags.specs.Parts.{counts_refused, Countable}
use Rattle.duplex_tags.specs.declared.KindLengths.{KindLengths}
use Rattle.duplex_tags.proofs.Counts.{countable}
use Rattle.duplex_tags.proofs.Refused.{by_own, met_first, passed_first, by_texts, enough_room}
use Rattle.rust_methylation.specs.Entries.{DuplexArrays, duplex_arrays}
use Rattle.c_tags.specs.Tags.{each_kind, each, TagsBytesAs}
use Rattle.c_tags.specs.Parts.{strand_seen, counts_in}

same_lengths : (e : Option EncodedAnnotation) → lengths_held e ≡ strand_lengths (strand_seen e)
same_lengths e = rw (length_by_group 9 mark_in (bytes_held e), length_by_group 9 (count_in 1) (bytes_held e), length_by_group 9 (count_in 5) (bytes_held e))

same_kind : (k : KindArrays) → counts_in (kind_lengths k) ≡ kind_lengths (each_kind words16 k)
same_kind k = rw (length_numbers 2 k.a, length_numbers 2 k.b, length_numbers 2 k.both)

-- Of the evidence that is held, all counts are the strand's.
own_counts : (offset : ℕ) (e : Option EncodedAnnotation) → counts_in9 offset (bytes_held e) ≡ counts_of (pattern_held e) (counts_in9 offset (bytes_held e))
unfolding counts_of only_if by_group tabulate
own_counts offset None = refl
own_counts offset (Some m) = refl

-- How many positions they are at most.
places : (n : ℕ) (e : Option EncodedAnnotation) → AsLong n (strand_seen e) → length (bytes_held e) / 9 ≤ n
places n None l = omega arith
places n (Some m) l = omega (arith, l.marks refl, length_by_group 9 mark_in m.evidence.now)

-- The strand that is lent of an annotation and what was read of its bytes.
pub lent_as :
    (e : Option EncodedAnnotation) (s : Option MethylationAnnotation) {m : Option ConversionPattern} {read : EvidenceArrays}
    → m ≡ pattern_held e
    → held.pattern_held s ≡ m
    → held.evidence_held s ≡ held.evidence_seen m read
    → read ≡ evidence_arrays (marks_of (bytes_held e)) (unconverted_of (bytes_held e)) (converted_of (bytes_held e))
    → strand_in s ≡ strand_seen e
unfolding by_group tabulate
lent_as None s same p h is = rw (p, h, same)
lent_as (Some m) s same p h is = rw (p, h, same, is)

fits_own :
    (n : ℕ) (e : Option EncodedAnnotation) (offset : ℕ) (out : List ℕ)
    → n ≤ 1024
    → (is_annotated (pattern_held e) ≡ true → length (counts_in9 offset (bytes_held e)) ≡ n)
    → option_map_or (λ l. n) (strand_lengths (strand_seen e)) 0 ≤ length (words16 out)
    → {xs : List ℕ}
    → xs ≡ counts_in9 offset (bytes_held e)
    → Countable (length xs) (length out / 2)
fits_own n e offset out few whole room x =
    let c = countable (pattern_held e) n (counts_in9 offset (bytes_held e)) whole few (strand_seen e).evidence (x ∙ own_counts offset e) room in
    record { few = c.few; room = omega (arith, c.room, length_numbers 2 out) }

module _ (mode : MethylationMode) (bases : List ℕ) (a b : Option EncodedAnnotation) (before : DuplexArrays) where
  abbrev counts : CountArrays
  counts = each words16 before.counts

  abbrev pub own : Option Refusal
  own = by_own mode bases (strand_seen a) (strand_seen b) before.texts counts

  pub same_test :
      {of_a of_b : Option EvidenceLengths} {u c : KindLengths} {r : Result (Unit {0}) Refusal}
      → of_a ≡ lengths_held a
      → of_b ≡ lengths_held b
      → u ≡ counts_in (kind_lengths before.counts.unconverted)
      → c ≡ counts_in (kind_lengths before.counts.converted)
      → r ≡ answer (counts_refused (length bases) of_a of_b u c) tt
      → answer {A = Unit {0}} own tt ≡ r
  same_test {of_a} {of_b} {u} {c} a_is b_is u_is c_is e =
      let one = a_is ∙ same_lengths a in
      let other = b_is ∙ same_lengths b in
      let plain = u_is ∙ same_kind before.counts.unconverted in
      let changed = c_is ∙ same_kind before.counts.converted in
      let same : counts_refused (length bases) of_a of_b u c ≡ own = rw (one, other, plain, changed) in
      sym (e ∙ ap (λ (row : Option Refusal). answer {A = Unit {0}} row tt) same)

  pub early : {row : Refusal} → answer {A = Unit {0}} own tt ≡ Err row → TagsBytesAs mode bases (strand_seen a) (strand_seen b) before before (Err row)
  early e =
      let met = met_first mode bases (strand_seen a) (strand_seen b) before.texts counts (refused_by own tt e) in
      record {
        answered = rw met;
        the_texts = rw met (record { seq = refl; a_mm = refl; b_mm = refl; mm = refl; ml = refl });
        the_counts = rw met (record { unconverted = record { a = refl; b = refl; both = refl }; converted = record { a = refl; b = refl; both = refl } });
      }

  module _ {x : Unit {0}} (e : answer {A = Unit {0}} own tt ≡ Ok x) where
    passed : own ≡ None
    passed = (passed_by own tt e).0

    both_long : AsLong (length bases) (strand_seen a) × AsLong (length bases) (strand_seen b)
    both_long = as_long bases (strand_seen a) (strand_seen b) (passed_first mode bases (strand_seen a) (strand_seen b) before.texts counts passed).0

    pub late :
        {texts_now : TextArrays} {row : Refusal}
        → DuplexTextsAs mode bases (strand_seen a) (strand_seen b) before.texts texts_now (Err row)
        → TagsBytesAs mode bases (strand_seen a) (strand_seen b) before (duplex_arrays texts_now before.counts) (Err row)
    late t =
        let same = by_texts mode bases (strand_seen a) (strand_seen b) before.texts counts passed in
        let all = rw same at t.answered in
        record {
          answered = all;
          the_texts = rw same at t.outputs;
          the_counts = rw (refused_by _ _ (sym all)) (record { unconverted = record { a = refl; b = refl; both = refl }; converted = record { a = refl; b = refl; both = refl } });
        }

    pub all_written :
        {texts_now : TextArrays} {n : TextLengths} {counts_now : CountArrays}
        → DuplexTextsAs mode bases (strand_seen a) (strand_seen b) before.texts texts_now (Ok n)
        → LeavesCounts None (each bytes16 (duplex_counts (length bases) (strand_seen a) (strand_seen b))) before.counts counts_now
        → TagsBytesAs mode bases (strand_seen a) (strand_seen b) before (duplex_arrays texts_now counts_now) (Ok n)
    all_written t l =
        let same = by_texts mode bases (strand_seen a) (strand_seen b) before.texts counts passed in
        let all = rw same at t.answered in
        record { answered = all; the_texts = rw same at t.outputs; the_counts = rw (passed_by _ _ (sym all)).0 l }

    pub few_places : (length (bytes_held a) / 9 ≤ 1024) × (length (bytes_held b) / 9 ≤ 1024)
    few_places =
        let (for_a, for_b) = both_long in
        (omega (arith, places (length bases) a for_a, for_a.few), omega (arith, places (length bases) b for_b, for_b.few))

    -- What is written as bytes has room.
    pub record Ready : Type 0 where
      pub a_unconverted : {xs : List ℕ} → xs ≡ unconverted_of (bytes_held a) → Countable (length xs) (length before.counts.unconverted.a / 2)
      pub a_converted : {xs : List ℕ} → xs ≡ converted_of (bytes_held a) → Countable (length xs) (length before.counts.converted.a / 2)
      pub b_unconverted : {xs : List ℕ} → xs ≡ unconverted_of (bytes_held b) → Countable (length xs) (length before.counts.unconverted.b / 2)
      pub b_converted : {xs : List ℕ} → xs ≡ converted_of (bytes_held b) → Countable (length xs) (length before.counts.converted.b / 2)
      pub unconverted : Countable (length bases) (length before.counts.unconverted.both / 2)
      pub converted : Countable (length bases) (length before.counts.converted.both / 2)

    pub ready : Ready
    ready =
        let (for_a, for_b) = both_long in
        let room = (passed_first mode bases (strand_seen a) (strand_seen b) before.texts counts passed).1 in
        let (u, c) = enough_room _ (kind_lengths counts.unconverted) (kind_lengths counts.converted) room in
        record {
          a_unconverted = fits_own (length bases) a 1 before.counts.unconverted.a for_a.few for_a.unconverted u.a;
          a_converted = fits_own (length bases) a 5 before.counts.converted.a for_a.few for_a.converted c.a;
          b_unconverted = fits_own (length bases) b 1 before.counts.unconverted.b for_b.few for_b.unconverted u.b;
          b_converted = fits_own (length bases) b 5 before.counts.converted.b for_b.few for_b.converted c.b;
          unconverted = record { few = for_a.few; room = omega (arith, u.both, length_numbers 2 before.counts.unconverted.both) };
          converted = record { few = for_a.few; room = omega (arith, c.both, length_numbers 2 before.counts.converted.both) };
        }

  pub left_counts :
      (now : CountArrays) {au ac bu bc : List ℕ}
      → au ≡ unconverted_of (bytes_held a)
      → ac ≡ converted_of (bytes_held a)
      → bu ≡ unconverted_of (bytes_held b)
      → bc ≡ converted_of (bytes_held b)
      → LeavesKind None (each_kind bytes16 (kind_arrays (tag_counts au) (tag_counts bu) (summed_counts (length bases) au bu))) before.counts.unconverted now.unconverted
      → LeavesKind None (each_kind bytes16 (kind_arrays (tag_counts ac) (tag_counts bc) (summed_counts (length bases) ac bc))) before.counts.converted now.converted
      → LeavesCounts None (each bytes16 (duplex_counts (length bases) (strand_seen a) (strand_seen b))) before.counts now
  unfolding kind_counts
  left_counts now au_is ac_is bu_is bc_is u c =
      let au = au_is ∙ own_counts 1 a in
      let ac = ac_is ∙ own_counts 5 a in
      let bu = bu_is ∙ own_counts 1 b in
      let bc = bc_is ∙ own_counts 5 b in
      record { unconverted = rw (au, bu) at u; converted = rw (ac, bc) at c }
