-- The sequence and the strands' texts.
--     strand_length, seq_length     restoring leaves as many bases
--     restored_by            restoring a sequence by a strand
--     part_restored          restoring the front of a buffer
--     no_texts, some_texts   a strand without an annotation, and with one
--     mm_most, ml_most       how long a strand's texts can be
--     grouped_length         how long two are together
--     put_grouped            one written behind the other, in their order
-- Assumes nothing.
use mathlib.Core.Path.{◌≡◌, refl, ap, ◌∙◌}
use mathlib.Core.Bool.{Bool, true, false, cond}
use mathlib.Core.List.{List, [], ◌∷◌, ◌++◌, map}
use Prim.Native.Nat.{ℕ, ◌+◌, ◌-◌, ◌*◌, ◌≤◌}
use native.Mathlib.Nat.{add_comm}
use native.Mathlib.Omega.{arith}
use borrow.Rule.Slice.PartMut.{put_mid, mid_of}
use lib.ListN.{length, take, drop, length-append}
use lib.Seq.{drop-append_seam}
use Rattle.lists.specs.Output.{put}
use Rattle.refusals.specs.declared.Refusal.{Refusal}
use Rattle.refusals.specs.Outcome.{after}
use Rattle.lists.proofs.Output.{put_fitting, put_whole, put_equal, length_put, copy_next, front_of}
use Rattle.methylation.specs.Methylation.{is_annotated, pattern_bases}
use Rattle.methylation.specs.declared.ConversionPattern.{ConversionPattern}
use Rattle.methylation.specs.declared.MethylationAnnotation.{MethylationAnnotation}
use Rattle.methylation.specs.declared.MethylationMode.{MethylationMode}
use Rattle.methylation_restore.specs.Restore.{restored, restore_refused, strand_bases}
use Rattle.methylation_restore.proofs.Restored.{restored_length}
use Rattle.mm_ml.specs.Tags.{Annotated, Evident, TaggedAs, calls, all_text, ml_byte, if_called, mm_text, ml_array, tags_if_called, tag_lengths}
use Rattle.mm_ml.specs.declared.TagLengths.{TagLengths}
use Rattle.mm_ml.proofs.Group as group
use Rattle.duplex_texts.specs.Texts.{StrandAnnotation, strand_in, restored_seq, against, by_pattern, strand_mm, strand_ml, grouped}
use Rattle.duplex_texts.specs.Parts.{AsLong, TextsAs}
use Rattle.duplex_texts.proofs.Fits.{restore_fits, tags_fit}
use Rattle.std.proofs.Common.{None, Some, Option, Result}
use Rattle.std.specs.Option.{UnwrapsOrElse, option_flatten}
use Rattle.std.specs.Result.{result_ok}

pub strand_length : (annotation : Option ConversionPattern) (marks bases : List ℕ) → length (strand_bases annotation marks bases) ≡ length bases
strand_length None marks bases = refl
strand_length (Some pattern) marks bases = restored_length (pattern_bases pattern) marks bases (length bases)

pub seq_length : (bases : List ℕ) (a : Option ConversionPattern) (a_marks : List ℕ) (b : Option ConversionPattern) (b_marks : List ℕ) → length (restored_seq bases a a_marks b b_marks) ≡ length bases
unfolding restored_seq
seq_length bases a a_marks b b_marks = strand_length b b_marks (strand_bases a a_marks bases) ∙ strand_length a a_marks bases

-- A sequence is restored by a strand with an annotation.
pub restored_by :
    (seq : List ℕ) {s : Option MethylationAnnotation} {m : MethylationAnnotation} {now : List ℕ}
    → s ≡ Some m
    → AsLong (length seq) (strand_in s)
    → now ≡ after (restore_refused seq m.evidence.marks.now) (restored m.pattern m.evidence.marks.now seq) seq
    → now ≡ strand_bases (strand_in s).annotation (strand_in s).evidence.marks seq
restored_by seq {m = m} is long now_is =
    let here : AsLong (length seq) (strand_in (Some m)) = rw is at long in
    let marks = m.evidence.marks.now in
    rw is (rw (restore_fits seq marks here.few (here.marks refl)) at now_is ∙ put_whole (restored m.pattern marks seq) seq (restored_length (pattern_bases m.pattern) marks seq (length seq)))

-- L is a buffer with xs at its front, and Y that part after a call.
module _ (annotation : Option ConversionPattern) (marks xs out : List ℕ) {L Y : List ℕ} {n : ℕ} (e : L ≡ put xs out) (h : n ≡ length xs) where
  pub part_restored : Y ≡ strand_bases annotation marks (take n L) → Y ++ drop n L ≡ put (strand_bases annotation marks xs) out
  unfolding put
  part_restored y =
      let here : take n L ≡ xs = front_of xs out e h in
      let there : Y ≡ strand_bases annotation marks xs = rw here at y in
      rw (there, e, h, drop-append_seam, strand_length annotation marks xs)

-- No bytes, as the default of `TagLengths` says.
abbrev NoBytes : TagLengths → Type 0
NoBytes r = (r.mm ≡ 0) × (r.ml ≡ 0)

-- A strand without an annotation.
pub no_texts : (mode : MethylationMode) (seq mm ml : List ℕ) (s : StrandAnnotation) {r : TagLengths} → s.annotation ≡ None → NoBytes r → TextsAs mode seq s mm ml mm ml r
unfolding strand_mm strand_ml put
no_texts mode seq mm ml s e none = record { mm_length = rw e none.0; ml_length = rw e none.1; text = rw e; bytes = rw e }

-- What no row refuses, of a strand with an annotation.
evident : (seq : List ℕ) (s : StrandAnnotation) {pattern : ConversionPattern} → s.annotation ≡ Some pattern → AsLong (length seq) s → Evident (against seq s pattern)
evident seq s is long =
    let here = ap is_annotated is in
    record { few = long.few; marks = long.marks here; unconverted = long.unconverted here; converted = long.converted here }

-- The lengths that are told where something is called, and where nothing is.
told_lengths : (mode : MethylationMode) (s : Annotated) {r : TagLengths} → UnwrapsOrElse (tag_lengths mode s) NoBytes r → (r.mm ≡ length (mm_text mode s)) × (r.ml ≡ length (ml_array mode s))
unfolding mm_text ml_array
told_lengths mode s = go (calls mode s)
  where
    go : (ps : List ℕ) {r : TagLengths} → UnwrapsOrElse (tags_if_called ps (length (if_called ps (all_text s))) (length (map (ml_byte mode s) ps))) NoBytes r → (r.mm ≡ length (if_called ps (all_text s))) × (r.ml ≡ length (map (ml_byte mode s) ps))
    go [] told = told
    go (p ∷ ps) told = rw told (refl, refl)

-- With one, its tags are made in buffers that have room for any.
pub some_texts :
    (mode : MethylationMode) (seq mm ml : List ℕ) {s : Option MethylationAnnotation} {m : MethylationAnnotation} {mm_now ml_now : List ℕ} {told : Result (Option TagLengths) Refusal} {r : TagLengths}
    → s ≡ Some m
    → AsLong (length seq) (strand_in s)
    → (5125 ≤ length mm) × (1024 ≤ length ml)
    → TaggedAs mode (against seq (strand_in (Some m)) m.pattern) mm ml mm_now ml_now told
    → UnwrapsOrElse (option_flatten (result_ok told)) NoBytes r
    → TextsAs mode seq (strand_in s) mm ml mm_now ml_now r
unfolding strand_mm strand_ml
some_texts mode seq mm ml {m = m} is long room t lengths =
    let strand = against seq (strand_in (Some m)) m.pattern in
    let ev = evident seq (strand_in (Some m)) refl (rw is at long) in
    let text_fits = group.mm_most strand ev.few mode in
    let bytes_fit = group.ml_most strand ev.few mode in
    let fits = tags_fit mode strand mm ml ev (omega (arith, text_fits, room.0, ev.few)) (omega (arith, bytes_fit, room.1, ev.few)) in
    let known = told_lengths mode strand (rw (rw fits at t.answered) at lengths) in
    rw is (record {
      mm_length = known.0;
      ml_length = known.1;
      text = rw fits at t.mm_text_is;
      bytes = rw fits at t.ml_array_is;
    })

-- For callers: how long the outputs can need to be.
module _ (mode : MethylationMode) (seq : List ℕ) (few : length seq ≤ 1024) where
  pub mm_most : (s : StrandAnnotation) → length (strand_mm mode seq s) ≤ 5 + 5 * length seq
  unfolding strand_mm
  mm_most s = go s.annotation
    where
      go : (annotation : Option ConversionPattern) → length (by_pattern annotation (λ pattern. mm_text mode (against seq s pattern))) ≤ 5 + 5 * length seq
      go None = omega arith
      go (Some pattern) = group.mm_most (against seq s pattern) few mode

  pub ml_most : (s : StrandAnnotation) → length (strand_ml mode seq s) ≤ length seq
  unfolding strand_ml
  ml_most s = go s.annotation
    where
      go : (annotation : Option ConversionPattern) → length (by_pattern annotation (λ pattern. ml_array mode (against seq s pattern))) ≤ length seq
      go None = omega arith
      go (Some pattern) = group.ml_most (against seq s pattern) few mode

pub grouped_length : (second : Bool) (a b : List ℕ) → length (grouped second a b) ≡ length a + length b
unfolding grouped
grouped_length true a b = length-append b a ∙ add_comm (length b) (length a)
grouped_length false a b = length-append a b

-- L is the output with the first of two, and Y what lies behind that after the second was copied there.
joined :
    (first second out : List ℕ) {L Y : List ℕ}
    → length first + length second ≤ length out
    → L ≡ put (take (length out) first) out
    → (let k = length L - length first in Y ≡ put (take (length (mid_of (length first) k L)) second) (mid_of (length first) k L))
    → put_mid (length first) (length L - length first) L Y ≡ put (first ++ second) out
joined first second out {L} {Y} room e f =
    let copied : L ≡ put first out = e ∙ put_fitting first out (omega arith) in
    let size : length L ≡ length out = ap length copied ∙ length_put first out (omega arith) in
    copy_next first out (length L - length first) copied refl (omega arith) second (omega arith) f

-- The first strand's and the second's, in their order.
grouped_is : (second : Bool) (a b : List ℕ) {first last : List ℕ} → first ≡ cond second b a → last ≡ cond second a b → first ++ last ≡ grouped second a b
unfolding grouped
grouped_is true a b f l = rw (f, l)
grouped_is false a b f l = rw (f, l)

pub put_grouped :
    (second : Bool) (a b out : List ℕ) {first last L Y : List ℕ}
    → length a + length b ≤ length out
    → first ≡ cond second b a
    → last ≡ cond second a b
    → L ≡ put (take (length out) first) out
    → (let k = length L - length first in Y ≡ put (take (length (mid_of (length first) k L)) last) (mid_of (length first) k L))
    → put_mid (length first) (length L - length first) L Y ≡ put (grouped second a b) out
put_grouped second a b out {first} {last} room f l e g =
    let all = grouped_is second a b f l in
    let size : length first + length last ≤ length out = omega (arith, ap length all, length-append first last, grouped_length second a b) in
    joined first last out size e g ∙ put_equal out all
