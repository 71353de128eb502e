-- The claims of specs/HonestRates.antt. A returned rate, however it was returned, is the rate of the sums behind it (`behind_bits`), and the
-- claims hold of that. Assumes nothing.
use mathlib.Core.Path.{◌≡◌, refl, sym, ap, ap₂, subst, ◌∙◌}
use mathlib.Core.Bool.{Bool, true, false, cond}
use mathlib.Core.List.{List, []}
use Prim.Native.Nat.{ℕ, ◌*◌, ◌^◌, ◌≤◌, ◌<◌}
use native.Mathlib.Omega.{arith}
use borrow.Author.Tests.{eqb-false}
use lib.Dec.{T, eqb}
use lib.ListN.{length, take, drop}
use lib.Ieee.{binary32, fin, fits, of_int, div, to_bits}
use lib.Ieee.Fits.{cond-fits, div-fits}
use lib.Ieee.Bits.{to_bits-lt}
use lib.IntN.{pos}
use Rattle.std.proofs.Common.{Option, None, Result, Ok, Err}
use Rattle.lists.specs.Output.{put}
use Rattle.lists.specs.Part.{only_if}
use Rattle.lists.proofs.Output.{front_of}
use Rattle.refusals.specs.declared.Refusal.{Refusal}
use Rattle.refusals.specs.Refusal.{number_of as row_number, number_or_0}
use Rattle.refusals.specs.Outcome.{answer, after as left_after}
use Rattle.refusals.proofs.Claims.{no_number}
use Rattle.refusals.proofs.InOrder.{numbered_from_1}
use Rattle.refusals.proofs.Outcome.{passed_by}
use Rattle.rates.specs.Rate as rate
use Rattle.rates.specs.Rate.{rate_of, bits_of, gap}
use Rattle.rates.proofs.Rates.{close, exact}
use Rattle.hexadecimal.specs.Hexadecimal.{value_of}
use Rattle.hexadecimal.proofs.Hexadecimal.{read_back}
use Rattle.byte_numbers.specs.Bytes.{number_of, words16, bytes32}
use Rattle.duplex_metrics.specs.Metrics as metrics
use Rattle.duplex_metrics.specs.Metrics.{Input, input, metrics_of, record_of}
use Rattle.duplex_metrics.specs.declared.MetricsRecord.{MetricsRecord}
use Rattle.duplex_metrics.proofs.Returned.{record_is}
use Rattle.metrics_bits.specs.Bits.{in_bits, metrics_words}
use Rattle.metrics_bits.specs.declared.MetricsBits.{MetricsBits}
use Rattle.c_metrics.specs.Bytes.{MetricsAs, MetricsEntry, seen, decoded, entry_refused, record_words, metrics_bytes}
use Rattle.c_metrics.proofs.Bytes.{clear}
use Rattle.replies.specs.Choices.{yes}
use Rattle.rust_metrics.specs.Answers.{metrics_reply}
use Rattle.rust_metrics.specs.declared.MetricsReply.{MetricsReply}
use Rattle.line_output.proofs.Text.{length_printed}
use Rattle.line_format.specs.Line.{line_text}
use Rattle.line_record.specs.declared.Line.{Line}
use Rattle.line_molecule.specs.Line.{text_of, TextIn}
use Rattle.honest_rates.specs.Text.{column, numbers_in}
use Rattle.honest_rates.specs.HonestRates.{Own, kind_word, text, Returned, floats, as_bits, in_bytes, for_c, in_reply, printed, Rate, aE, bE, cE, bits, Measured, measured, from_numbers, from_bytes, from_molecule, over, errors_of, depths_of, error_sum, depth_sum, EqualRates, CloseRates}
use Rattle.honest_rates.proofs.Text.{column_bases, column_errors, column_a_e, column_b_e, column_c_e, numbers_back}
use Rattle.honest_rates.proofs.Line.{kind_in, IsRecord, record_printed}
use Rattle.honest_rates.proofs.Bytes.{word_at}

-- The bits of the rate of the sums behind.
abbrev behind : Measured → Rate → ℕ
behind m p = bits_of (errors_of m p) (depths_of m p)

-- They fit 32 bits.
zero_fits : T (fits binary32 (fin false 0 (pos 0)))
unfolding fits
zero_fits = tt

fit : (e d : ℕ) → bits_of e d < 2 ^ 32
unfolding rate_of
fit e d =
    let x = of_int binary32 (pos e) in
    let y = of_int binary32 (pos d) in
    to_bits-lt binary32 (rate_of e d) (cond-fits binary32 (eqb d 0) (fin false 0 (pos 0)) (div binary32 x y) zero_fits (div-fits binary32 x y))

-- ---- Floats, and bits

abbrev in_float : MetricsRecord → Rate → ℕ
in_float r aE = to_bits binary32 r.aE
in_float r bE = to_bits binary32 r.bE
in_float r cE = to_bits binary32 r.cE

float_bits : (x : Input) (r : MetricsRecord) → metrics_of x ≡ Ok r → (p : Rate) → in_float r p ≡ behind (from_numbers x) p
unfolding metrics.strand_figures metrics.record_figures metrics.record_depths metrics.record_depth metrics.capped only_if
float_bits x r e aE = ap (λ (s : MetricsRecord). to_bits binary32 s.aE) (record_is x r e)
float_bits x r e bE = ap (λ (s : MetricsRecord). to_bits binary32 s.bE) (record_is x r e)
float_bits x r e cE = ap (λ (s : MetricsRecord). to_bits binary32 s.cE) (record_is x r e)

abbrev in_word : MetricsBits → Rate → ℕ
in_word r aE = r.aE
in_word r bE = r.bE
in_word r cE = r.cE

float_word : (r : MetricsRecord) (p : Rate) → in_word (in_bits r) p ≡ in_float r p
float_word r aE = refl
float_word r bE = refl
float_word r cE = refl

module _ (x : Input) (m : MetricsBits) (e : metrics_words (metrics_of x) ≡ Ok m) where
  word_bits : (p : Rate) → in_word m p ≡ behind (from_numbers x) p
  word_bits p = go (metrics_of x) refl e
    where
      go : (given : Result MetricsRecord Refusal) → metrics_of x ≡ given → metrics_words given ≡ Ok m → in_word m p ≡ behind (from_numbers x) p
      go (Err k) h f = absurd cc
      go (Ok r) h f =
          let same : m ≡ in_bits r = cc in
          ap (λ (n : MetricsBits). in_word n p) same ∙ float_word r p ∙ float_bits x r h p

  small : (p : Rate) → in_word m p < 2 ^ 32
  small p = subst (λ (n : ℕ). n < 2 ^ 32) (sym (word_bits p)) (fit (errors_of (from_numbers x) p) (depths_of (from_numbers x) p))

-- ---- Bytes

abbrev in_place : List ℕ → Rate → ℕ
in_place out aE = number_of (take 4 (drop 8 out))
in_place out bE = number_of (take 4 (drop 20 out))
in_place out cE = number_of (take 4 (drop 32 out))

module _ (x : Input) (before after : List ℕ) (e : MetricsAs x before after (Ok tt)) where
  abbrev y : Input
  y = decoded x

  abbrev made : MetricsRecord
  made = record_of y

  passed : entry_refused x before ≡ None
  passed = (passed_by (entry_refused x before) tt (sym e.answered)).0

  is_record : metrics_of y ≡ Ok made
  is_record = ap (λ (row : Option Refusal). answer row (record_of y)) (clear x before (ap number_or_0 passed)).0

  output_is : after ≡ put (bytes32 (record_words (in_bits made))) before
  output_is =
      e.left
      ∙ ap (λ (row : Option Refusal). left_after row (metrics_bytes (metrics_words (metrics_of y))) before) passed
      ∙ ap (λ (m : Result MetricsRecord Refusal). put (metrics_bytes (metrics_words m)) before) is_record

  words_are : metrics_words (metrics_of y) ≡ Ok (in_bits made)
  words_are = ap metrics_words is_record

  place_word : (p : Rate) → in_place after p ≡ in_word (in_bits made) p
  unfolding record_words
  place_word aE = ap (λ (l : List ℕ). in_place l aE) output_is ∙ word_at (record_words (in_bits made)) before 2 (omega arith) (small y (in_bits made) words_are aE)
  place_word bE = ap (λ (l : List ℕ). in_place l bE) output_is ∙ word_at (record_words (in_bits made)) before 5 (omega arith) (small y (in_bits made) words_are bE)
  place_word cE = ap (λ (l : List ℕ). in_place l cE) output_is ∙ word_at (record_words (in_bits made)) before 8 (omega arith) (small y (in_bits made) words_are cE)

  place_bits : (p : Rate) → in_place after p ≡ behind (from_bytes x.a x.a_errors x.second x.b x.b_errors x.errors) p
  place_bits p = place_word p ∙ word_bits y (in_bits made) words_are p

-- For C: an answer as a number, and of an absent second strand nothing is looked at.
module _ (x : Input) (before after : List ℕ) (e : MetricsEntry (seen x) before after 0) where
  accepted : MetricsAs (seen x) before after (Ok tt)
  accepted = record {
    answered = ap (λ (row : Option Refusal). answer {A = Unit {0}} row tt) (sym (no_number (entry_refused (seen x) before) (sym e.answered)));
    left = e.left;
  }

  same_arrays : from_numbers (decoded (seen x)) ≡ from_bytes x.a x.a_errors x.second x.b x.b_errors x.errors
  unfolding only_if
  same_arrays = ap₂ (λ (b be : List ℕ). measured (words16 x.a) (words16 x.a_errors) b be (words16 x.errors)) (go x.second x.b) (go x.second x.b_errors)
    where
      go : (s : Bool) (l : List ℕ) → cond s (words16 (cond s l [])) [] ≡ cond s (words16 l) []
      go true l = refl
      go false l = refl

  entry_bits : (p : Rate) → in_place after p ≡ behind (from_bytes x.a x.a_errors x.second x.b x.b_errors x.errors) p
  entry_bits p = place_bits (seen x) before after accepted p ∙ ap (λ (m : Measured). behind m p) same_arrays

-- ---- A reply

abbrev replied : MetricsReply → Rate → ℕ
replied r aE = r.aE
replied r bE = r.bE
replied r cE = r.cE

replied_word : (m : MetricsBits) (p : Rate) → replied (metrics_reply (Ok m)) p ≡ in_word m p
replied_word m aE = refl
replied_word m bE = refl
replied_word m cE = refl

module _ (x : Input) (r : MetricsReply) (e : r ≡ metrics_reply (metrics_words (metrics_of x))) (z : r.refused ≡ 0) where
  reply_bits : (p : Rate) → replied r p ≡ behind (from_numbers x) p
  reply_bits p = go (metrics_of x) refl e
    where
      go : (given : Result MetricsRecord Refusal) → metrics_of x ≡ given → r ≡ metrics_reply (metrics_words given) → replied r p ≡ behind (from_numbers x) p
      go (Err k) h f = absurd (eqb-false (row_number k) 0 (numbered_from_1 k) (sym (ap (λ (s : MetricsReply). s.refused) f) ∙ z))
      go (Ok s) h f = ap (λ (t : MetricsReply). replied t p) f ∙ replied_word (in_bits s) p ∙ word_bits x (in_bits s) (ap metrics_words h) p

-- ---- The printed line

abbrev in_column : List ℕ → Rate → ℕ
in_column l aE = value_of (column 7 l)
in_column l bE = value_of (column 10 l)
in_column l cE = value_of (column 13 l)

module _ (bytes : List ℕ) (line : Line) (own : Own) (t : TextIn (text_of bytes) line) (f : column 0 (text line) ≡ kind_word own) where
  text_is : text line ≡ text_of bytes
  text_is = front_of (text_of bytes) _ t.bytes t.size

  r : IsRecord bytes own (text_of bytes)
  r = record_printed bytes own (sym (ap (column 0) text_is) ∙ f)

  there : text line ≡ line_text (kind_in own) r.kept r.c r.metrics
  there = text_is ∙ r.is

  column_word : (p : Rate) → in_column (text line) p ≡ in_word r.metrics p
  column_word aE = ap value_of (ap (column 7) there ∙ column_a_e (kind_in own) r.kept r.c r.metrics) ∙ read_back _ (small r.asked r.metrics r.words aE)
  column_word bE = ap value_of (ap (column 10) there ∙ column_b_e (kind_in own) r.kept r.c r.metrics) ∙ read_back _ (small r.asked r.metrics r.words bE)
  column_word cE = ap value_of (ap (column 13) there ∙ column_c_e (kind_in own) r.kept r.c r.metrics) ∙ read_back _ (small r.asked r.metrics r.words cE)

  positions_are : length (column 2 (text line)) ≡ length r.c.bases
  positions_are = ap length (ap (column 2) there ∙ column_bases (kind_in own) r.kept r.c r.metrics) ∙ length_printed r.c.bases

  errors_are : numbers_in (column 4 (text line)) ≡ r.c.errors
  errors_are = ap numbers_in (ap (column 4) there ∙ column_errors (kind_in own) r.kept r.c r.metrics) ∙ numbers_back r.c.errors

  arrays_are : from_numbers r.asked ≡ from_molecule bytes own (length (column 2 (text line))) (numbers_in (column 4 (text line)))
  arrays_are = r.same ∙ sym (ap₂ (λ (n : ℕ) (l : List ℕ). from_molecule bytes own n l) positions_are errors_are)

  column_bits : (p : Rate) → in_column (text line) p ≡ behind (from_molecule bytes own (length (column 2 (text line))) (numbers_in (column 4 (text line)))) p
  column_bits p = column_word p ∙ word_bits r.asked r.metrics r.words p ∙ ap (λ (m : Measured). behind m p) arrays_are

-- ---- All of them

behind_bits : (x : Returned) (p : Rate) → bits x p ≡ behind (over x) p
behind_bits (floats x r e) aE = float_bits x r (sym e) aE
behind_bits (floats x r e) bE = float_bits x r (sym e) bE
behind_bits (floats x r e) cE = float_bits x r (sym e) cE
behind_bits (as_bits x r e) aE = word_bits x r (sym e) aE
behind_bits (as_bits x r e) bE = word_bits x r (sym e) bE
behind_bits (as_bits x r e) cE = word_bits x r (sym e) cE
behind_bits (in_bytes x before after e) aE = place_bits x before after e aE
behind_bits (in_bytes x before after e) bE = place_bits x before after e bE
behind_bits (in_bytes x before after e) cE = place_bits x before after e cE
behind_bits (for_c a ae second b be bases errors before after e) aE = entry_bits (input a ae (yes second) b be bases errors) before after e aE
behind_bits (for_c a ae second b be bases errors before after e) bE = entry_bits (input a ae (yes second) b be bases errors) before after e bE
behind_bits (for_c a ae second b be bases errors before after e) cE = entry_bits (input a ae (yes second) b be bases errors) before after e cE
behind_bits (in_reply a ae second b be bases errors r e z) aE = reply_bits (input a ae (yes second) b be bases errors) r e z aE
behind_bits (in_reply a ae second b be bases errors r e z) bE = reply_bits (input a ae (yes second) b be bases errors) r e z bE
behind_bits (in_reply a ae second b be bases errors r e z) cE = reply_bits (input a ae (yes second) b be bases errors) r e z cE
behind_bits (printed bytes line own t f) aE = column_bits bytes line own t f aE
behind_bits (printed bytes line own t f) bE = column_bits bytes line own t f bE
behind_bits (printed bytes line own t f) cE = column_bits bytes line own t f cE

pub equal_rates : EqualRates
equal_rates x p y q e d d' f g g' =
    let (there, back) = exact (error_sum x p) (depth_sum x p) (error_sum y q) (depth_sum y q) e d d' f g g' in
    (λ h. there (sym (behind_bits x p) ∙ h ∙ behind_bits y q), λ h. behind_bits x p ∙ back h ∙ sym (behind_bits y q))

pub close_rates : CloseRates
close_rates x p e d d' =
    subst (λ (b : ℕ). gap (rate.value_of b * depth_sum x p) (error_sum x p * 2 ^ 150) * 16777216 ≤ error_sum x p * 2 ^ 150) (sym (behind_bits x p))
    (close (error_sum x p) (depth_sum x p) e d d')
