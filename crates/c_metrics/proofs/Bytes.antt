-- Laws of the call on bytes.
--     entry_at, clear            its refusal: row 13, then the library's, then row 12; of a call that answered 0
--     told_given, odd_given      what the code has of the arguments
--     seen_as                    the arguments with a number for whether there is a second strand
--     narrow                     where the library's call is not refused, what is decoded fits its arrays
--     always                     metrics of arrays that no row refuses are not refused
--     refused_as, written_as     what a call answers and leaves
--     entry_written, entry_told  the same with the answer as a number
-- Assumes nothing.
use mathlib.Core.Path.{◌≡◌, refl, sym, ap, subst, ◌∙◌}
use mathlib.Core.Bool.{Bool, true, false, cond, ◌||◌}
use mathlib.Core.List.{List}
use Prim.Native.Nat.{ℕ, ◌≤◌}
use native.Mathlib.Omega.{arith}
use borrow.Author.Tests.{ltb-false, eqb-false}
use lib.Dec.{ltb}
use lib.ListN.{length}
use Rattle.std.proofs.Common.{Option, Some, None, Result, Ok, Err}
use Rattle.std.specs.Bool.{then_some}
use Rattle.lists.specs.Output.{put}
use Rattle.lists.specs.Part.{only_if}
use Rattle.byte_numbers.specs.Bytes.{odd_count, bytes32}
use Rattle.byte_numbers.proofs.Bytes.{length_numbers}
use Rattle.refusals.specs.declared.Refusal.{Refusal}
use Rattle.refusals.specs.declared.Refusal.TheVariants.{Broken, TooLong, Ragged, OutputTooShort}
use Rattle.refusals.specs.Refusal.{refused, number_of, number_or_0}
use Rattle.refusals.specs.Outcome.{answer, or_later}
use Rattle.refusals.proofs.InOrder.{numbered_from_1}
use Rattle.refusals.proofs.Outcome.{refused_by, passed_by}
use Rattle.duplex_metrics.specs.Metrics.{Input, input, input_of, lengths, lengths_in, second_lengths, metrics_refused, metrics_faults, metrics_of, record_of}
use Rattle.duplex_metrics.specs.declared.MetricsLengths.{MetricsLengths}
use Rattle.duplex_metrics.proofs.Few.{few}
use Rattle.metrics_bits.specs.Bits.{metrics_words}
use Rattle.metrics_bits.specs.declared.MetricsBits.{MetricsBits}
use Rattle.c_metrics.specs.Bytes.{Narrow, MetricsAs, MetricsEntry, seen, halved_lengths, decoded, odd_bytes, odd_counts, entry_refused, record_words}
use Rattle.duplex_metrics.specs.declared.Counts.{Counts}

abbrev short_row : Bool → Option Refusal
short_row short = cond short (Some OutputTooShort) None

rows : (long uneven short : Bool) → cond long (Some TooLong) (cond uneven (Some Ragged) (short_row short)) ≡ or_later (cond long (Some TooLong) (cond uneven (Some Ragged) None)) (short_row short)
rows true uneven short = refl
rows false true short = refl
rows false false short = refl

entry_is : (x : Input) (before : List ℕ) → entry_refused x before ≡ cond (odd_counts x) (Some Broken) (or_later (metrics_refused (decoded x)) (short_row (ltb (length before) 40)))
entry_is x before = ap (λ (o : Option Refusal). cond (odd_counts x) (Some Broken) o) (rows _ _ (ltb (length before) 40))

-- By the outcome of each test.
pub entry_at :
    (x : Input) (before : List ℕ) (o : Bool) (m : Option Refusal) (s : Bool)
    → odd_counts x ≡ o
    → metrics_refused (decoded x) ≡ m
    → ltb (length before) 40 ≡ s
    → entry_refused x before ≡ cond o (Some Broken) (or_later m (short_row s))
entry_at x before o m s e f g =
    entry_is x before
    ∙ ap (λ (b : Bool). cond b (Some Broken) (or_later (metrics_refused (decoded x)) (short_row (ltb (length before) 40)))) e
    ∙ ap (λ (r : Option Refusal). cond o (Some Broken) (or_later r (short_row (ltb (length before) 40)))) f
    ∙ ap (λ (b : Bool). cond o (Some Broken) (or_later m (short_row b))) g

-- The code tests the second strand, which may be absent, last.
strand_last : (p q r s t : Bool) → ((p || q) || t) || (r || s) ≡ p || (q || (r || (s || t)))
strand_last true q r s t = refl
strand_last false true r s t = refl
strand_last false false true s true = refl
strand_last false false true s false = refl
strand_last false false false true true = refl
strand_last false false false true false = refl
strand_last false false false false true = refl
strand_last false false false false false = refl

module _ (a : Counts ℕ) (bases errors : List ℕ) where
  abbrev byte_counts : Option (Counts ℕ) → MetricsLengths
  byte_counts b = record { a = lengths_in a; b = second_lengths b; bases = length bases; errors = length errors }

  lengths_given :
      (b : Option (Counts ℕ))
      → halved_lengths (byte_counts b) ≡ lengths (decoded (input_of a b bases errors))
  lengths_given None = simp length_numbers
  lengths_given (Some b) = simp length_numbers

  pub told_given :
      (b : Option (Counts ℕ)) {n m : MetricsLengths} {told : Result (Unit {0}) Refusal}
      → n ≡ byte_counts b
      → m ≡ halved_lengths n
      → told ≡ answer (refused (metrics_faults m)) tt
      → told ≡ answer (metrics_refused (decoded (input_of a b bases errors))) tt
  told_given b n m e =
      e ∙ rw (m, n) (ap (λ (l : MetricsLengths). answer (refused (metrics_faults l)) tt) (lengths_given b))

  pub odd_given : (b : Option (Counts ℕ)) {n : MetricsLengths} {odd : Bool} → n ≡ byte_counts b → odd ≡ odd_bytes n → odd ≡ odd_counts (input_of a b bases errors)
  odd_given None n e =
      e ∙ rw n (strand_last (odd_count (length a.depths.now)) (odd_count (length a.errors.now)) false false (odd_count (length errors)))
  odd_given (Some b) n e =
      e
      ∙ rw n (strand_last (odd_count (length a.depths.now)) (odd_count (length a.errors.now)) (odd_count (length b.depths.now)) (odd_count (length b.errors.now)) (odd_count (length errors)))

  pub narrow : (b : Option (Counts ℕ)) → metrics_refused (decoded (input_of a b bases errors)) ≡ None → Narrow (input_of a b bases errors)
  narrow b z = go b z
    where
      go : (b : Option (Counts ℕ)) → metrics_refused (decoded (input_of a b bases errors)) ≡ None → Narrow (input_of a b bases errors)
      go None z =
          let s = few (lengths (decoded (input_of a None bases errors))) z in
          record {
            a = omega (arith, s.a.depths, length_numbers 2 a.depths.now);
            a_errors = omega (arith, s.a.errors, length_numbers 2 a.errors.now);
            b = omega arith;
            b_errors = omega arith;
            errors = omega (arith, s.errors, length_numbers 2 errors);
          }
      go (Some b) z =
          let s = few (lengths (decoded (input_of a (Some b) bases errors))) z in
          record {
            a = omega (arith, s.a.depths, length_numbers 2 a.depths.now);
            a_errors = omega (arith, s.a.errors, length_numbers 2 a.errors.now);
            b = omega (arith, s.b.depths, length_numbers 2 b.depths.now);
            b_errors = omega (arith, s.b.errors, length_numbers 2 b.errors.now);
            errors = omega (arith, s.errors, length_numbers 2 errors);
          }

-- An absent second strand's bytes are not looked at.
second_seen :
    (a b : Counts ℕ) (second : Bool) (bases errors : List ℕ)
    → input_of a (then_some second b) bases errors ≡ seen (input a.depths.now a.errors.now second b.depths.now b.errors.now bases errors)
unfolding only_if
second_seen a b true bases errors = refl
second_seen a b false bases errors = refl

pub seen_as :
    (a b : Counts ℕ) (second : Bool) (bases errors before : List ℕ) {given : Option (Counts ℕ)} {now : List ℕ} {r : Result (Unit {0}) Refusal}
    → given ≡ then_some second b
    → MetricsAs (input_of a given bases errors) before now r
    → MetricsAs (seen (input a.depths.now a.errors.now second b.depths.now b.errors.now bases errors)) before now r
seen_as a b second bases errors before {given} {now} {r} e m =
    subst (λ (x : Input). MetricsAs x before now r) (ap (λ (o : Option (Counts ℕ)). input_of a o bases errors) e ∙ second_seen a b second bases errors) m

pub always : (x : Input) → metrics_refused x ≡ None → {e : Refusal} → metrics_words (metrics_of x) ≡ Err e → ⊥
always x z {e} h =
    let made = ap (λ (row : Option Refusal). metrics_words (answer row (record_of x))) z in
    cc

module _ (x : Input) (before : List ℕ) where
  pub refused_as : {e : Refusal} {r : Result (Unit {0}) Refusal} → r ≡ Err e → entry_refused x before ≡ Some e → MetricsAs x before before r
  refused_as h e = record { answered = h ∙ ap (λ (row : Option Refusal). answer {A = Unit {0}} row tt) (sym e); left = rw e }

  pub written_as : {now : List ℕ} {m : MetricsBits} → entry_refused x before ≡ None → metrics_words (metrics_of (decoded x)) ≡ Ok m → now ≡ put (bytes32 (record_words m)) before → MetricsAs x before now (Ok tt)
  written_as e f w = record { answered = rw e; left = w ∙ rw (e, f) }

  -- With the answer as a number.
  pub entry_written : {now : List ℕ} {u : Unit {0}} → MetricsAs x before now (Ok u) → MetricsEntry x before now 0
  entry_written m = record { answered = sym (ap number_or_0 (passed_by (entry_refused x before) tt (sym m.answered)).0); left = m.left }

  pub entry_told : {now : List ℕ} {e : Refusal} {n : ℕ} → MetricsAs x before now (Err e) → n ≡ number_of e → MetricsEntry x before now n
  entry_told m h = record { answered = h ∙ sym (ap number_or_0 (refused_by (entry_refused x before) tt (sym m.answered))); left = m.left }

  pub clear : number_or_0 (entry_refused x before) ≡ 0 → (metrics_refused (decoded x) ≡ None) × (40 ≤ length before)
  clear z =
      let (passed, room) = go (odd_counts x) (metrics_refused (decoded x)) (ltb (length before) 40) (sym (ap number_or_0 (entry_is x before)) ∙ z) in
      (passed, ltb-false (length before) 40 room)
    where
      go : (o : Bool) (m : Option Refusal) (s : Bool) → number_or_0 (cond o (Some Broken) (or_later m (short_row s))) ≡ 0 → (m ≡ None) × (s ≡ false)
      go true m s z = absurd (omega (arith, z))
      go false (Some row) s z = absurd (eqb-false (number_of row) 0 (numbered_from_1 row) z)
      go false None true z = absurd (omega (arith, z))
      go false None false z = (refl, refl)
