-- A record's report from the first 1,024 numbers of each array of a strand is that from all. A record of more positions is refused by
-- its gate, whatever its strands are.
--     from_read     a report from what was read of each array of two strands
--     own_read      the same as the code has it
-- Assumes nothing.
use mathlib.Core.Path.{◌≡◌, refl, sym, ap, ◌∙◌}
use mathlib.Core.Bool.{Bool, true, false, true≢false}
use mathlib.Core.List.{List, [], ◌∷◌, ◌++◌}
use Prim.Native.Nat.{ℕ, ◌<◌}
use borrow.Author.Tests.{ltb-true, ltb-false, lt-ltb}
use lib.Dec.{ltb}
use lib.ListN.{length, take}
use lib.Seq.{take-nil, take-take}
use Rattle.std.proofs.Common.{Option, None, Some, Result}
use Rattle.byte_numbers.specs.Bytes.{words16}
use Rattle.refusals.specs.declared.Refusal.{Refusal}
use Rattle.refusals.specs.declared.Refusal.TheVariants.{TooLong}
use Rattle.refusals.specs.Refusal.{◌if◌, too_long, refused}
use Rattle.refusals.specs.Outcome.{answer}
use Rattle.refusals.proofs.Claims.{none_lost}
use Rattle.duplex_min_reads.specs.MinReads.{faults, min_reads, reaches_all}
use Rattle.duplex_gate.specs.ConsensusGate.{largest_within, consensus_gate}
use Rattle.duplex_metrics.specs.Metrics.{Input, input, input_given}
use Rattle.duplex_metrics.specs.declared.Counts.{Counts}
use Rattle.duplex_metrics.specs.declared.MetricsInput.{MetricsInput}
use Rattle.metrics_bits.specs.declared.MetricsBits.{MetricsBits}
use Rattle.molecule_counts.specs.Counts.{CountedArrays, DecodedTo, zero_counts, arrays_in, second_in}
use Rattle.line_format.specs.declared.Kind.{Kind}
use Rattle.line_report.specs.Report.{input_in, front_input, gated_report, judged, record_report}
use Rattle.line_report.specs.Within.{first_read, second_read}
use Rattle.line_report.specs.declared.Report.{Report}
use Rattle.line_report.proofs.Read.{first_is}

-- What refuses a record of over 1,024 positions.
abbrev long_row : List ℕ → Option Refusal
long_row ts = refused (faults ts ++ ((TooLong if true) ∷ []))

always : (ts : List ℕ) → long_row ts ≡ None → ⊥
always ts e = true≢false (none_lost (faults ts ++ ((TooLong if true) ∷ [])) e).1.1.1.1.0

long_gate : (n : ℕ) (ab ba ts : List ℕ) → 1024 < n → consensus_gate n ab ba ts ≡ answer (long_row ts) (reaches_all (min_reads ts) (largest_within n ab) (largest_within n ba))
long_gate n ab ba ts h = rw met
  where
    met : too_long (n ∷ length ab ∷ length ba ∷ []) ≡ true
    met = rw (lt-ltb 1024 n h)

-- Such a gate's refusal is what is reported.
refused_alike : (kind : Kind) (n : ℕ) (row : Option Refusal) (x y : Bool) (m w : Result MetricsBits Refusal) → (row ≡ None → ⊥) → gated_report kind n (answer row x) m ≡ gated_report kind n (answer row y) w
refused_alike kind n None x y m w h = absurd (h refl)
refused_alike kind n (Some row) x y m w h = refl

long_judged : (kind : Kind) (n : ℕ) (x y : Input) (ts : List ℕ) → 1024 < n → judged kind n x ts ≡ judged kind n y ts
long_judged kind n x y ts h = rw (long_gate n x.a x.b ts h, long_gate n y.a y.b ts h) (refused_alike kind n (long_row ts) _ _ _ _ (always ts))

module _ (kind : Kind) (n : ℕ) (second : Bool) (a ae b be bases errors ts : List ℕ) where
  abbrev whole : Result Report Refusal
  whole = record_report kind n (input a ae second b be bases errors) ts

  alike : judged kind n (input (take n (take 1024 a)) (take n (take 1024 ae)) second (take n (take 1024 b)) (take n (take 1024 be)) (take n bases) (take n errors)) ts ≡ whole
  alike = go (ltb 1024 n) refl
    where
      go : (long : Bool) → ltb 1024 n ≡ long → judged kind n (input (take n (take 1024 a)) (take n (take 1024 ae)) second (take n (take 1024 b)) (take n (take 1024 be)) (take n bases) (take n errors)) ts ≡ whole
      go true e =
          long_judged kind n
          (input (take n (take 1024 a)) (take n (take 1024 ae)) second (take n (take 1024 b)) (take n (take 1024 be)) (take n bases) (take n errors))
          (front_input n (input a ae second b be bases errors)) ts (ltb-true 1024 n e)
      go false e =
          let h = ltb-false 1024 n e in
          rw (take-take n 1024 a h, take-take n 1024 ae h, take-take n 1024 b h, take-take n 1024 be h)

  -- From what was read of each array.
  pub from_read :
      {x y z w : List ℕ} {r : Result Report Refusal}
      → x ≡ take n (take 1024 a)
      → y ≡ take n (take 1024 ae)
      → z ≡ take n (take 1024 b)
      → w ≡ take n (take 1024 be)
      → r ≡ judged kind n (input x y second z w (take n bases) (take n errors)) ts
      → r ≡ whole
  from_read ex ey ez ew e = e ∙ rw (ex, ey, ez, ew) alike

-- An absent strand has no numbers.
none_read : (n : ℕ) → ◌≡◌ {A = List ℕ} [] (take n (take 1024 []))
none_read n = sym (take-nil n)

-- The same as the code has it: what of the strands was read, as many of each of the others, and what of the record.
pub own_read :
    (kind : Kind) (n : ℕ) (a : Counts ℕ) (b : Option (Counts ℕ)) (bases errors ts : List ℕ) (x : MetricsInput ℕ ℕ) (own : Counts ℕ) (given : Option (Counts ℕ)) (a_read b_read : CountedArrays) {r : Result Report Refusal}
    → DecodedTo (Some a) zero_counts a_read
    → DecodedTo b zero_counts b_read
    → arrays_in own ≡ first_read n a a_read
    → second_in given ≡ second_read n b b_read
    → (x.a ≡ own) × (x.b ≡ given) × (x.bases.now ≡ take n bases) × (x.errors.now ≡ take n errors)
    → r ≡ judged kind n (input_given x) ts
    → r ≡ record_report kind n (input_in a b bases errors) ts
own_read kind n a None bases errors ts x own None a_read b_read ra rb f g is e =
    from_read kind n false (words16 a.depths.now) (words16 a.errors.now) [] [] bases errors ts (ap (λ (s : CountedArrays). s.depths) f ∙ first_is a.depths.now ra.0 n) (ap (λ (s : CountedArrays). s.errors) f ∙ first_is a.errors.now ra.1 n) (none_read n) (none_read n)
    (e ∙ rw (is.0, is.1, is.2, is.3) refl)
own_read kind n a None bases errors ts x own (Some s) a_read b_read ra rb f g is e = absurd cc
own_read kind n a (Some b) bases errors ts x own None a_read b_read ra rb f g is e = absurd cc
own_read kind n a (Some b) bases errors ts x own (Some s) a_read b_read ra rb f g is e =
    let both : arrays_in s ≡ first_read n b b_read = cc in
    from_read kind n true (words16 a.depths.now) (words16 a.errors.now) (words16 b.depths.now) (words16 b.errors.now) bases errors ts
    (ap (λ (s : CountedArrays). s.depths) f ∙ first_is a.depths.now ra.0 n) (ap (λ (s : CountedArrays). s.errors) f ∙ first_is a.errors.now ra.1 n)
    (ap (λ (s : CountedArrays). s.depths) both ∙ first_is b.depths.now rb.0 n) (ap (λ (s : CountedArrays). s.errors) both ∙ first_is b.errors.now rb.1 n)
    (e ∙ rw (is.0, is.1, is.2, is.3) refl)
