-- Neither the gate nor the metrics refuse a record of at most 1,024 positions whose strands have as many errors as depths, once the
-- thresholds are valid: `own_report`. Assumes nothing.
use mathlib.Core.Path.{◌≡◌, refl, ap, ◌∙◌}
use mathlib.Core.Bool.{Bool, true, false, cond, ◌||◌}
use mathlib.Core.List.{List, [], ◌∷◌}
use Prim.Native.Nat.{ℕ, ◌≤◌}
use native.Mathlib.Omega.{arith}
use borrow.Author.Tests.{le-ltb, eq-eqb}
use lib.ListN.{length, take, length-take}
use Rattle.std.proofs.Common.{Option, Some, None, Result, Ok}
use Rattle.refusals.specs.declared.Refusal.{Refusal}
use Rattle.refusals.specs.Refusal.{too_long, ragged}
use Rattle.refusals.specs.Outcome.{answer}
use Rattle.duplex_min_reads.specs.MinReads.{min_reads, refused, reaches_all}
use Rattle.duplex_gate.specs.ConsensusGate.{largest_within, consensus_gate}
use Rattle.duplex_gate.proofs.Gate.{within}
use Rattle.duplex_metrics.specs.Metrics.{Input, counts_lengths, counts_long, counts_ragged, of_second, lengths, metrics_refused, record_of, metrics_of}
use Rattle.duplex_metrics.specs.declared.CountsLengths.{CountsLengths}
use Rattle.metrics_bits.specs.Bits.{in_bits, metrics_words}
use Rattle.metrics_bits.specs.declared.MetricsBits.{MetricsBits}
use Rattle.line_format.specs.declared.Kind.{Kind}
use Rattle.line_report.specs.Report.{measured_report, gated_report, front_input, record_report}
use Rattle.line_report.specs.declared.Report.{Report}

abbrev pub report_as : Kind → ℕ → Bool → MetricsBits → Report
report_as kind n kept metrics = record { kind = kind; positions = n; kept = kept; metrics = metrics }

-- A report that is no refusal.
pub record Measured (kind : Kind) (n : ℕ) (r : Result Report Refusal) : Type 0 where
  pub kept : Bool
  pub metrics : MetricsBits
  pub is : r ≡ Ok (report_as kind n kept metrics)

-- A record's arrays, before they are cut to its length.
pub record Even (n : ℕ) (x : Input) : Type 0 where
  pub small : n ≤ 1024
  pub first : length x.a ≡ length x.a_errors
  pub other : x.second ≡ true → length x.b ≡ length x.b_errors
  pub bases : 1024 ≤ length x.bases
  pub errors : 1024 ≤ length x.errors

module _ (n : ℕ) (x : Input) (ok : Even n x) (ts : List ℕ) (z : refused ts ≡ None) where
  abbrev y : Input
  y = front_input n x

  cut : (l : List ℕ) → length (take n l) ≤ n
  cut l = omega (arith, length-take n l)

  same_cut : (k l : List ℕ) → length k ≡ length l → length (take n k) ≡ length (take n l)
  same_cut k l e = omega (arith, length-take n k, length-take n l)

  all_of : (l : List ℕ) → 1024 ≤ length l → length (take n l) ≡ n
  all_of l h = omega (arith, length-take n l, ok.small)

  few : (l : List ℕ) → length (take n l) ≤ 1024
  few l = omega (arith, cut l, ok.small)

  gate_short : too_long (n ∷ length y.a ∷ length y.b ∷ []) ≡ false
  gate_short = rw (le-ltb 1024 n ok.small, le-ltb 1024 (length (take n x.a)) (few x.a), le-ltb 1024 (length (take n x.b)) (few x.b))

  reached : Bool
  reached = reaches_all (min_reads ts) (largest_within n y.a) (largest_within n y.b)

  gate_is : consensus_gate n y.a y.b ts ≡ Ok reached
  unfolding reached
  gate_is = within n y.a y.b ts gate_short ∙ ap (λ (row : Option Refusal). answer row (reaches_all (min_reads ts) (largest_within n y.a) (largest_within n y.b))) z

  abbrev other_lengths : Bool → Option CountsLengths
  other_lengths second = cond second (Some (counts_lengths y.b y.b_errors)) None

  long_none : ((counts_long (lengths y).a || too_long (length y.bases ∷ length y.errors ∷ [])) || of_second counts_long (lengths y).b) ≡ false
  long_none =
      rw
      (le-ltb 1024 (length (take n x.a)) (few x.a), le-ltb 1024 (length (take n x.a_errors)) (few x.a_errors), le-ltb 1024 (length (take n x.bases)) (few x.bases), le-ltb 1024 (length (take n x.errors)) (few x.errors))
      (go x.second)
    where
      go : (second : Bool) → of_second counts_long (other_lengths second) ≡ false
      go true = rw (le-ltb 1024 (length (take n x.b)) (few x.b), le-ltb 1024 (length (take n x.b_errors)) (few x.b_errors))
      go false = refl

  ragged_none : ((counts_ragged (lengths y).a || ragged (length y.bases ∷ length y.errors ∷ [])) || of_second counts_ragged (lengths y).b) ≡ false
  ragged_none =
      let a : length (take n x.a_errors) ≡ length (take n x.a) = omega (arith, same_cut x.a x.a_errors ok.first) in
      let r : length (take n x.errors) ≡ length (take n x.bases) = omega (arith, all_of x.errors ok.errors, all_of x.bases ok.bases) in
      rw (eq-eqb _ _ a, eq-eqb _ _ r) (go x.second ok.other)
    where
      go : (second : Bool) → (second ≡ true → length x.b ≡ length x.b_errors) → of_second counts_ragged (other_lengths second) ≡ false
      go true same =
          let b : length (take n x.b_errors) ≡ length (take n x.b) = omega (arith, same_cut x.b x.b_errors (same refl)) in
          rw (eq-eqb _ _ b)
      go false same = refl

  metrics_none : metrics_refused y ≡ None
  metrics_none = rw (long_none, ragged_none)

  metrics_is : metrics_words (metrics_of y) ≡ Ok (in_bits (record_of y))
  metrics_is = ap (λ (row : Option Refusal). metrics_words (answer row (record_of y))) metrics_none

  pub own_report : (kind : Kind) → Measured kind n (record_report kind n x ts)
  own_report kind = record {
    kept = reached;
    metrics = in_bits (record_of y);
    is = ap (λ (g : Result Bool Refusal). gated_report kind n g (metrics_words (metrics_of y))) gate_is ∙ ap (λ (w : Result MetricsBits Refusal). measured_report kind n reached w) metrics_is;
  }
