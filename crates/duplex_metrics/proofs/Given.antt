-- A call's arguments, of which the second strand may be absent.
--     told_given, record_given        what the code has of them
--     second_given                    of a second strand whose arrays come with whether it is there
--     refused_alike, passed_alike     an answer that is refused, and one that is not, whatever it tells
-- Assumes nothing.
use mathlib.Core.Path.{◌≡◌, refl, ap, ◌∙◌}
use mathlib.Core.Bool.{Bool, true, false}
use mathlib.Core.List.{List}
use Prim.Native.Nat.{ℕ}
use lib.ListN.{length}
use Rattle.std.proofs.Common.{Option, Some, None, Result, Ok, Err}
use Rattle.std.specs.Bool.{then_some}
use Rattle.lists.specs.Part.{only_if}
use Rattle.refusals.specs.declared.Refusal.{Refusal}
use Rattle.refusals.specs.Refusal.{refused}
use Rattle.refusals.specs.Outcome.{answer}
use Rattle.duplex_metrics.specs.Metrics.{strand_figures, record_figures, record_no_calls, metrics_record, lengths, metrics_faults, metrics_refused, record_of, metrics_of, input, input_of, lengths_in, second_lengths, depths_in, figures_in_counts}
use Rattle.duplex_metrics.specs.declared.Counts.{Counts}
use Rattle.duplex_metrics.specs.declared.MetricsLengths.{MetricsLengths}
use Rattle.duplex_metrics.specs.declared.MetricsRecord.{MetricsRecord}

module _ (a : Counts ℕ) (bases errors : List ℕ) where
  abbrev lengths_by : Option (Counts ℕ) → MetricsLengths
  lengths_by b = record { a = lengths_in a; b = second_lengths b; bases = length bases; errors = length errors }

  abbrev record_by : Option (Counts ℕ) → MetricsRecord
  record_by b =
      metrics_record (strand_figures a.depths.now a.errors.now) (figures_in_counts b) (record_figures a.depths.now (depths_in b) errors)
      (record_no_calls a.depths.now (depths_in b) bases)

  lengths_given : (b : Option (Counts ℕ)) → lengths_by b ≡ lengths (input_of a b bases errors)
  lengths_given None = refl
  lengths_given (Some b) = refl

  pub told_given :
      (b : Option (Counts ℕ)) {n : MetricsLengths} {told : Result (Unit {0}) Refusal}
      → n ≡ lengths_by b
      → told ≡ answer (refused (metrics_faults n)) tt
      → told ≡ answer (metrics_refused (input_of a b bases errors)) tt
  told_given b n e = e ∙ ap (λ (l : MetricsLengths). answer (refused (metrics_faults l)) tt) (n ∙ lengths_given b)

  pub record_given : (b : Option (Counts ℕ)) → record_by b ≡ record_of (input_of a b bases errors)
  unfolding only_if
  record_given None = refl
  record_given (Some b) = refl

-- An absent second strand's arrays are not looked at.
pub second_given :
    (a b : Counts ℕ) (second : Bool) (bases errors : List ℕ)
    → metrics_of (input_of a (then_some second b) bases errors) ≡ metrics_of (input a.depths.now a.errors.now second b.depths.now b.errors.now bases errors)
unfolding only_if
second_given a b true bases errors = refl
second_given a b false bases errors = refl

module _ {A : Type 0} (row : Option Refusal) (x : A) where
  pub refused_alike : {e : Refusal} → answer {A = Unit {0}} row tt ≡ Err e → Err e ≡ answer row x
  refused_alike h = go row h
    where
      go : (row : Option Refusal) {e : Refusal} → answer {A = Unit {0}} row tt ≡ Err e → Err e ≡ answer row x
      go None h = absurd cc
      go (Some row) h = cc

  pub passed_alike : {u : Unit {0}} → answer {A = Unit {0}} row tt ≡ Ok u → Ok x ≡ answer row x
  passed_alike h = go row h
    where
      go : (row : Option Refusal) {u : Unit {0}} → answer {A = Unit {0}} row tt ≡ Ok u → Ok x ≡ answer row x
      go None h = refl
      go (Some row) h = absurd cc
