-- Where the metrics are not refused, no array that is looked at has over 1,024 elements, and those of one strand or record have as many each.
--     few          what passing means
--     second_few   of a call's arguments, where there is a second strand
--     only_few     of an array of the second strand, where there is one
-- Assumes nothing.
use mathlib.Core.Path.{◌≡◌, refl}
use mathlib.Core.Bool.{Bool, true, false, ◌||◌}
use mathlib.Core.List.{List, [], ◌∷◌}
use Prim.Native.Nat.{ℕ, ◌≤◌}
use native.Mathlib.Omega.{arith}
use lib.ListN.{length}
use Rattle.std.proofs.Common.{Option, Some, None, IfSome}
use Rattle.lists.specs.Part.{only_if}
use Rattle.refusals.specs.Refusal.{too_long, ragged, refused}
use Rattle.refusals.proofs.Claims.{none_lost}
use Rattle.refusals.proofs.Condition.{neither, not_too_long, not_ragged}
use Rattle.duplex_metrics.specs.Metrics.{Input, lengths, metrics_faults, counts_long, counts_ragged, of_second}
use Rattle.duplex_metrics.specs.declared.CountsLengths.{CountsLengths}
use Rattle.duplex_metrics.specs.declared.MetricsLengths.{MetricsLengths}

pub record FewCounts (n : CountsLengths) : Type 0 where
  pub depths : n.depths ≤ 1024
  pub errors : n.errors ≤ 1024
  pub same : n.errors ≡ n.depths

pub record Few (n : MetricsLengths) : Type 0 where
  pub a : FewCounts n.a
  pub b : IfSome n.b FewCounts
  pub bases : n.bases ≤ 1024
  pub errors : n.errors ≤ 1024
  pub same : n.errors ≡ n.bases

few_counts : (n : CountsLengths) → counts_long n ≡ false → counts_ragged n ≡ false → FewCounts n
few_counts n short even =
    let each = not_too_long (n.depths ∷ n.errors ∷ []) short in
    record { depths = each.0; errors = each.1.0; same = (not_ragged n.depths (n.errors ∷ []) even).0 }

few_second : (n : Option CountsLengths) → of_second counts_long n ≡ false → of_second counts_ragged n ≡ false → IfSome n FewCounts
few_second None short even = tt
few_second (Some n) short even = few_counts n short even

pub few : (n : MetricsLengths) → refused (metrics_faults n) ≡ None → Few n
few n z =
    let clear = none_lost (metrics_faults n) z in
    let (short, short_second) = neither (counts_long n.a || too_long (n.bases ∷ n.errors ∷ [])) (of_second counts_long n.b) clear.0 in
    let (short_a, short_record) = neither (counts_long n.a) (too_long (n.bases ∷ n.errors ∷ [])) short in
    let (even, even_second) = neither (counts_ragged n.a || ragged (n.bases ∷ n.errors ∷ [])) (of_second counts_ragged n.b) clear.1.0 in
    let (even_a, even_record) = neither (counts_ragged n.a) (ragged (n.bases ∷ n.errors ∷ [])) even in
    let each = not_too_long (n.bases ∷ n.errors ∷ []) short_record in
    record {
      a = few_counts n.a short_a even_a;
      b = few_second n.b short_second even_second;
      bases = each.0;
      errors = each.1.0;
      same = (not_ragged n.bases (n.errors ∷ []) even_record).0;
    }

-- Of a call's arguments: the second strand's arrays, where there is one.
pub second_few : (x : Input) → Few (lengths x) → x.second ≡ true → (length x.b ≤ 1024) × (length x.b_errors ≤ 1024)
second_few x f h = let b = rw h at f.b in (b.depths, b.errors)

pub only_few : (second : Bool) (xs : List ℕ) → (second ≡ true → length xs ≤ 1024) → length (only_if second xs) ≤ 1024
unfolding only_if
only_few true xs h = h refl
only_few false xs h = omega arith
