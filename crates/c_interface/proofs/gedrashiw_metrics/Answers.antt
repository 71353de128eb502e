-- `c_interface::gedrashiw_metrics` meets its contract: the call on bytes, of which an absent second strand's are not looked at. Assumes
-- nothing.
use mathlib.Core.Path.{◌≡◌}
use mathlib.Core.List.{List}
use Prim.Native.Nat.{ℕ}
use Rattle.std.proofs.Common.{Result, Ok, Err, rules}
use Rattle.std.specs.Prelude.{MatchResult}
use Rattle.refusals.specs.declared.Refusal.{Refusal}
use Rattle.refusals.specs.Refusal.{number_of}
use Rattle.replies.specs.Choices.{yes}
use Rattle.duplex_metrics.specs.Metrics.{Input}
use Rattle.duplex_metrics.specs.declared.Counts.{Counts}
use Rattle.c_metrics.specs.Bytes.{MetricsAs, MetricsEntry}
use Rattle.c_metrics.proofs.Bytes.{seen_as, entry_written, entry_told}
use Rattle.c_interface.proofs.gedrashiw_metrics.Goals as goal

-- The number, by what the call on bytes answered.
by_answer :
    {x : Input} {before now : List ℕ} {n : ℕ} (r : Result (Unit {0}) Refusal)
    → MetricsAs x before now r
    → MatchResult r (λ _. n ≡ 0) (λ refusal. n ≡ number_of refusal)
    → MetricsEntry x before now n
by_answer {x} {before} (Ok u) m e = rw e (entry_written x before m)
by_answer {x} {before} (Err refusal) m e = entry_told x before m e

pub returns : goal.returns
returns c =
    let x = c.args in
    let a : Counts ℕ = record { depths = x.a_depths; errors = x.a_errors } in
    let b : Counts ℕ = record { depths = x.b_depths; errors = x.b_errors } in
    by_answer {n = c.map_or_else.result} c.metrics_of_bytes.result (seen_as a b (yes x.second) x.bases.now x.errors.now x.out.now c.then_some-b.ensures c.metrics_of_bytes.ensures) (search (rules, c.map_or_else.ensures))
