-- A strand that row 7 does not refuse has at most 1,024 positions an array. Assumes nothing.
use mathlib.Core.Path.{◌≡◌}
use mathlib.Core.Bool.{false}
use Prim.Native.Nat.{◌≤◌}
use Rattle.std.proofs.Common.{Option, Some, None}
use Rattle.std.specs.Option.{IfSome, option_map_or}
use Rattle.refusals.specs.Refusal.{too_long}
use Rattle.refusals.proofs.Condition.{Every, neither, not_too_long}
use Rattle.methylation.specs.Arrays.{three, evidence_too_long}
use Rattle.methylation.specs.declared.EvidenceLengths.{EvidenceLengths}
use Rattle.vanilla_caller.specs.Strand.{four, strand_too_long}
use Rattle.vanilla_caller.specs.declared.Lengths.{Lengths}

few_places : (evidence : Option EvidenceLengths) → option_map_or evidence_too_long evidence false ≡ false → IfSome evidence (λ e. Every (λ n. n ≤ 1024) (three e))
few_places None h = tt
few_places (Some e) h = not_too_long (three e) h

pub not_long : (s : Lengths) → strand_too_long s ≡ false → Every (λ n. n ≤ 1024) (four s) × IfSome s.evidence (λ e. Every (λ n. n ≤ 1024) (three e))
not_long s h =
    let (all, more) = neither (too_long (four s)) _ h in
    (not_too_long (four s) all, few_places s.evidence more)
