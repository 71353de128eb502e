-- Document 01's own examples of thresholds, of the definitions. Assumes nothing.
use mathlib.Core.Path.{◌≡◌, refl}
use mathlib.Core.Bool.{true}
use Rattle.std.proofs.Common.{Ok, Err}
use mathlib.Core.List.{[], ◌∷◌}
use Rattle.refusals.specs.declared.Refusal.TheVariants.{TooManyThresholds, XyAboveTotal, YxAboveXy}
use Rattle.duplex_min_reads.specs.MinReads.{validated, single_strand}

pub record Examples : Type 0 where
  pub last_repeated : validated (3 ∷ 1 ∷ []) ≡ Ok (record { total = 3; xy = 1; yx = 1 })
  pub second_above_first : validated (1 ∷ 2 ∷ []) ≡ Err XyAboveTotal
  pub third_above_second : validated (3 ∷ 1 ∷ 2 ∷ []) ≡ Err YxAboveXy
  -- Several faults at once: the first row in the order.
  pub too_many_and_rising : validated (1 ∷ 2 ∷ 3 ∷ 4 ∷ []) ≡ Err TooManyThresholds
  pub yx_zero : single_strand (1 ∷ 1 ∷ 0 ∷ []) ≡ Ok true

pub examples : Examples
examples = record { last_repeated = refl; second_above_first = refl; third_above_second = refl; too_many_and_rising = refl; yx_zero = refl }
