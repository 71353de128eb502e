-- Readings that the definition shuts out, at numbers. Assumes nothing.
use mathlib.Core.Path.{◌≡◌, refl}
use mathlib.Core.Bool.{true, false}
use mathlib.Core.List.{[], ◌∷◌}
use Rattle.std.proofs.Common.{Ok, Err}
use Rattle.refusals.specs.declared.Refusal.TheVariants.{NoThresholds}
use Rattle.duplex_gate.specs.ConsensusGate.{consensus_gate}

pub record Examples : Type 0 where
  -- A depth past the record's length does not count.
  pub within : consensus_gate 1 (1 ∷ 2 ∷ []) (1 ∷ []) (3 ∷ 1 ∷ []) ≡ Ok false
  -- The larger depth is XY, whichever strand has it.
  pub larger : consensus_gate 1 (1 ∷ []) (2 ∷ []) (3 ∷ 2 ∷ 1 ∷ []) ≡ Ok true
  -- The thresholds are looked at before the strands.
  pub thresholds_first : consensus_gate 1025 [] [] [] ≡ Err NoThresholds

pub examples : Examples
examples = record { within = refl; larger = refl; thresholds_first = refl }
