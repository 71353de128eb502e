-- The consensus gate's answer, by whether a length is over 1,024.
--     within     none is: the thresholds alone refuse
--     long       one is: it is refused, by the thresholds or by its length
-- Assumes nothing.
use mathlib.Core.Path.{◌≡◌, refl}
use mathlib.Core.Bool.{Bool, true, false, cond}
use mathlib.Core.List.{List, [], ◌∷◌}
use Prim.Native.Nat.{ℕ}
use lib.Dec.{eqb, ltb}
use lib.ListN.{length}
use Rattle.std.proofs.Common.{Option, Some, None, Err}
use Rattle.refusals.specs.declared.Refusal.{Refusal}
use Rattle.refusals.specs.declared.Refusal.TheVariants.{NoThresholds, TooManyThresholds, XyAboveTotal, YxAboveXy, TooLong}
use Rattle.refusals.specs.Refusal.{too_long}
use Rattle.refusals.specs.Outcome.{answer}
use Rattle.duplex_min_reads.specs.MinReads.{refused, min_reads, reaches_all, total, xy, yx}
use Rattle.duplex_gate.specs.ConsensusGate.{largest_within, consensus_gate}

abbrev pub or_long : Option Refusal → Refusal
or_long None = TooLong
or_long (Some row) = row

-- The thresholds' rows, and what is behind them.
abbrev pub rows : Bool → Bool → Bool → Bool → Option Refusal → Option Refusal
rows a b c d e = cond a (Some NoThresholds) (cond b (Some TooManyThresholds) (cond c (Some XyAboveTotal) (cond d (Some YxAboveXy) e)))

module _ (n : ℕ) (ab ba ts : List ℕ) where
  pub within : too_long (n ∷ length ab ∷ length ba ∷ []) ≡ false → consensus_gate n ab ba ts ≡ answer (refused ts) (reaches_all (min_reads ts) (largest_within n ab) (largest_within n ba))
  within h = rw h

  pub long : too_long (n ∷ length ab ∷ length ba ∷ []) ≡ true → consensus_gate n ab ba ts ≡ Err (or_long (refused ts))
  long h = rw h (go (eqb (length ts) 0) (ltb 3 (length ts)) (ltb (total ts) (xy ts)) (ltb (xy ts) (yx ts)))
    where
      go : (a b c d : Bool) → answer (rows a b c d (Some TooLong)) (reaches_all (min_reads ts) (largest_within n ab) (largest_within n ba)) ≡ Err (or_long (rows a b c d None))
      go true b c d = refl
      go false true c d = refl
      go false false true d = refl
      go false false false true = refl
      go false false false false = refl
