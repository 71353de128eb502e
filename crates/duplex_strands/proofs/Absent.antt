-- The claim of specs/Absent.antt.
--     both_seen         what is written of two strands
--     not_looked_at     the claim
-- Assumes nothing.
use mathlib.Core.Path.{◌≡◌, refl}
use mathlib.Core.Bool.{Bool}
use Prim.Native.Nat.{ℕ, min}
use lib.ListN.{length}
use Rattle.std.proofs.Common.{None, Some, Option}
use Rattle.lists.specs.Part.{only_if}
use Rattle.settings.specs.declared.GivenSettings.{GivenSettings}
use Rattle.methylation.specs.declared.ConversionPattern.{ConversionPattern}
use Rattle.vanilla_caller.specs.Strand.{Arrays, arrays_seen}
use Rattle.duplex_molecule.specs.Molecule.{ct_input, call_at}
use Rattle.duplex_call.specs.Annotated.{combined}
use Rattle.duplex_strands.specs.Combine.{combined_bases, combined_quals, estimates, combined_errors, kept_marks, kept_unconverted, kept_converted, uncounted, both_arrays, CombinedAs}
use Rattle.duplex_strands.specs.Absent.{NotLookedAt}

pub both_seen :
    (lab : GivenSettings) (listed : Bool) (counted : ℕ → ℕ) (n : ℕ) (ma : Option ConversionPattern) (a : Arrays) (mb : Option ConversionPattern) (b : Arrays)
    → both_arrays lab listed counted n (ct_input ma mb) ma (arrays_seen ma a) mb (arrays_seen mb b) ≡ both_arrays lab listed counted n (ct_input ma mb) ma a mb b
unfolding ct_input call_at combined combined_bases combined_quals combined_errors estimates kept_marks kept_unconverted kept_converted only_if
both_seen lab listed counted n None a None b = refl
both_seen lab listed counted n None a (Some q) b = refl
both_seen lab listed counted n (Some p) a None b = refl
both_seen lab listed counted n (Some p) a (Some q) b = refl

pub not_looked_at : NotLookedAt
not_looked_at lab ma a mb b listed before now r c = go ma mb c
  where
    go : (ma mb : Option ConversionPattern) → CombinedAs lab (ct_input ma mb) ma (arrays_seen ma a) mb (arrays_seen mb b) listed before now r → CombinedAs lab (ct_input ma mb) ma a mb b listed before now r
    go None None c = record { answered = c.answered; outputs = rw (both_seen lab listed uncounted (min (length a.bases) (length b.bases)) None a None b) at c.outputs }
    go None (Some q) c = record { answered = c.answered; outputs = rw (both_seen lab listed uncounted (min (length a.bases) (length b.bases)) None a (Some q) b) at c.outputs }
    go (Some p) None c = record { answered = c.answered; outputs = rw (both_seen lab listed uncounted (min (length a.bases) (length b.bases)) (Some p) a None b) at c.outputs }
    go (Some p) (Some q) c = record { answered = c.answered; outputs = c.outputs }
