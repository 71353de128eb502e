-- The claim of specs/Absent.antt.
--     single_seen       what is written of a strand
--     not_looked_at     the claim
-- Assumes nothing.
use mathlib.Core.Path.{◌≡◌, refl}
use Rattle.std.proofs.Common.{None, Some, Option}
use Rattle.lists.specs.Part.{only_if}
use Rattle.methylation.specs.declared.ConversionPattern.{ConversionPattern}
use Rattle.vanilla_caller.specs.Strand.{Arrays, arrays_seen}
use Rattle.duplex_single.specs.Single.{single_arrays}
use Rattle.duplex_single.specs.Absent.{NotLookedAt}

pub single_seen : (annotation : Option ConversionPattern) (s : Arrays) → single_arrays annotation (arrays_seen annotation s) ≡ single_arrays annotation s
unfolding only_if
single_seen None s = refl
single_seen (Some pattern) s = refl

pub not_looked_at : NotLookedAt
not_looked_at None s before now r c = record { answered = c.answered; outputs = rw (single_seen None s) at c.outputs }
not_looked_at (Some pattern) s before now r c = record { answered = c.answered; outputs = c.outputs }
