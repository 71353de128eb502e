-- The claim of specs/Absent.antt.
--     padded_seen       what is written of a strand
--     not_looked_at     the claim
-- Assumes nothing.
use mathlib.Core.Path.{◌≡◌, refl}
use mathlib.Core.Bool.{Bool, true, false, cond}
use lib.Dec.{eqb}
use lib.ListN.{length}
use Rattle.std.proofs.Common.{None, Some}
use Rattle.lists.specs.Part.{only_if}
use Rattle.methylation.specs.Methylation.{is_annotated}
use Rattle.vanilla_caller.specs.Strand.{Arrays, arrays_seen}
use Rattle.vanilla_padded.specs.Padding.{Padding, padded_arrays}
use Rattle.vanilla_padded.specs.Absent.{NotLookedAt}

none_kept : (same : Bool) → is_annotated (cond same None None) ≡ false
none_kept true = refl
none_kept false = refl

pub padded_seen : (s : Arrays) (p : Padding) → padded_arrays None (arrays_seen None s) p ≡ padded_arrays None s p
unfolding only_if
padded_seen s p = rw (none_kept (eqb (length s.bases) p.new_length)) refl

pub not_looked_at : NotLookedAt
not_looked_at None s p before now r c = record { answered = c.answered; outputs = rw (padded_seen s p) at c.outputs }
not_looked_at (Some pattern) s p before now r c = record { answered = c.answered; outputs = c.outputs }
