-- Reads are at fault by 5 or 6 only, so that the partition's own faults answer the first offence.
--     own_rows     the answer of these two rows
-- Assumes nothing.
use mathlib.Core.Path.{◌≡◌, refl}
use mathlib.Core.Bool.{Bool, true, false, cond}
use mathlib.Core.List.{List, [], ◌∷◌}
use Prim.Native.Nat.{ℕ}
use Rattle.std.proofs.Common.{Option, Some, None}
use Rattle.refusals.specs.declared.Refusal.{Refusal}
use Rattle.refusals.specs.declared.Refusal.TheVariants.{NoMi, NoStrand}
use Rattle.refusals.specs.Outcome.{or_later}
use Rattle.duplex_partition.specs.declared.MiPart.{MiPart}
use Rattle.duplex_partition.specs.declared.MiStrand.{MiStrand}
use Rattle.duplex_partition.specs.Partition.{has_mi, read_strand, offence_of, first_offence, is_row}

abbrev pub by_row : Option Refusal → Option Refusal
by_row found = cond (is_row NoMi found) (Some NoMi) (cond (is_row NoStrand found) (Some NoStrand) None)

pub own_rows : (bytes : List ℕ) (reads : List MiPart) → by_row (first_offence bytes reads) ≡ first_offence bytes reads
own_rows bytes [] = refl
own_rows bytes (read ∷ reads) = go (has_mi read) (read_strand bytes read) (first_offence bytes reads) (own_rows bytes reads)
  where
    go : (b : Bool) (s : Option MiStrand) (later : Option Refusal) → by_row later ≡ later → by_row (or_later (cond b (offence_of s) (Some NoMi)) later) ≡ or_later (cond b (offence_of s) (Some NoMi)) later
    go false s later e = refl
    go true None later e = refl
    go true (Some strand) later e = e
