-- The rows that a call by a lab's limit tests of two strands before it makes a record, document 02, #106: by the lengths of the arrays of
-- those that are there.
use Rattle.std.specs.Prelude.{ℕ, Bool, false, cond, ◌||◌, Option, Some, None, List, [], ◌∷◌}
use Rattle.std.specs.Option.{option_map_or}
use Rattle.refusals.specs.declared.Refusal.TheVariants.{TooLong, OverLimit}
use Rattle.refusals.specs.Refusal.{Fault, ◌if◌}
use Rattle.vanilla_caller.specs.Strand.{lengths, strand_over}
use Rattle.vanilla_caller.specs.declared.Lengths.{Lengths}
use Rattle.duplex_kind.specs.Kind.{Strand}

-- The lengths of a strand that is there, as far as they are looked at.
abbrev pub lengths_of : Strand → Option Lengths
lengths_of s = cond s.present (Some (lengths s.annotation s.arrays)) None

-- Some array has over so many positions.
abbrev pub over_in : ℕ → Option Lengths → Bool
over_in limit s = option_map_or (strand_over limit) s false

-- Row 19.
abbrev pub limit_faults : ℕ → Option Lengths → Option Lengths → List Fault
limit_faults limit a b = (OverLimit if (over_in limit a || over_in limit b)) ∷ []

-- Row 7 of either strand comes before row 19 of the other, whatever the limit.
abbrev pub length_faults : ℕ → Option Lengths → Option Lengths → List Fault
length_faults limit a b = (TooLong if (over_in 1024 a || over_in 1024 b)) ∷ limit_faults limit a b
