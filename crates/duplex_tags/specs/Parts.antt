-- What the parts of `duplex_methylation_tags` promise each other.
use Rattle.std.specs.Prelude.{ℕ, ◌≤◌, ◌||◌, Option, [], ◌∷◌, ◌++◌}
use Rattle.std.specs.Option.{option_map_or}
use Rattle.refusals.specs.declared.Refusal.{Refusal}
use Rattle.refusals.specs.declared.Refusal.TheVariants.{OutputTooShort}
use Rattle.refusals.specs.Refusal.{◌if◌, refused}
use Rattle.methylation.specs.declared.EvidenceLengths.{EvidenceLengths}
use Rattle.duplex_texts.specs.Outputs.{given_faults}
use Rattle.duplex_tags.specs.Outputs.{kind_too_short}
use Rattle.duplex_tags.specs.declared.KindLengths.{KindLengths}

-- How many counts of one kind go to each output: none of a strand without evidence.
abbrev pub needed_counts : ℕ → Option EvidenceLengths → Option EvidenceLengths → KindLengths
needed_counts positions a b = record { a = option_map_or (λ e. positions) a 0; b = option_map_or (λ e. positions) b 0; both = positions }

-- The refusal of the sequence, the evidence and the outputs of counts, by their lengths.
abbrev pub counts_refused : ℕ → Option EvidenceLengths → Option EvidenceLengths → KindLengths → KindLengths → Option Refusal
counts_refused bases a b unconverted converted =
    refused (given_faults bases a b ++ (OutputTooShort if (kind_too_short (needed_counts bases a b) unconverted || kind_too_short (needed_counts bases a b) converted)) ∷ [])

-- So many counts, and an output of a length that has room for them.
pub record Countable (counts out : ℕ) : Type 0 where
  pub few : counts ≤ 1024
  pub room : counts ≤ out
