-- The consensus gate, document 01.
use Rattle.std.specs.Prelude.{ℕ, Bool, Result, List, [], ◌∷◌, length, take}
use Rattle.numbers.specs.Numbers.{largest}
use Rattle.refusals.specs.declared.Refusal.{Refusal}
use Rattle.refusals.specs.declared.Refusal.TheVariants.{TooLong}
use Rattle.refusals.specs.Refusal.{Fault, ◌if◌, refused, record_too_long}
use Rattle.refusals.specs.Outcome.{answer}
use Rattle.duplex_reads.specs.declared.StrandCounts.{StrandCounts}
use Rattle.duplex_reads.specs.Reads.{gate}

-- The largest depth within n positions, uncapped. It takes the place of the read count; an absent strand has no depths and counts 0.
abbrev pub largest_within : ℕ → List ℕ → ℕ
largest_within n depths = largest (take n depths)

abbrev pub depth_faults : ℕ → List ℕ → List ℕ → List Fault
depth_faults n ab ba = (TooLong if record_too_long n (length ab) (length ba)) ∷ []

abbrev pub depth_counts : ℕ → List ℕ → List ℕ → Result StrandCounts Refusal
depth_counts n ab ba = answer (refused (depth_faults n ab ba)) (record { a = largest_within n ab; b = largest_within n ba })

-- A record of n positions, the depths of its strands, and the thresholds.
abbrev pub consensus_gate : ℕ → List ℕ → List ℕ → List ℕ → Result Bool Refusal
consensus_gate n ab ba ts = gate ts (depth_faults n ab ba) (largest_within n ab) (largest_within n ba)
