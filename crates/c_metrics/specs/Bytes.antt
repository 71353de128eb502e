-- The metrics of a record from bytes to bytes, document 01's form for the viewer: the library's call `duplex_metrics` on the numbers
-- that the bytes stand for.
use Rattle.std.specs.Prelude.{ℕ, ◌/◌, ◌≤◌, ◌≡◌, Bool, ◌||◌, Option, Some, None, Result, Ok, Err, List, [], ◌∷◌, ◌++◌, length}
use Rattle.lists.specs.Part.{only_if}
use Rattle.byte_numbers.specs.Bytes.{words16, odd_count, bytes32}
use Rattle.refusals.specs.declared.Refusal.{Refusal}
use Rattle.refusals.specs.declared.Refusal.TheVariants.{Broken, OutputTooShort}
use Rattle.refusals.specs.Refusal.{Fault, ◌if◌, any, too_short, refused, number_or_0}
use Rattle.refusals.specs.Outcome.{answer, after}
use Rattle.duplex_metrics.specs.Metrics.{Input, input, lengths, of_second, metrics_faults, metrics_of}
use Rattle.duplex_metrics.specs.declared.CountsLengths.{CountsLengths}
use Rattle.duplex_metrics.specs.declared.MetricsLengths.{MetricsLengths}
use Rattle.metrics_bits.specs.Bits.{metrics_words}
use Rattle.metrics_bits.specs.declared.MetricsBits.{MetricsBits}

-- The arrays as bytes, of which an absent second strand's are not looked at.
abbrev pub seen : Input → Input
seen x = input x.a x.a_errors x.second (only_if x.second x.b) (only_if x.second x.b_errors) x.bases x.errors

-- The numbers that they stand for.
abbrev pub decoded : Input → Input
decoded x = input (words16 x.a) (words16 x.a_errors) x.second (words16 x.b) (words16 x.b_errors) x.bases (words16 x.errors)

-- Refusal 13: a byte count does not fit the width. A base is one byte, so theirs fits.
abbrev pub odd_counts : Input → Bool
odd_counts x = any odd_count (length x.a ∷ length x.a_errors ∷ length x.b ∷ length x.b_errors ∷ length x.errors ∷ [])

-- Refusal 13, then what refuses the library's call, then row 12 for 40 bytes of output.
abbrev pub entry_faults : Bool → MetricsLengths → ℕ → List Fault
entry_faults broken n out = (Broken if broken) ∷ (metrics_faults n ++ ((OutputTooShort if too_short 40 (out ∷ [])) ∷ []))

abbrev pub entry_refused : Input → List ℕ → Option Refusal
entry_refused x out = refused (entry_faults (odd_counts x) (lengths (decoded x)) (length out))

-- A record as ten numbers.
unfoldable pub record_words : MetricsBits → List ℕ
record_words r =
    r.aD
    ∷ r.aM
    ∷ r.aE
    ∷ r.bD
    ∷ r.bM
    ∷ r.bE
    ∷ r.cD
    ∷ r.cM
    ∷ r.cE
    ∷ r.nc
    ∷ []

-- The library's answer as bytes: a record's, and none for a refusal.
abbrev pub metrics_bytes : Result MetricsBits Refusal → List ℕ
metrics_bytes (Err refusal) = []
metrics_bytes (Ok r) = bytes32 (record_words r)

-- What a call leaves in its output, given these arrays.
abbrev pub metrics_left : Input → List ℕ → List ℕ
metrics_left x before = after (entry_refused x before) (metrics_bytes (metrics_words (metrics_of (decoded x)))) before

-- What it answers and leaves. A rate is its bits.
pub record MetricsAs (x : Input) (before after_call : List ℕ) (r : Result (Unit {0}) Refusal) : Type 0 where
  pub answered : r ≡ answer (entry_refused x before) tt
  pub left : after_call ≡ metrics_left x before

-- The same with the answer as a number.
pub record MetricsEntry (x : Input) (before after_call : List ℕ) (r : ℕ) : Type 0 where
  pub answered : r ≡ number_or_0 (entry_refused x before)
  pub left : after_call ≡ metrics_left x before

-- For the code, which has byte counts as one value.

-- Refusal 13's condition for a strand, and for all that a call is given.
abbrev pub odd_strand : CountsLengths → Bool
odd_strand n = odd_count n.depths || odd_count n.errors

abbrev pub odd_bytes : MetricsLengths → Bool
odd_bytes n = (odd_strand n.a || odd_count n.errors) || of_second odd_strand n.b

-- How many numbers so many bytes are.
abbrev pub halves : CountsLengths → CountsLengths
halves n = record { depths = n.depths / 2; errors = n.errors / 2 }

abbrev pub second_halves : Option CountsLengths → Option CountsLengths
second_halves None = None
second_halves (Some n) = Some (halves n)

abbrev pub halved_lengths : MetricsLengths → MetricsLengths
halved_lengths n = record { a = halves n.a; b = second_halves n.b; bases = n.bases; errors = n.errors / 2 }

-- Bytes of at most 1,024 numbers an array.
pub record Narrow (x : Input) : Type 0 where
  pub a : length x.a / 2 ≤ 1024
  pub a_errors : length x.a_errors / 2 ≤ 1024
  pub b : length x.b / 2 ≤ 1024
  pub b_errors : length x.b_errors / 2 ≤ 1024
  pub errors : length x.errors / 2 ≤ 1024
