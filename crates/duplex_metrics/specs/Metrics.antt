-- The metrics of a duplex record, document 01: depths and errors are capped at 32,767 at each position before anything else.
use Rattle.std.specs.Prelude.{ℕ, ◌+◌, ◌≡◌, ◌≤◌, Bool, true, false, cond, ◌&&◌, ◌||◌, Option, Some, None, Result, List, [], ◌∷◌, map, eqb, ltb, length, get_or, Float}
use Rattle.lists.specs.Count.{count_of}
use Rattle.lists.specs.Part.{only_if}
use Rattle.lists.specs.Table.{tabulate}
use Rattle.refusals.specs.declared.Refusal.{Refusal}
use Rattle.refusals.specs.declared.Refusal.TheVariants.{TooLong, Ragged}
use Rattle.refusals.specs.Refusal.{Fault, ◌if◌, too_long, ragged, refused}
use Rattle.refusals.specs.Outcome.{answer}
use Rattle.numbers.specs.Numbers.{largest, smallest, total}
use Rattle.dna.specs.Dna.{letter_n}
use Rattle.rates.specs.Rate.{rate_of}
use Rattle.caller.specs.Rate.{rate_refused}
use Rattle.caller.specs.Short.{short}
use Rattle.duplex_metrics.specs.declared.Counts.{Counts}
use Rattle.duplex_metrics.specs.declared.CountsLengths.{CountsLengths}
use Rattle.duplex_metrics.specs.declared.Figures.{Figures}
use Rattle.duplex_metrics.specs.declared.MetricsInput.{MetricsInput}
use Rattle.duplex_metrics.specs.declared.MetricsLengths.{MetricsLengths}
use Rattle.duplex_metrics.specs.declared.MetricsRecord.{MetricsRecord}

-- Each element capped.
unfoldable pub capped : List ℕ → List ℕ
capped xs = map short xs

-- Largest, smallest and summed depth, and summed errors.
abbrev pub figures : List ℕ → List ℕ → Figures
figures depths errors = record { largest = largest depths; smallest = smallest depths; depths = total depths; errors = total errors }

-- The figures of a strand.
unfoldable pub strand_figures : List ℕ → List ℕ → Figures
strand_figures depths errors = figures (capped depths) (capped errors)

-- The depth at a position of the record: both strands' capped depths added. Past a strand's end, and of an absent strand, it is 0.
unfoldable pub record_depth : List ℕ → List ℕ → ℕ → ℕ
record_depth a b i = short (get_or a i 0) + short (get_or b i 0)

unfoldable pub record_depths : ℕ → List ℕ → List ℕ → List ℕ
record_depths n a b = tabulate n (record_depth a b)

-- The figures of a record of n positions, from the strands' depths and its own errors.
unfoldable pub record_figures : List ℕ → List ℕ → List ℕ → Figures
record_figures a b errors = figures (record_depths (length errors) a b) (capped errors)

-- The rate of some figures: summed errors over summed depth.
abbrev pub rate : Figures → Float
rate f = rate_of f.errors f.depths

-- Whether a position is a no-call: its base is N, and its depth is above 0. So padding, which has no depth, is none.
abbrev pub is_no_call : ℕ → ℕ → Bool
is_no_call base depth = eqb base letter_n && ltb 0 depth

-- The number of no-calls of a record, from the strands' depths and its own bases.
unfoldable pub record_no_calls : List ℕ → List ℕ → List ℕ → ℕ
record_no_calls a b bases = count_of (λ (met : Bool). met) (tabulate (length bases) (λ i. is_no_call (get_or bases i 0) (record_depth a b i)))

abbrev pub metrics_record : Figures → Figures → Figures → ℕ → MetricsRecord
metrics_record a b c nc = record {
  aD = a.largest;
  aM = a.smallest;
  aE = rate a;
  bD = b.largest;
  bM = b.smallest;
  bE = rate b;
  cD = c.largest;
  cM = c.smallest;
  cE = rate c;
  nc = nc;
}

-- What a call is given: the first strand's depths and errors, whether there is a second strand, its depths and errors, and the
-- record's bases and errors.
pub record Input : Type 0 where
  pub a : List ℕ
  pub a_errors : List ℕ
  pub second : Bool
  pub b : List ℕ
  pub b_errors : List ℕ
  pub bases : List ℕ
  pub errors : List ℕ

abbrev pub input : List ℕ → List ℕ → Bool → List ℕ → List ℕ → List ℕ → List ℕ → Input
input a ae second b be bases errors = record { a = a; a_errors = ae; second = second; b = b; b_errors = be; bases = bases; errors = errors }

-- The figures behind a, b and c. An absent second strand has no positions.
abbrev pub figures_a : Input → Figures
figures_a x = strand_figures x.a x.a_errors

abbrev pub figures_b : Input → Figures
figures_b x = strand_figures (only_if x.second x.b) (only_if x.second x.b_errors)

abbrev pub figures_c : Input → Figures
figures_c x = record_figures x.a (only_if x.second x.b) x.errors

-- nc, over the depths behind c.
abbrev pub no_calls : Input → ℕ
no_calls x = record_no_calls x.a (only_if x.second x.b) x.bases

abbrev pub counts_lengths : {A : Type 0} → List A → List A → CountsLengths
counts_lengths depths errors = record { depths = length depths; errors = length errors }

abbrev pub lengths : Input → MetricsLengths
lengths x = record {
  a = counts_lengths x.a x.a_errors;
  b = cond x.second (Some (counts_lengths x.b x.b_errors)) None;
  bases = length x.bases;
  errors = length x.errors;
}

-- Rows 7 and 8 for a strand's arrays.
abbrev pub counts_long : CountsLengths → Bool
counts_long n = too_long (n.depths ∷ n.errors ∷ [])

abbrev pub counts_ragged : CountsLengths → Bool
counts_ragged n = ragged (n.depths ∷ n.errors ∷ [])

-- The second strand's arrays count where there is one.
abbrev pub of_second : (CountsLengths → Bool) → Option CountsLengths → Bool
of_second p None = false
of_second p (Some n) = p n

abbrev pub metrics_faults : MetricsLengths → List Fault
metrics_faults n =
    (TooLong if ((counts_long n.a || too_long (n.bases ∷ n.errors ∷ [])) || of_second counts_long n.b))
    ∷ (Ragged if ((counts_ragged n.a || ragged (n.bases ∷ n.errors ∷ [])) || of_second counts_ragged n.b))
    ∷ []

abbrev pub metrics_refused : Input → Option Refusal
metrics_refused x = refused (metrics_faults (lengths x))

-- The record where no row refuses.
abbrev pub record_of : Input → MetricsRecord
record_of x = metrics_record (figures_a x) (figures_b x) (figures_c x) (no_calls x)

abbrev pub metrics_of : Input → Result MetricsRecord Refusal
metrics_of x = answer (metrics_refused x) (record_of x)

-- The metrics of one strand.
abbrev pub strand_metrics : List ℕ → List ℕ → Result Figures Refusal
strand_metrics depths errors = answer (rate_refused (length depths) (length errors)) (strand_figures depths errors)

-- For the code, which has a strand's two arrays as one value, and what a call is given as another.

abbrev pub input_of : Counts ℕ → Option (Counts ℕ) → List ℕ → List ℕ → Input
input_of a None bases errors = input a.depths.now a.errors.now false [] [] bases errors
input_of a (Some b) bases errors = input a.depths.now a.errors.now true b.depths.now b.errors.now bases errors

abbrev pub input_given : MetricsInput ℕ ℕ → Input
input_given x = input_of x.a x.b x.bases.now x.errors.now

abbrev pub lengths_in : {T : Type 0} → Counts T → CountsLengths
lengths_in s = counts_lengths s.depths.now s.errors.now

abbrev pub second_lengths : {T : Type 0} → Option (Counts T) → Option CountsLengths
second_lengths None = None
second_lengths (Some s) = Some (lengths_in s)

abbrev pub input_lengths : {S R : Type 0} → MetricsInput S R → MetricsLengths
input_lengths x = record { a = lengths_in x.a; b = second_lengths x.b; bases = length x.bases.now; errors = length x.errors.now }

-- The depths of a strand that may be absent, and its figures.
abbrev pub depths_in : Option (Counts ℕ) → List ℕ
depths_in None = []
depths_in (Some s) = s.depths.now

abbrev pub figures_in_counts : Option (Counts ℕ) → Figures
figures_in_counts None = strand_figures [] []
figures_in_counts (Some s) = strand_figures s.depths.now s.errors.now

-- As many depths as errors, and few.
abbrev pub Even : Counts ℕ → Type 0
Even s = (length s.depths.now ≡ length s.errors.now) × (length s.errors.now ≤ 1024)

abbrev pub EvenIfThere : Option (Counts ℕ) → Type 0
EvenIfThere None = Unit {0}
EvenIfThere (Some s) = Even s
