-- What is reported of an answer of the library beside its positions, document 01: its line program.
use Rattle.std.specs.Prelude.{ℕ, Bool, true, false, Option, None, Some, Result, Ok, Err, List, [], take}
use Rattle.refusals.specs.declared.Refusal.{Refusal}
use Rattle.refusals.specs.Refusal.{number_of}
use Rattle.byte_numbers.specs.Bytes.{words16}
use Rattle.duplex_kind.specs.declared.DuplexConsensus.{DuplexConsensus}
use Rattle.duplex_kind.specs.declared.DuplexConsensus.TheVariants.{Ab, Ba, Both}
use Rattle.duplex_gate.specs.ConsensusGate.{consensus_gate}
use Rattle.duplex_metrics.specs.Metrics.{Input, input, metrics_of}
use Rattle.duplex_metrics.specs.declared.Counts.{Counts as Lent}
use Rattle.metrics_bits.specs.Bits.{metrics_words}
use Rattle.metrics_bits.specs.declared.MetricsBits.{MetricsBits}
use Rattle.line_format.specs.declared.Kind.{Kind}
use Rattle.line_format.specs.declared.Kind.TheVariants.{Ab as Ab-kind, Ba as Ba-kind, Both as Both-kind}
use Rattle.line_report.specs.declared.Report.{Report}

-- The depths and errors of a strand.
pub record Counts : Type 0 where
  pub depths : List ℕ
  pub errors : List ℕ

abbrev pub counts : List ℕ → List ℕ → Counts
counts depths errors = record { depths = depths; errors = errors }

-- What there is of the two strands.
pub record Strands : Type 0 where
  pub a : Counts
  pub b : Counts

abbrev pub strands : Counts → Counts → Strands
strands a b = record { a = a; b = b }

-- Those that stand as bytes.
abbrev pub counts_in : Lent ℕ → Counts
counts_in s = counts (words16 s.depths.now) (words16 s.errors.now)

abbrev pub strands_in : Lent ℕ → Lent ℕ → Strands
strands_in a b = strands (counts_in a) (counts_in b)

-- A record's own strands, the second where there is one, with the record's bases and errors.
abbrev pub input_in : Lent ℕ → Option (Lent ℕ) → List ℕ → List ℕ → Input
input_in a None bases errors = input (words16 a.depths.now) (words16 a.errors.now) false [] [] bases errors
input_in a (Some b) bases errors = input (words16 a.depths.now) (words16 a.errors.now) true (words16 b.depths.now) (words16 b.errors.now) bases errors

-- A record of some kind and so many positions: where its gate or its metrics refuse, the refusal, the gate's first.
abbrev pub measured_report : Kind → ℕ → Bool → Result MetricsBits Refusal → Result Report Refusal
measured_report kind n kept (Err refusal) = Err refusal
measured_report kind n kept (Ok metrics) = Ok (record { kind = kind; positions = n; kept = kept; metrics = metrics })

abbrev pub gated_report : Kind → ℕ → Result Bool Refusal → Result MetricsBits Refusal → Result Report Refusal
gated_report kind n (Err refusal) metrics = Err refusal
gated_report kind n (Ok kept) metrics = measured_report kind n kept metrics

-- The gate's depths are uncapped.
abbrev pub judged : Kind → ℕ → Input → List ℕ → Result Report Refusal
judged kind n x thresholds = gated_report kind n (consensus_gate n x.a x.b thresholds) (metrics_words (metrics_of x))

-- The first n of each array.
abbrev pub front_input : ℕ → Input → Input
front_input n x = input (take n x.a) (take n x.a_errors) x.second (take n x.b) (take n x.b_errors) (take n x.bases) (take n x.errors)

-- A record of n positions, given what there is of its arrays and of its own strands: gate and metrics go over them as far as the record does.
abbrev pub record_report : Kind → ℕ → Input → List ℕ → Result Report Refusal
record_report kind n x thresholds = judged kind n (front_input n x) thresholds

-- That there is a record, or the number of what refuses it.
abbrev pub some_report : Result Report Refusal → Result (Option Report) ℕ
some_report (Err refusal) = Err (number_of refusal)
some_report (Ok report) = Ok (Some report)

-- An answer, given the strands, the thresholds, and the bases and errors that a record was written to. A record's own strands are
-- both, or the one that it is made of: B alone is the first. A refused answer has its number.
abbrev pub reported : Result (Option DuplexConsensus) ℕ → Strands → List ℕ → List ℕ → List ℕ → Result (Option Report) ℕ
reported (Err number) s thresholds bases errors = Err number
reported (Ok None) s thresholds bases errors = Ok None
reported (Ok (Some (Ab n))) s thresholds bases errors = some_report (record_report Ab-kind n (input s.a.depths s.a.errors false [] [] bases errors) thresholds)
reported (Ok (Some (Ba n))) s thresholds bases errors = some_report (record_report Ba-kind n (input s.b.depths s.b.errors false [] [] bases errors) thresholds)
reported (Ok (Some (Both n))) s thresholds bases errors = some_report (record_report Both-kind n (input s.a.depths s.a.errors true s.b.depths s.b.errors bases errors) thresholds)
