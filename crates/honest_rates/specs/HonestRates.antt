-- What the error rates aE, bE and cE say about the fractions behind them, the mission's third point, of every call that returns one. These
-- are the claims; proofs/HonestRates.antt proves them.
--
-- All is said in whole numbers. The fraction behind a rate is a sum of errors over a sum of depths, each error and each depth
-- capped at 32,767 at its position first; both sums are written out here, over what the call was given. Two fractions e/d and f/g are
-- equal when e × g = f × d. Two rates are equal when their 32 bits are. Bits b stand for the number v over 2^150, where v is
-- `value_of b`: 0 for b = 0, else 8,388,608 plus the remainder of b by 8,388,608, times 2 to the power of the quotient.
use Rattle.std.specs.Prelude.{Ok, unwrap_or, ◌≡◌, ◌↔◌, ℕ, ◌+◌, ◌*◌, ◌^◌, ◌≤◌, min, Bool, cond, List, [], map, length, take, drop, get_or}
use Rattle.std.specs.Float.{binary32}
use Rattle.std.specs.Float.Ieee.{to_bits}
use Rattle.lists.specs.Table.{tabulate}
use Rattle.numbers.specs.Numbers.{total}
use Rattle.rates.specs.Rate.{value_of, gap}
use Rattle.hexadecimal.specs.Hexadecimal as hexadecimal
use Rattle.byte_numbers.specs.Bytes.{number_of, words16}
use Rattle.fields.specs.Encoding.{whole_fields}
use Rattle.molecule_encoding.specs.Format as tray
use Rattle.duplex_metrics.specs.Metrics.{Input, input, metrics_of}
use Rattle.duplex_metrics.specs.declared.MetricsRecord.{MetricsRecord}
use Rattle.metrics_bits.specs.Bits.{metrics_words}
use Rattle.metrics_bits.specs.declared.MetricsBits.{MetricsBits}
use Rattle.c_metrics.specs.Bytes.{MetricsAs, MetricsEntry, seen}
use Rattle.replies.specs.Choices.{yes}
use Rattle.rust_metrics.specs.Answers.{metrics_reply}
use Rattle.rust_metrics.specs.declared.MetricsReply.{MetricsReply}
use Rattle.line_output.specs.Text.{ascii}
use Rattle.line_record.specs.declared.Line.{Line}
use Rattle.line_molecule.specs.Line.{text_of, TextIn}
use Rattle.honest_rates.specs.Text.{column, numbers_in}

-- What a printed record is made of: strand A, strand B, or both.
pub data Own : Type 0 where
  ab : Own
  ba : Own
  both : Own

abbrev pub kind_word : Own → List ℕ
kind_word ab = ascii "ab"
kind_word ba = ascii "ba"
kind_word both = ascii "both"

-- The text of a line, which duplexline prints.
abbrev pub text : Line → List ℕ
text line = take line.length line.bytes

-- A call that returned rates: what it was given, whatever that is, and what it returned, by its contract.
pub data Returned : Type 0 where
  -- `duplex_metrics`, rates as floats
  floats : (given : Input) (r : MetricsRecord) → Ok r ≡ metrics_of given → Returned
  -- `metrics_bits`
  as_bits : (given : Input) (r : MetricsBits) → Ok r ≡ metrics_words (metrics_of given) → Returned
  -- `metrics_of_bytes`, accepted: arrays as bytes, its output before the call and after it
  in_bytes : (given : Input) (before after : List ℕ) → MetricsAs given before after (Ok tt) → Returned
  -- `gedrashiw_metrics`, accepted
  for_c :
      (a a_errors : List ℕ) (second : ℕ) (b b_errors bases errors before after : List ℕ)
      → MetricsEntry (seen (input a a_errors (yes second) b b_errors bases errors)) before after 0
      → Returned
  -- `gedrashiw_duplex_metrics`, accepted
  in_reply :
      (a a_errors : List ℕ) (second : ℕ) (b b_errors bases errors : List ℕ) (r : MetricsReply)
      → r ≡ metrics_reply (metrics_words (metrics_of (input a a_errors (yes second) b b_errors bases errors)))
      → r.refused ≡ 0
      → Returned
  -- `duplex_line`, all that duplexline prints, where the line is a record's
  printed : (bytes : List ℕ) (line : Line) (own : Own) → TextIn (text_of bytes) line → column 0 (text line) ≡ kind_word own → Returned

-- One of its three rates.
pub data Rate : Type 0 where
  aE : Rate
  bE : Rate
  cE : Rate

-- Its bits, as they were returned: those of a float, a number, four bytes from byte 8, 20 or 32 on, or a hexadecimal column.
abbrev pub bits : Returned → Rate → ℕ
bits (floats given r e) aE = to_bits binary32 r.aE
bits (floats given r e) bE = to_bits binary32 r.bE
bits (floats given r e) cE = to_bits binary32 r.cE
bits (as_bits given r e) aE = r.aE
bits (as_bits given r e) bE = r.bE
bits (as_bits given r e) cE = r.cE
bits (in_bytes given before after e) aE = number_of (take 4 (drop 8 after))
bits (in_bytes given before after e) bE = number_of (take 4 (drop 20 after))
bits (in_bytes given before after e) cE = number_of (take 4 (drop 32 after))
bits (for_c a ae second b be bases errors before after e) aE = number_of (take 4 (drop 8 after))
bits (for_c a ae second b be bases errors before after e) bE = number_of (take 4 (drop 20 after))
bits (for_c a ae second b be bases errors before after e) cE = number_of (take 4 (drop 32 after))
bits (in_reply a ae second b be bases errors r e f) aE = r.aE
bits (in_reply a ae second b be bases errors r e f) bE = r.bE
bits (in_reply a ae second b be bases errors r e f) cE = r.cE
bits (printed bytes line own e f) aE = hexadecimal.value_of (column 7 (text line))
bits (printed bytes line own e f) bE = hexadecimal.value_of (column 10 (text line))
bits (printed bytes line own e f) cE = hexadecimal.value_of (column 13 (text line))

-- The depths and errors of the first strand and of the second, and the record's own errors, position by position.
pub record Measured : Type 0 where
  pub a : List ℕ
  pub a_errors : List ℕ
  pub b : List ℕ
  pub b_errors : List ℕ
  pub errors : List ℕ

abbrev pub measured : List ℕ → List ℕ → List ℕ → List ℕ → List ℕ → Measured
measured a a_errors b b_errors errors = record { a = a; a_errors = a_errors; b = b; b_errors = b_errors; errors = errors }

-- Those of a metrics call that was given numbers, or their bytes. An absent second strand has no positions.
abbrev pub from_numbers : Input → Measured
from_numbers x = measured x.a x.a_errors (cond x.second x.b []) (cond x.second x.b_errors []) x.errors

abbrev pub from_bytes : List ℕ → List ℕ → Bool → List ℕ → List ℕ → List ℕ → Measured
from_bytes a a_errors second b b_errors errors =
    measured (words16 a) (words16 a_errors) (cond second (words16 b) []) (cond second (words16 b_errors) []) (words16 errors)

-- The numbers in the field of a molecule with a tag, as far as a record of n positions goes.
abbrev pub field : List ℕ → ℕ → ℕ → List ℕ
field bytes tag n = take n (words16 (unwrap_or (tray.value_of tag (whole_fields bytes)) []))

-- Those of a printed record of n positions with these errors: its own strands, of which B alone is the first.
abbrev pub from_molecule : List ℕ → Own → ℕ → List ℕ → Measured
from_molecule bytes ab n errors = measured (field bytes 0x12 n) (field bytes 0x13 n) [] [] errors
from_molecule bytes ba n errors = measured (field bytes 0x22 n) (field bytes 0x23 n) [] [] errors
from_molecule bytes both n errors = measured (field bytes 0x12 n) (field bytes 0x13 n) (field bytes 0x22 n) (field bytes 0x23 n) errors

-- Those that a call went over. A printed record has as many positions as its line has bases, and the errors that its line has.
abbrev pub over : Returned → Measured
over (floats given r e) = from_numbers given
over (as_bits given r e) = from_numbers given
over (in_bytes given before after e) = from_bytes given.a given.a_errors given.second given.b given.b_errors given.errors
over (for_c a ae second b be bases errors before after e) = from_bytes a ae (yes second) b be errors
over (in_reply a ae second b be bases errors r e f) = from_numbers (input a ae (yes second) b be bases errors)
over (printed bytes line own e f) = from_molecule bytes own (length (column 2 (text line))) (numbers_in (column 4 (text line)))

-- A depth or an error at a position, capped.
abbrev pub cap : ℕ → ℕ
cap n = min n 32767

-- Each capped, and all added.
abbrev pub capped_total : List ℕ → ℕ
capped_total ns = total (map cap ns)

-- The depths of a record: at each of its positions both strands', each capped, and then added. Past a strand's end they are 0.
abbrev pub both_capped : ℕ → List ℕ → List ℕ → ℕ
both_capped positions a b = total (tabulate positions (λ i. cap (get_or a i 0) + cap (get_or b i 0)))

-- The sums behind a rate.
abbrev pub errors_of : Measured → Rate → ℕ
errors_of m aE = capped_total m.a_errors
errors_of m bE = capped_total m.b_errors
errors_of m cE = capped_total m.errors

abbrev pub depths_of : Measured → Rate → ℕ
depths_of m aE = capped_total m.a
depths_of m bE = capped_total m.b
depths_of m cE = both_capped (length m.errors) m.a m.b

abbrev pub error_sum : Returned → Rate → ℕ
error_sum x rate = errors_of (over x) rate

abbrev pub depth_sum : Returned → Rate → ℕ
depth_sum x rate = depths_of (over x) rate

-- Up to 2,896 two rates, of one call or of two, whichever these are, are equal exactly when the fractions behind them are.
abbrev pub EqualRates : Type 0
EqualRates =
    (x : Returned) (p : Rate) (y : Returned) (q : Rate)
    → error_sum x p ≤ 2896
    → 1 ≤ depth_sum x p
    → depth_sum x p ≤ 2896
    → error_sum y q ≤ 2896
    → 1 ≤ depth_sum y q
    → depth_sum y q ≤ 2896
    → bits x p ≡ bits y q ↔ error_sum x p * depth_sum y q ≡ error_sum y q * depth_sum x p

-- Up to 16,777,216 a rate differs from its fraction by at most one 16,777,216th of that fraction.
abbrev pub CloseRates : Type 0
CloseRates =
    (x : Returned) (p : Rate)
    → error_sum x p ≤ 16777216
    → 1 ≤ depth_sum x p
    → depth_sum x p ≤ 16777216
    → gap (value_of (bits x p) * depth_sum x p) (error_sum x p * 2 ^ 150) * 16777216 ≤ error_sum x p * 2 ^ 150
