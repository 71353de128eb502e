-- The texts that document 01's line program prints: of a record, of no record, and of a refusal.
use Rattle.std.specs.Prelude.{ℕ, ◌*◌, ◌≤◌, Bool, cond, List, ◌++◌, length}
use Rattle.decimal.specs.Decimal.{decimal}
use Rattle.line_output.specs.Text.{ascii, comma_list, printed}
use Rattle.metrics_bits.specs.declared.MetricsBits.{MetricsBits}
use Rattle.line_metrics.specs.MetricsText.{metrics_text}
use Rattle.line_format.specs.declared.RecordColumns.{RecordColumns}
use Rattle.line_format.specs.declared.Kind.{Kind}
use Rattle.line_format.specs.declared.Kind.TheVariants.{Ab, Ba, Both}

-- The consensus positions of a record, or the arrays that they stand in.
pub record Columns : Type 0 where
  pub bases : List ℕ
  pub quals : List ℕ
  pub errors : List ℕ

abbrev pub columns : List ℕ → List ℕ → List ℕ → Columns
columns bases quals errors = record { bases = bases; quals = quals; errors = errors }

-- Those that are lent.
abbrev pub columns_in : RecordColumns → Columns
columns_in row = columns row.bases.now row.quals.now row.errors.now

unfoldable pub header : List ℕ
header = ascii "kind gate bases quals errors aD aM aE bD bM bE cD cM cE nc\n"

-- What a record is made of: strand A, strand B, or both.
unfoldable pub kind_text : Kind → List ℕ
kind_text Ab = ascii "ab"
kind_text Ba = ascii "ba"
kind_text Both = ascii "both"

-- The consensus gate.
unfoldable pub gate_text : Bool → List ℕ
gate_text kept = cond kept (ascii " kept ") (ascii " below ")

unfoldable pub columns_text : Columns → List ℕ
columns_text c = printed c.bases ++ ascii " " ++ comma_list c.quals ++ ascii " " ++ comma_list c.errors

-- All before the columns, and all after them.
unfoldable pub opening : Kind → Bool → List ℕ
opening kind kept = header ++ kind_text kind ++ gate_text kept

unfoldable pub closing : MetricsBits → List ℕ
closing metrics = metrics_text metrics ++ ascii "\n"

-- The header and the line of a record.
unfoldable pub line_text : Kind → Bool → Columns → MetricsBits → List ℕ
line_text kind kept c metrics = opening kind kept ++ columns_text c ++ closing metrics

-- With no record the line is `none`.
unfoldable pub none_text : List ℕ
none_text = header ++ ascii "none\n"

-- A refusal is one line and no header.
unfoldable pub refused_text : ℕ → List ℕ
refused_text n = ascii "refused " ++ decimal n ++ ascii "\n"

-- A text of at most LINE_BYTES.
abbrev pub Fits : List ℕ → Type 0
Fits text = length text ≤ 12288

-- At most 1,024 positions.
pub record Short (c : Columns) : Type 0 where
  pub bases : length c.bases ≤ 1024
  pub quals : length c.quals ≤ 1024
  pub errors : length c.errors ≤ 1024

-- How long the texts of numbers are that fit their types: qualities of 8 bits, errors of 16.
pub record Typed (c : Columns) : Type 0 where
  pub quals : length (comma_list c.quals) ≤ 4 * length c.quals
  pub errors : length (comma_list c.errors) ≤ 6 * length c.errors
