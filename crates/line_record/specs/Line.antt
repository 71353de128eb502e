-- The text that a duplex record is reported with, document 01: its line program, from an answer of the library and the arrays around it.
use Rattle.std.specs.Prelude.{ℕ, Option, None, Some, Result, Ok, Err, List, take, replicate}
use Rattle.std.specs.Borrow.{MutBor}
use Rattle.std.specs.Fn.{Once}
use Rattle.duplex_kind.specs.declared.DuplexConsensus.{DuplexConsensus}
use Rattle.line_output.specs.Text.{Written}
use Rattle.line_format.specs.Line.{Columns, columns, line_text, none_text, refused_text, Fits, Short}
use Rattle.line_report.specs.Report.{Strands, reported}
use Rattle.line_report.specs.declared.Report.{Report}
use Rattle.line_record.specs.declared.Line.{Line}

-- The first n positions.
abbrev pub front : ℕ → Columns → Columns
front n c = columns (take n c.bases) (take n c.quals) (take n c.errors)

-- The text of a record's report, given the arrays that the record was written to.
abbrev pub some_text : Report → Columns → List ℕ
some_text report c = line_text report.kind report.kept (front report.positions c) report.metrics

-- The text of what is reported.
abbrev pub report_text : Result (Option Report) ℕ → Columns → List ℕ
report_text (Err number) c = refused_text number
report_text (Ok None) c = none_text
report_text (Ok (Some report)) c = some_text report c

-- The text of an answer, given what there is of the strands, the thresholds, and the arrays that a record was written to.
abbrev pub answer_text : Result (Option DuplexConsensus) ℕ → Strands → List ℕ → Columns → List ℕ
answer_text made s thresholds c = report_text (reported made s thresholds c.bases c.errors) c

abbrev pub blank : List ℕ
blank = replicate 12288 0

-- A text in an array of zeros: as much of it as there is room for.
abbrev pub Within : List ℕ → Line → Type 0
Within text r = Written text blank r.bytes r.length

-- A line by a function that is called on zeros: it holds any text of which that function writes as much as there is room for.
pub record LineBy {F : Type 0} (g : Once F (MutBor (List ℕ) × Unit {0}) (ℕ × (MutBor (List ℕ) × Unit {0}))) (write : F) (r : Line) : Type 0 where
  pub zeros : MutBor (List ℕ)
  pub left : MutBor (List ℕ)
  pub called : g.post write (zeros, tt) (r.length, (left, tt))
  pub holds : (text : List ℕ) → Written text zeros.now left.now r.length → Within text r

-- A text that there is room for.
pub record Holds (text : List ℕ) (r : Line) : Type 0 where
  pub written : Within text r
  pub fits : Fits text

-- A text that there is room for if it is of arrays of at most 1,024 places.
pub record HoldsOf (text : List ℕ) (c : Columns) (r : Line) : Type 0 where
  pub written : Within text r
  pub fits : Short c → Fits text
