-- How long the texts are of numbers that fit their types.
--     line_most              of a record with at most 1,024 positions
--     none_most, refused_most
-- Assumes nothing.
use mathlib.Core.Bool.{Bool, true, false}
use Prim.Native.Nat.{ℕ, ◌≤◌, ◌<◌}
use native.Mathlib.Omega.{arith}
use lib.ListN.{length, length-append}
use Rattle.decimal.proofs.Decimal.{few_digits}
use Rattle.line_output.proofs.Text.{length_printed}
use Rattle.metrics_bits.specs.declared.MetricsBits.{MetricsBits}
use Rattle.line_metrics.specs.MetricsText.{metrics_text}
use Rattle.line_format.specs.Line.{Columns, header, kind_text, gate_text, columns_text, opening, closing, line_text, none_text, refused_text, Fits, Short, Typed}
use Rattle.line_format.specs.declared.Kind.{Kind}
use Rattle.line_format.specs.declared.Kind.TheVariants.{Ab, Ba, Both}

kind_most : (kind : Kind) → length (kind_text kind) ≤ 4
unfolding kind_text
kind_most Ab = omega arith
kind_most Ba = omega arith
kind_most Both = omega arith

gate_most : (kept : Bool) → length (gate_text kept) ≤ 7
unfolding gate_text
gate_most true = omega arith
gate_most false = omega arith

opening_most : (kind : Kind) (kept : Bool) → length (opening kind kept) ≤ 70
unfolding opening header
opening_most kind kept = simp length-append (omega (arith, kind_most kind, gate_most kept))

columns_most : (c : Columns) → Short c → Typed c → length (columns_text c) ≤ 11266
unfolding columns_text
columns_most c s t = simp length-append (omega (arith, length_printed c.bases))

pub line_most : (kind : Kind) (kept : Bool) (c : Columns) (m : MetricsBits) → Typed c → length (metrics_text m) ≤ 104 → Short c → Fits (line_text kind kept c m)
unfolding line_text closing
line_most kind kept c m t n s = simp length-append (omega (arith, opening_most kind kept, columns_most c s t))

pub none_most : Fits none_text
unfolding none_text header
none_most = omega arith

pub refused_most : (n : ℕ) → n < 256 → Fits (refused_text n)
unfolding refused_text
refused_most n h = simp length-append (omega (arith, few_digits 2 n (omega arith)))
