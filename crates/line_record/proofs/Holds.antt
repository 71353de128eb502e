-- What a line holds.
--     of_any          a text that there is room for whatever the arrays are
-- Assumes nothing.
use mathlib.Core.List.{List}
use Prim.Native.Nat.{ℕ}
use Rattle.line_format.specs.Line.{Columns}
use Rattle.line_record.specs.declared.Line.{Line}
use Rattle.line_record.specs.Line.{Holds, HoldsOf}

pub of_any : (c : Columns) {r : Line} {text : List ℕ} → Holds text r → HoldsOf text c r
of_any c h = record { written = h.written; fits = λ _. h.fits }
