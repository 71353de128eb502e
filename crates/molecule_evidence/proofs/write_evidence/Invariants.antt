-- What the loop keeps.
use mathlib.Core.List.{List}
use Prim.Native.Nat.{ℕ}
use lib.ListN.{get_or}
use Rattle.byte_numbers.proofs.Groups.{Writing}
use Rattle.molecule_evidence.specs.Evidence.{position_bytes}
use Rattle.molecule_evidence.proofs.write_evidence.Given as goal

-- A position's bytes, by its mark and its place.
abbrev pub at : List ℕ → List ℕ → ℕ → ℕ → List ℕ
at unconverted converted mark i = position_bytes mark (get_or unconverted i 0) (get_or converted i 0)

abbrev pub invariant-loop-i : goal.invariant-loop-i
invariant-loop-i l = Writing 9 l.n (at l.evidence.unconverted.now l.evidence.converted.now) 0 l.evidence.marks.now l.initial.out l.i l.out
