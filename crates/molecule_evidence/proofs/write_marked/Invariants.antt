-- What the loop keeps.
use mathlib.Core.List.{List}
use Prim.Native.Nat.{ℕ}
use lib.ListN.{get_or}
use Rattle.methylation.specs.Arrays.{informative}
use Rattle.byte_numbers.specs.Groups.{group}
use Rattle.byte_numbers.proofs.Groups.{Joining}
use Rattle.molecule_evidence.specs.Evidence.{kept_in, bytes_in}
use Rattle.molecule_evidence.proofs.write_marked.Given as goal

-- A position's bytes, by its place.
abbrev pub at : List ℕ → List ℕ → ℕ → List ℕ
at marks bytes i = bytes_in (kept_in (informative (get_or marks i 0)) (group 9 bytes i))

abbrev pub invariant-loop-i : goal.invariant-loop-i
invariant-loop-i l = Joining 9 l.n (at l.marks l.bytes) l.initial.out l.i l.out
