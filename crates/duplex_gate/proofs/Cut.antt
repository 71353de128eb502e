-- A strand whose depths are cut to the record's length, as the Rust stores it, gives the same answer: past that length no depth is
-- looked at. Assumes nothing.
use mathlib.Core.Path.{◌≡◌}
use mathlib.Core.Bool.{false}
use mathlib.Core.List.{List}
use Prim.Native.Nat.{ℕ, ◌≤◌}
use native.Mathlib.Omega.{arith}
use borrow.Author.Tests.{le-ltb}
use lib.Dec.{ltb}
use lib.ListN.{length, take, length-take}
use lib.Seq.{take-take}
use Rattle.duplex_gate.specs.ConsensusGate.{consensus_gate}

pub cut_alike : (n : ℕ) (ab ba ts : List ℕ) → length ab ≤ 1024 → length ba ≤ 1024 → consensus_gate n ab ba ts ≡ consensus_gate n (take n ab) (take n ba) ts
cut_alike n ab ba ts h k =
    let cut_ab : ltb 1024 (length (take n ab)) ≡ false = le-ltb 1024 (length (take n ab)) (omega (arith, length-take n ab)) in
    let cut_ba : ltb 1024 (length (take n ba)) ≡ false = le-ltb 1024 (length (take n ba)) (omega (arith, length-take n ba)) in
    simp (take-take n n ab (omega arith), take-take n n ba (omega arith), cut_ab, cut_ba, le-ltb 1024 (length ab) h, le-ltb 1024 (length ba) k)
