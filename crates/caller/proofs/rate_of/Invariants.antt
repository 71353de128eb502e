-- What the loop keeps: the sums of the depths and errors so far, at most 65,535 for each.
use mathlib.Core.Path.{◌≡◌}
use Prim.Native.Nat.{◌≤◌, ◌*◌}
use lib.ListN.{length, take}
use Rattle.numbers.specs.Numbers.{total}
use Rattle.caller.proofs.rate_of.Given as goal

abbrev pub invariant-loop-depth : goal.invariant-loop-depth
invariant-loop-depth l =
    (l.all_depths ≤ 65535 * length l.yielded) × (l.all_errors ≤ 65535 * length l.yielded)
    × (l.all_depths ≡ total (take (length l.yielded) l.depths)) × (l.all_errors ≡ total (take (length l.yielded) l.errors))
