-- What is written without source reads.
--     without_calls                 where there may be no calls, neither strand is the C-to-T one
--     zeroed                        so many zeros filled in
-- Assumes nothing.
use mathlib.Core.Path.{◌≡◌, refl}
use mathlib.Core.Bool.{false, true≢false}
use mathlib.Core.List.{List, ◌++◌}
use Prim.Native.Nat.{ℕ, ◌≤◌}
use lib.ListN.{length, replicate, take, drop}
use lib.Seq.{length-take-le}
use Rattle.lists.specs.Output.{put}
use Rattle.lists.specs.Table.{tabulate}
use Rattle.lists.proofs.Table.{length_tabulate, repeated}
use Rattle.duplex_molecule.specs.Molecule.{can_call}
use Rattle.duplex_molecule.specs.declared.CtInput.{CtInput}
use Rattle.duplex_molecule.specs.declared.CtInput.TheVariants.{Neither, IsA, IsB}
use Rattle.duplex_arrays.specs.Positions.{uncounted}

pub zeroed : (n : ℕ) (out : List ℕ) → n ≤ length out → {Y : List ℕ} → Y ≡ replicate (length (take n out)) 0 → Y ++ drop n out ≡ put (tabulate n uncounted) out
unfolding put
zeroed n out room y = rw (y, length-take-le n out room, repeated {A = ℕ} n 0, length_tabulate n uncounted)

pub without_calls : (ct : CtInput) → can_call ct ≡ false → ct ≡ Neither
without_calls Neither e = refl
without_calls IsA e = absurd (true≢false e)
without_calls IsB e = absurd (true≢false e)
