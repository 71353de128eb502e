-- A loop that writes a table to the front of an output: f 0, f 1, .. , f (n - 1), one a turn.
--     next_table        the loop's invariant, `Filling` of a table, after a turn; at its start it is Output's `begin`
-- For any element type. Assumes nothing.
use mathlib.Core.Path.{◌≡◌, sym, ◌∙◌}
use mathlib.Core.List.{List}
use Prim.Native.Nat.{ℕ, ◌+◌, ◌<◌}
use lib.ListN.{set}
use Rattle.lists.specs.Table.{tabulate}
use Rattle.lists.proofs.Output.{Filling, next}
use Rattle.lists.proofs.Table.{get_d_tabulate}

module _ {A : Type 0} {n : ℕ} (f : ℕ → A) {before : List A} where
  pub next_table : {i : ℕ} {now : List A} (v : A) → Filling n (tabulate n f) before i now → i < n → v ≡ f i → Filling n (tabulate n f) before (i + 1) (set now i v)
  next_table {i} v w h e = next v v w h (e ∙ sym (get_d_tabulate n f i v h))
