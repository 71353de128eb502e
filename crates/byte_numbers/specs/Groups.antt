-- A list as groups of one width, one after another.
use Rattle.std.specs.Prelude.{ℕ, zero, suc, ◌*◌, ◌/◌, List, [], ◌++◌, length, take, drop}
use Rattle.lists.specs.Table.{tabulate}

module _ {A : Type 0} where
  -- The group at a place.
  unfoldable pub group : ℕ → List A → ℕ → List A
  group width xs i = take width (drop (width * i) xs)

  -- n groups, joined to one list.
  unfoldable pub joined : ℕ → (ℕ → List A) → List A
  joined zero f = []
  joined (suc n) f = joined n f ++ f n

module _ {A B : Type 0} where
  -- What each whole group of a list stands for. Elements after the last one are not looked at.
  unfoldable pub by_group : ℕ → (List A → B) → List A → List B
  by_group width f xs = tabulate (length xs / width) (λ i. f (group width xs i))
