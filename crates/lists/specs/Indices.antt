-- The places of a list whose elements meet a test, in rising order.
use Rattle.std.specs.Prelude.{ℕ, suc, Bool, cond, List, [], ◌∷◌}

module _ {A : Type 0} where
  -- Places are counted from k on.
  unfoldable pub indices_from : ℕ → (A → Bool) → List A → List ℕ
  indices_from k p [] = []
  indices_from k p (x ∷ xs) = cond (p x) (k ∷ indices_from (suc k) p xs) (indices_from (suc k) p xs)

module _ {A : Type 0} where
  abbrev pub indices : (A → Bool) → List A → List ℕ
  indices p xs = indices_from 0 p xs
