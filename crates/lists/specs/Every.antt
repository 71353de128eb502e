-- Whether all elements of a list meet a test, and whether a number is one of some.
use Rattle.std.specs.Prelude.{ℕ, Bool, true, false, ◌&&◌, ◌||◌, List, [], ◌∷◌, eqb}

module _ {A : Type 0} where
  -- Every element meets p.
  unfoldable pub every : (A → Bool) → List A → Bool
  every p [] = true
  every p (x ∷ xs) = p x && every p xs

-- A number is one of some numbers.
abbrev pub among : ℕ → List ℕ → Bool
among x [] = false
among x (y ∷ []) = eqb x y
among x (y ∷ (z ∷ zs)) = eqb x y || among x (z ∷ zs)
