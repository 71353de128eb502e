-- A part of a buffer, given by its offset and how many elements it has; and all of a list or none.
use Rattle.std.specs.Prelude.{ℕ, ◌+◌, Bool, cond, List, [], ltb, length, take, drop}

-- It does not lie within a buffer of this size.
unfoldable pub leaves : ℕ → ℕ → ℕ → Bool
leaves offset count size = ltb size (offset + count)

module _ {A : Type 0} where
  -- Its elements. A part that leaves its buffer has none.
  unfoldable pub part : ℕ → ℕ → List A → List A
  part offset count xs = cond (leaves offset count (length xs)) [] (take count (drop offset xs))

  -- All of a list, or none of it.
  unfoldable pub only_if : Bool → List A → List A
  only_if b xs = cond b xs []
