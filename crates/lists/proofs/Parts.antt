-- Laws of a part of a buffer.
--     leaves_by_rest     what the code tests: the buffer's rest from the offset on is too short
--     stays              a part that does not leave its buffer ends within it
--     part_outside, part_within     its elements
--     part_after         the end of a part
--     all_or_none_lem    so many places of a list, all or none of them
--     take_min                   the first n elements, as far as there are so many
--     drop_take, slice_next      the end of a list's front; a slice that ends one later
-- Assumes nothing.
use mathlib.Core.Path.{◌≡◌, refl, sym, ◌∙◌}
use mathlib.Core.Bool.{Bool, true, false, cond}
use mathlib.Core.List.{List, [], ◌∷◌, ◌++◌}
use Prim.Native.Nat.{ℕ, zero, suc, ◌+◌, ◌-◌, ◌≤◌, ◌<◌, min}
use native.Mathlib.Nat.{sub-zero, zero-sub, suc-sub-suc}
use native.Mathlib.Omega.{arith}
use borrow.Author.Tests.{ltb-true, ltb-false, lt-ltb, le-ltb}
use lib.Dec.{ltb}
use lib.ListN.{length, take, drop, get_or, length-take}
use lib.Seq.{slice, take_all, take-take, take-nil, take-suc, drop-drop, drop-append-le, length-take-le}
use Rattle.lists.specs.Part.{leaves, part, only_if}

pub leaves_by_rest : (offset count size : ℕ) → offset ≤ size → ltb (size - offset) count ≡ leaves offset count size
unfolding leaves
leaves_by_rest offset count size h = go (ltb size (offset + count)) refl
  where
    go : (b : Bool) → ltb size (offset + count) ≡ b → ltb (size - offset) count ≡ b
    go true e = lt-ltb (size - offset) count (omega (arith, ltb-true size (offset + count) e))
    go false e = le-ltb (size - offset) count (omega (arith, ltb-false size (offset + count) e))

pub stays : (offset count size : ℕ) → leaves offset count size ≡ false → offset + count ≤ size
unfolding leaves
stays offset count size e = ltb-false size (offset + count) e

module _ {A : Type 0} (offset count : ℕ) (xs : List A) where
  pub part_outside : leaves offset count (length xs) ≡ true → [] ≡ part offset count xs
  unfolding part
  part_outside e = rw e

  pub part_within : leaves offset count (length xs) ≡ false → take (offset + count - offset) (drop offset xs) ≡ part offset count xs
  unfolding part
  part_within e =
      let whole : offset + count - offset ≡ count = omega arith in
      rw (e, whole)

-- So many places of xs are all of it or nothing: n where b holds and xs has no more, else none.
pub all_or_none_lem : {A : Type 0} (b : Bool) (n : ℕ) (xs : List A) {places : ℕ} → places ≡ cond b n 0 → (b ≡ true → length xs ≤ n) → take places xs ≡ only_if b xs
unfolding only_if
all_or_none_lem true n xs e h = rw e (take_all n xs (h refl))
all_or_none_lem false n xs e h = rw e

module _ {A : Type 0} where
  -- n is len, held to the list's length k.
  pub take_min : (len : ℕ) (xs : List A) {k n : ℕ} → length xs ≡ k → n ≡ min len k → take n xs ≡ take len xs
  take_min len xs {k} {n} e m = sym (take-take n len xs (omega arith)) ∙ take_all n (take len xs) (omega (arith, length-take len xs))

  pub drop_take : (m n : ℕ) (l : List A) → drop m (take n l) ≡ take (n - m) (drop m l)
  drop_take zero n l = rw sub-zero
  drop_take (suc m) zero l = rw zero-sub
  drop_take (suc m) (suc n) [] = sym (take-nil (suc n - suc m))
  drop_take (suc m) (suc n) (x ∷ l) = rw suc-sub-suc (drop_take m n l)

  pub part_after : (k offset n : ℕ) (xs : List A) → k ≤ n → offset + n ≤ length xs → part (offset + k) (n - k) xs ≡ drop k (part offset n xs)
  unfolding part leaves
  part_after k offset n xs h within =
      let end : offset + k + (n - k) ≤ length xs = omega arith in
      rw (le-ltb _ _ end, le-ltb _ _ within, drop_take k n (drop offset xs), drop-drop k offset xs)

  pub slice_next : (from to : ℕ) (xs : List A) (d : A) → from ≤ to → to < length xs → slice from (suc to) xs ≡ slice from to xs ++ get_or xs to d ∷ []
  slice_next from to xs d h g = rw (take-suc xs to d g) (drop-append-le from (take to xs) (get_or xs to d ∷ []) (omega (arith, length-take-le to xs (omega arith))))
