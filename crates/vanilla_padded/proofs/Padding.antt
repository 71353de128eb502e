-- Laws of padding, for any element type.
--     pad_to_length     a padded array has the new length
--     pad_to_same       to the same length it is a copy
--     padded_left, padded_right     what a fill and a copy, each of a part of the output, write
-- Assumes nothing.
use mathlib.Core.Path.{◌≡◌, refl, ◌∙◌}
use mathlib.Core.Bool.{Bool, true, false}
use mathlib.Core.List.{List, [], append-nil}
use Prim.Native.Nat.{ℕ, ◌-◌, ◌≤◌}
use native.Mathlib.Nat.{sub-zero, sub_self}
use native.Mathlib.Omega.{arith}
use lib.ListN.{length, take, replicate, length-append, length-replicate}
use borrow.Rule.Slice.PartMut.{put_mid, mid_of}
use Rattle.lists.specs.Output.{put}
use Rattle.lists.proofs.Output.{copy_next, fill_next, put_none}
use Rattle.vanilla_padded.specs.Padding.{pad_to}

module _ {A : Type 0} (v : A) (xs : List A) where
  pub pad_to_length : (n : ℕ) (left : Bool) → length xs ≤ n → length (pad_to n left v xs) ≡ n
  unfolding pad_to
  pad_to_length n true h = simp (length-append, length-replicate) (omega arith)
  pad_to_length n false h = simp (length-append, length-replicate) (omega arith)

  -- Padding to the same length copies all.
  pub pad_to_same : (left : Bool) → pad_to (length xs) left v xs ≡ xs
  unfolding pad_to
  pad_to_same true = rw sub_self
  pad_to_same false = rw (sub_self, append-nil)

module _ {A : Type 0} (v : A) (xs out : List A) (n : ℕ) (fits : length xs ≤ n) (room : n ≤ length out) where
  abbrev added : ℕ
  added = n - length xs

  -- On the left the padding is filled in first, and then the array copied behind it. L is the output in between.
  pub padded_left :
      {Y Z : List A}
      → Y ≡ replicate (length (mid_of 0 (added - 0) out)) v
      → (let L = put_mid 0 (added - 0) out Y in Z ≡ put (take (length (mid_of added (n - added) L)) xs) (mid_of added (n - added) L))
      → put_mid added (n - added) (put_mid 0 (added - 0) out Y) Z ≡ put (pad_to n true v xs) out
  unfolding pad_to
  padded_left y z =
      let filled = fill_next [] out (added - 0) (put_none out) refl (omega arith) v y in
      let size : added ≡ length (replicate (added - 0) v) = omega (arith, length-replicate (added - 0) v) in
      copy_next (replicate (added - 0) v) out (n - added) filled size (omega arith) xs (omega arith) z
      ∙ rw (sub-zero added)

  -- On the right the array is copied first.
  pub padded_right :
      {Y Z : List A}
      → Y ≡ put (take (length (mid_of 0 (length xs - 0) out)) xs) (mid_of 0 (length xs - 0) out)
      → (let L = put_mid 0 (length xs - 0) out Y in Z ≡ replicate (length (mid_of (length xs) added L)) v)
      → put_mid (length xs) added (put_mid 0 (length xs - 0) out Y) Z ≡ put (pad_to n false v xs) out
  unfolding pad_to
  padded_right y z = fill_next xs out added (copy_next [] out (length xs - 0) (put_none out) refl (omega arith) xs (omega arith) y) refl (omega arith) v z
