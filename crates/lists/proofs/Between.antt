-- Texts that are written to a buffer one behind the other, for any element type.
--     put_behind       ys written behind xs, which stands at the front
--     copied_behind    by a call that copies so many places of a list to what lies behind a place
--     part_between     what stands between two others
--     part_most        a part has no more than it was asked for
-- Assumes nothing.
use mathlib.Core.Path.{◌≡◌, sym, ◌∙◌}
use mathlib.Core.Bool.{Bool, true, false, cond}
use mathlib.Core.List.{List, [], ◌++◌, append_assoc}
use Prim.Native.Nat.{ℕ, ◌+◌, ◌-◌, ◌≤◌}
use native.Mathlib.Nat.{sub-zero}
use native.Mathlib.Omega.{arith}
use borrow.Author.Tests.{le-ltb}
use borrow.Rule.Slice.PartMut.{put_mid, mid_of}
use lib.Dec.{ltb}
use lib.ListN.{length, take, drop, length-append, length-take}
use lib.Seq.{take-append_seam, drop-append_seam, drop-append-add, drop-drop, length-take-le}
use Rattle.lists.specs.Output.{put}
use Rattle.lists.specs.Part.{leaves, part}
use Rattle.lists.proofs.Output.{put_take, copy_next}

module _ {A : Type 0} where
  -- L is the buffer before, with xs at its front.
  pub put_behind : (xs ys out : List A) {L : List A} {at : ℕ} → L ≡ put xs out → at ≡ length xs → put (take at L ++ ys) L ≡ put (xs ++ ys) out
  unfolding put
  put_behind xs ys out e a = rw (e, a, take-append_seam, length-append, drop-append-add, drop-drop)

  pub copied_behind :
      (xs L : List A) (at n : ℕ) {Y : List A}
      → at + n ≤ length L
      → (let k = length L - at in Y ≡ put (take (length (mid_of at k L)) (take (n - 0) xs)) (mid_of at k L))
      → put_mid at (length L - at) L Y ≡ put (take at L ++ take n xs) L
  copied_behind xs L at n room f =
      copy_next (take at L) L (length L - at) (sym (put_take at L)) (sym (length-take-le at L (omega arith))) (omega arith) (take n xs) (omega (arith, length-take n xs)) (rw (sub-zero n) at f)

  pub part_between :
      (xs ys zs out all : List A) {L : List A} {at n : ℕ}
      → L ≡ put all out
      → all ≡ xs ++ (ys ++ zs)
      → at ≡ length xs
      → n ≡ length ys
      → part at n L ≡ ys
  unfolding part leaves put
  part_between xs ys zs out all {L} e split a m =
      let rest = zs ++ drop (length all) out in
      let whole : L ≡ xs ++ (ys ++ rest) = e ∙ joined split in
      let inside : ltb (length (xs ++ (ys ++ rest))) (length xs + length ys) ≡ false = le-ltb (length (xs ++ (ys ++ rest))) (length xs + length ys) (omega (arith, length-append xs (ys ++ rest), length-append ys rest)) in
      rw (whole, a, m, inside, drop-append_seam, take-append_seam)
    where
      joined : {t : List A} → t ≡ xs ++ (ys ++ zs) → t ++ drop (length all) out ≡ xs ++ (ys ++ (zs ++ drop (length all) out))
      joined e = rw e (simp append_assoc)

  pub part_most : (at n : ℕ) (xs : List A) → length (part at n xs) ≤ n
  unfolding part
  part_most at n xs = go (leaves at n (length xs))
    where
      go : (b : Bool) → length (cond b [] (take n (drop at xs))) ≤ n
      go true = omega arith
      go false = omega (arith, length-take n (drop at xs))
