-- Laws of `put`, and the invariant of a loop that fills a lent output, for any element type.
--     put_none, put_take, put_over       nothing written, what stands there written again, and something else over it
--     length_put, put_holds, front_of    the length of a written output, and what stands at its front
--     put_snoc, put_next                 what is written right after
--     put_fitting, fitting_snoc          of what goes there, as much as there is room for
--     copied_front                       a copy of as much as there is room for
--     copied_part, copied_map            a copy of so many places
--     copy_next, fill_next               by a call that copies to a part of it, or fills that
--     Filling                            the invariant: the first i of the n places are written, the rest are as they were
--     begin, fits, next, done, same      the five facts that such a loop asks for
--     Copying                            the same for a loop that writes as much of a list as there is room for: begin-, next-
-- Assumes nothing.
use mathlib.Core.Path.{◌≡◌, refl, sym, ap, ◌∙◌}
use mathlib.Core.Bool.{Bool, true, false}
use mathlib.Core.List.{List, [], ◌∷◌, ◌++◌, map, append-nil, append_assoc}
use Prim.Native.Nat.{ℕ, zero, suc, ◌+◌, ◌-◌, ◌≤◌, ◌<◌, min}
use native.Mathlib.Nat.{sub-zero}
use native.Mathlib.Omega.{arith}
use lib.Dec.{ltb}
use borrow.Author.Tests.{ltb-true, ltb-false}
use native.Mathlib.Numerals.{add-one}
use lib.ListN.{length, take, drop, set, get_or, replicate, length-append, length-take, length-drop, length-map, length-replicate, take-append-drop}
use borrow.Rule.Slice.PartMut.{put_mid, mid_of}
use lib.Seq.{set-append_seam, set_out, take-suc, take-append_seam, take-append-le, drop-append_seam, drop-append-le, drop-append-add, drop-drop, drop-cons, drop-length, length-take-le, take_all, append_snoc, get_or-take}
use Rattle.lists.specs.Output.{put}
use Rattle.lists.proofs.Parts.{take_min}

module _ {A : Type 0} where
  pub put_none : (out : List A) → out ≡ put [] out
  unfolding put
  put_none out = refl

  pub put_take : (n : ℕ) (out : List A) → put (take n out) out ≡ out
  unfolding put
  put_take zero out = refl
  put_take (suc n) [] = refl
  put_take (suc n) (x ∷ out) = ap (λ (l : List A). x ∷ l) (put_take n out)

  -- What was written before is not seen where at least as much is written over it.
  pub put_over : (xs ys out : List A) → length ys ≤ length xs → put xs (put ys out) ≡ put xs out
  unfolding put
  put_over xs ys out h = ap (λ (l : List A). xs ++ l) (past (length xs - length ys) {n = length xs} (omega arith))
    where
      past : (m : ℕ) {n : ℕ} → n ≡ length ys + m → drop n (ys ++ drop (length ys) out) ≡ drop n out
      past m e = rw e (drop-append-add ys (drop (length ys) out) m ∙ drop-drop m (length ys) out)

  pub put_equal : (out : List A) {xs ys : List A} → xs ≡ ys → put xs out ≡ put ys out
  put_equal out e = ap (λ (l : List A). put l out) e

  pub length_put : (xs out : List A) → length xs ≤ length out → length (put xs out) ≡ length out
  unfolding put
  length_put xs out h = simp (length-append, length-drop) (omega arith)

  -- L is an output to which xs was written.
  module _ (xs out : List A) {L : List A} (e : L ≡ put xs out) where
    pub put_holds : length xs ≤ length L
    unfolding put
    put_holds = omega (arith, ap length e ∙ length-append xs (drop (length xs) out))

    pub front_of : {n : ℕ} → n ≡ length xs → take n L ≡ xs
    unfolding put
    front_of h = rw (e, h) (take-append_seam xs (drop (length xs) out))

  -- One more element is written.
  pub put_snoc : (xs out : List A) (v : A) → length xs < length out → set (put xs out) (length xs) v ≡ put (xs ++ (v ∷ [])) out
  unfolding put
  put_snoc xs out v h = simp (length-append, append_snoc) (rw (add-one, drop-cons out (length xs) v h) (set-append_seam xs (get_or out (length xs) v) (drop (suc (length xs)) out) v))

  -- The invariant of a loop that writes the n elements of xs to the front of `before`, one a turn: `now` is the output when i of them are written.
  pub record Filling (n : ℕ) (xs before : List A) (i : ℕ) (now : List A) : Type 0 where
    pub whole : length xs ≡ n
    pub room : n ≤ length before
    pub within : i ≤ n
    pub so_far : now ≡ put (take i xs) before

module _ {A : Type 0} {n : ℕ} {xs before : List A} where
  pub begin : length xs ≡ n → n ≤ length before → Filling n xs before 0 before
  unfolding put
  begin e h = record { whole = e; room = h; within = omega arith; so_far = refl }

  pub same : {i : ℕ} {now : List A} → Filling n xs before i now → length now ≡ length before
  same {i} f = ap length f.so_far ∙ length_put (take i xs) before (omega (arith, length-take i xs))

  -- The place of the next store is there.
  pub fits : {i : ℕ} {now : List A} → Filling n xs before i now → i < n → i < length now
  fits f h = omega (arith, same f)

  pub next : {i : ℕ} {now : List A} (d v : A) → Filling n xs before i now → i < n → v ≡ get_or xs i d → Filling n xs before (i + 1) (set now i v)
  next {i} {now} d v f h e =
      let more : i < length xs = omega arith in
      let here : length (take i xs) ≡ i = length-take-le i xs (omega arith) in
      let stored = put_snoc (take i xs) before (get_or xs i d) (omega arith) in
      record {
        whole = f.whole;
        room = f.room;
        within = omega arith;
        so_far = rw (f.so_far, e, add-one, take-suc xs i d) (rw here at stored);
      }

  pub done : {i : ℕ} {now : List A} → Filling n xs before i now → n ≤ i → now ≡ put xs before
  done {i} f h = f.so_far ∙ put_equal before (take_all i xs (omega arith))

module _ {A : Type 0} where
  -- The invariant of a loop that writes as much of xs as there is room for: n elements of it.
  pub record Copying (n : ℕ) (xs before : List A) (i : ℕ) (now : List A) : Type 0 where
    pub count : n ≡ min (length before) (length xs)
    pub filling : Filling n (take (length before) xs) before i now

  pub begin_copy : (xs before : List A) {n : ℕ} → n ≡ min (length before) (length xs) → Copying n xs before 0 before
  begin_copy xs before e = record { count = e; filling = begin (length-take (length before) xs ∙ sym e) (omega arith) }

  pub next_copy : {n : ℕ} {xs before now : List A} {i : ℕ} (d : A) → Copying n xs before i now → i < n → Copying n xs before (i + 1) (set now i (get_or xs i d))
  next_copy {n} {xs} {before} {now} {i} d c h = record {
    count = c.count;
    filling = next d _ c.filling h (sym (get_or-take (length before) xs i d (omega arith)));
  }

  -- Every place is written.
  pub put_whole : (xs out : List A) → length xs ≡ length out → put xs out ≡ xs
  unfolding put
  put_whole xs out e = rw (e, drop-length, append-nil)

module _ {A : Type 0} where
  -- What does not fit is not copied; all fits where there is room.
  pub put_fitting : (xs out : List A) → length xs ≤ length out → put (take (length out) xs) out ≡ put xs out
  put_fitting xs out h = put_equal out (take_all (length out) xs h)

  -- A copy to the first n places of an output, where n is as much as there is room for.
  pub copied_front : (xs out : List A) {n : ℕ} {Y : List A} → n ≡ min (length out) (length xs) → Y ≡ take n xs → Y ++ drop n out ≡ put (take (length out) xs) out
  unfolding put
  copied_front xs out e f = rw (f, take_min (length out) xs refl e, length-take, ← e)

  -- One more element is stored behind what was written as far as there was room.
  pub fitting_snoc : (xs out : List A) (v : A) → set (put (take (length out) xs) out) (length xs) v ≡ put (take (length out) (xs ++ v ∷ [])) out
  fitting_snoc xs out v = go (ltb (length xs) (length out)) refl
    where
      go : (b : Bool) → ltb (length xs) (length out) ≡ b → set (put (take (length out) xs) out) (length xs) v ≡ put (take (length out) (xs ++ v ∷ [])) out
      go true e =
          let room = ltb-true (length xs) (length out) e in
          rw (put_fitting xs out (omega arith), put_fitting (xs ++ v ∷ []) out (omega (arith, length-append xs (v ∷ [])))) (put_snoc xs out v room)
      go false e =
          let full = ltb-false (length xs) (length out) e in
          rw (take-append-le (length out) xs (v ∷ []) full)
          (set_out (put (take (length out) xs) out) (length xs) v (omega (arith, length_put (take (length out) xs) out (omega (arith, length-take (length out) xs)))))

  -- A copy of the first n places of xs, as the part 0..n, to an output that has room for them.
  pub copied_part : (xs out : List A) (n : ℕ) → n ≤ length out → put (take (length out) (take (n - 0) xs)) out ≡ put (take n xs) out
  copied_part xs out n h = rw (sub-zero n) (put_fitting (take n xs) out (omega (arith, length-take n xs)))

  -- The same where each element goes through f.
  pub copied_map :
      {B : Type 0} (f : B → A) (xs : List B) (out : List A) (n : ℕ)
      → n ≤ length out
      → put (take (length out) (map f (take (n - 0) xs))) out ≡ put (map f (take n xs)) out
  copied_map f xs out n h = rw (sub-zero n) (put_fitting (map f (take n xs)) out (omega (arith, length-map (take n xs) f, length-take n xs)))

  -- Where xs is at the front, ys goes to a part of k places right after it.
  pub put_next : (xs ys out : List A) {a k : ℕ} → a ≡ length xs → length ys ≤ k → a + k ≤ length out → put_mid a k (put xs out) (put ys (mid_of a k (put xs out))) ≡ put (xs ++ ys) out
  unfolding put
  put_next xs ys out {a} {k} e h room =
      let rest = drop (length xs) out in
      let some : length ys ≤ length (take k rest) = simp (length-take, length-drop) (omega arith) in
      let tail : drop (length (xs ++ ys)) out ≡ drop (length ys) (take k rest) ++ drop k rest =
      rw (length-append, ← drop-drop)
      (ap (λ (l : List A). drop (length ys) l) (sym (take-append-drop k rest)) ∙ drop-append-le (length ys) (take k rest) (drop k rest) some) in
      rw (e, take-append_seam, drop-append_seam, tail) (simp append_assoc)

  -- The same after a call that copies ys to the part, or fills the part with one value. L is the output before that call and Y
  -- the part after it.
  module _ (xs out : List A) (k : ℕ) {L : List A} {a : ℕ} (e : L ≡ put xs out) (at : a ≡ length xs) (room : a + k ≤ length out) where
    part_size : length (mid_of a k L) ≡ k
    part_size = rw e (mid_length (put xs out) (length_put xs out (omega arith)))
      where
        mid_length : (l : List A) → length l ≡ length out → length (mid_of a k l) ≡ k
        mid_length l unchanged = simp (length-take, length-drop) (omega arith)

    pub copy_next : (ys : List A) {Y : List A} → length ys ≤ k → Y ≡ put (take (length (mid_of a k L)) ys) (mid_of a k L) → put_mid a k L Y ≡ put (xs ++ ys) out
    copy_next ys {Y} h f =
        let written : Y ≡ put ys (mid_of a k L) = f ∙ put_fitting ys (mid_of a k L) (omega (arith, part_size)) in
        rw (written, e) (put_next xs ys out at h room)

    pub fill_next : (v : A) {Y : List A} → Y ≡ replicate (length (mid_of a k L)) v → put_mid a k L Y ≡ put (xs ++ replicate k v) out
    fill_next v {Y} f =
        let whole : put (replicate k v) (mid_of a k L) ≡ replicate k v = put_whole (replicate k v) (mid_of a k L) (length-replicate k v ∙ sym part_size) in
        let written : Y ≡ put (replicate k v) (mid_of a k L) = f ∙ ap (λ (n : ℕ). replicate n v) part_size ∙ sym whole in
        rw (written, e) (put_next xs (replicate k v) out at (omega (arith, length-replicate k v)) room)
