-- Laws of `indices`, and the invariant of a loop that writes them to a lent output, for any element type.
--     Picking                            the invariant: the places among the first i that meet the test are written, n of them
--     begin, fits, next, same, done      the five facts that such a loop asks for
-- Assumes nothing.
use mathlib.Core.Path.{◌≡◌, refl, ap, ◌∙◌}
use mathlib.Core.Bool.{Bool, true, false, cond}
use mathlib.Core.List.{List, [], ◌∷◌, ◌++◌, append-nil}
use Prim.Native.Nat.{ℕ, suc, ◌+◌, ◌≤◌, ◌<◌}
use native.Mathlib.Omega.{arith}
use native.Mathlib.Numerals.{add-one}
use lib.ListN.{length, take, get_or, set, length-append}
use lib.Seq.{take-suc, take_all, length-take-le}
use Rattle.lists.specs.Indices.{indices_from, indices}
use Rattle.lists.specs.Output.{put}
use Rattle.lists.proofs.Output.{length_put, put_snoc}

-- A place is taken, or passed over, before all the others.
before_others : (b : Bool) (k : ℕ) {all : List ℕ} (xs ys : List ℕ) → all ≡ xs ++ ys → cond b (k ∷ all) all ≡ cond b (k ∷ xs) xs ++ ys
before_others true k xs ys e = ap (λ (l : List ℕ). k ∷ l) e
before_others false k xs ys e = e

module _ {A : Type 0} (p : A → Bool) where
  last_place : (k : ℕ) (xs : List A) (x : A) (n : ℕ) → n ≡ k + length xs → indices_from k p (xs ++ (x ∷ [])) ≡ indices_from k p xs ++ cond (p x) (n ∷ []) []
  unfolding indices_from
  last_place k [] x n e =
      let here : n ≡ k = omega arith in
      rw here
  last_place k (y ∷ ys) x n e = before_others (p y) k (indices_from (suc k) p ys) (cond (p x) (n ∷ []) []) (last_place (suc k) ys x n (omega arith))

module _ {A : Type 0} (p : A → Bool) (xs : List A) where
  -- The element at i adds its place or nothing.
  next_place : (i : ℕ) (d : A) → i < length xs → indices p (take (i + 1) xs) ≡ indices p (take i xs) ++ cond (p (get_or xs i d)) (i ∷ []) []
  next_place i d h = rw (add-one, take-suc xs i d h) (last_place p 0 (take i xs) (get_or xs i d) i (omega (arith, length-take-le i xs (omega arith))))

  -- The invariant of a loop over xs that writes the places of the elements that meet p to the front of `before`: `now` is the
  -- output when i elements are passed, and n places are written.
  pub record Picking (before : List ℕ) (i : ℕ) (now : List ℕ) (n : ℕ) : Type 0 where
    pub room : length xs ≤ length before
    pub within : i ≤ length xs
    pub few : n ≤ i
    pub so_far : now ≡ put (indices p (take i xs)) before
    pub count : n ≡ length (indices p (take i xs))

module _ {A : Type 0} {p : A → Bool} {xs : List A} {before : List ℕ} where
  pub begin : length xs ≤ length before → Picking p xs before 0 before 0
  unfolding indices_from put
  begin h = record { room = h; within = omega arith; few = omega arith; so_far = refl; count = refl }

  pub same : {i n : ℕ} {now : List ℕ} → Picking p xs before i now n → length now ≡ length before
  same {i} k = ap length k.so_far ∙ length_put (indices p (take i xs)) before (omega arith)

  -- The place of the next store is there.
  pub fits : {i n : ℕ} {now : List ℕ} → Picking p xs before i now n → i < length xs → n < length now
  fits k h = omega (arith, same k)

  -- b is whether the element at i meets p.
  pub next :
      {i n : ℕ} {now : List ℕ} (d : A) (b : Bool)
      → Picking p xs before i now n
      → i < length xs
      → p (get_or xs i d) ≡ b
      → Picking p xs before (i + 1) (cond b (set now n i) now) (cond b (n + 1) n)
  next {i} {n} {now} d true k h e =
      let more : indices p (take (i + 1) xs) ≡ indices p (take i xs) ++ (i ∷ []) = rw e at (next_place p xs i d h) in
      record {
        room = k.room;
        within = omega arith;
        few = omega arith;
        so_far = rw (more, k.so_far, k.count) (put_snoc (indices p (take i xs)) before i (omega arith));
        count = rw (more, length-append) (omega arith);
      }
  next {i} {n} {now} d false k h e =
      let no_more : indices p (take (i + 1) xs) ≡ indices p (take i xs) = rw (e, append-nil) at (next_place p xs i d h) in
      record {
        room = k.room;
        within = omega arith;
        few = omega arith;
        so_far = rw no_more k.so_far;
        count = rw no_more k.count;
      }

  pub done : {i n : ℕ} {now : List ℕ} → Picking p xs before i now n → length xs ≤ i → (now ≡ put (indices p xs) before) × (n ≡ length (indices p xs))
  done {i} k h = (rw (take_all i xs h) at k.so_far, rw (take_all i xs h) at k.count)
