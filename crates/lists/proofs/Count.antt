-- Laws of counting, for any element type.
--     counted, passed_over     the number after an element that meets the test, and after one that does not
--     count_cons, count_snoc   one element more, at the front and at the end
--     counts_few               no more are counted than there are
--     Counting                 the invariant of a loop that counts: begin, next, done
-- Assumes nothing.
use mathlib.Core.Path.{◌≡◌, refl, ◌∙◌}
use mathlib.Core.Bool.{Bool, true, false, cond}
use mathlib.Core.List.{List, [], ◌∷◌, ◌++◌, foldl, foldl-append}
use Prim.Native.Nat.{ℕ, suc, ◌+◌, ◌≤◌, ◌<◌}
use native.Mathlib.Omega.{arith}
use lib.ListN.{length, take, get_or}
use Rattle.lists.specs.Count.{count_if, count_of}
use Rattle.lists.proofs.Fold.{fold_step, fold_all}

module _ {A : Type 0} (p : A → Bool) where
  pub counted : (n : ℕ) (x : A) → p x ≡ true → n + 1 ≡ count_if p n x
  unfolding count_if
  counted n x e = rw e

  pub passed_over : (n : ℕ) (x : A) → p x ≡ false → n ≡ count_if p n x
  unfolding count_if
  passed_over n x e = rw e

  one_more : (n : ℕ) (x : A) → count_if p n x ≤ n + 1
  unfolding count_if
  one_more n x = go (p x)
    where
      go : (b : Bool) → cond b (n + 1) n ≤ n + 1
      go true = omega arith
      go false = omega arith

  one_of : (n : ℕ) (x : A) → count_if p n x ≡ n + count_if p 0 x
  unfolding count_if
  one_of n x = go (p x)
    where
      go : (b : Bool) → cond b (n + 1) n ≡ n + cond b (0 + 1) 0
      go true = omega arith
      go false = omega arith

  count_from : (n : ℕ) (xs : List A) → foldl (count_if p) n xs ≡ n + count_of p xs
  unfolding count_of
  count_from n [] = omega arith
  count_from n (x ∷ xs) = omega (arith, count_from (count_if p n x) xs, count_from (count_if p 0 x) xs, one_of n x)

  pub count_cons : (x : A) (xs : List A) → count_of p (x ∷ xs) ≡ cond (p x) (suc (count_of p xs)) (count_of p xs)
  unfolding count_of count_if
  count_cons x xs = count_from (count_if p 0 x) xs ∙ go (p x)
    where
      go : (b : Bool) → cond b (0 + 1) 0 + count_of p xs ≡ cond b (suc (count_of p xs)) (count_of p xs)
      go true = omega arith
      go false = omega arith

  pub count_snoc : (xs : List A) (x : A) → count_of p (xs ++ x ∷ []) ≡ count_if p (count_of p xs) x
  unfolding count_of
  count_snoc xs x = foldl-append (count_if p) 0 xs (x ∷ [])

  pub counts_few : (xs : List A) → count_of p xs ≤ length xs
  unfolding count_of
  counts_few [] = omega arith
  counts_few (x ∷ xs) = omega (arith, count_from (count_if p 0 x) xs, one_more 0 x, counts_few xs)

  -- n of the first i elements meet the test: at most i.
  pub record Counting (xs : List A) (i n : ℕ) : Type 0 where
    pub within : i ≤ length xs
    pub few : n ≤ i
    pub so_far : n ≡ count_of p (take i xs)

  module _ {xs : List A} where
    pub begin : Counting xs 0 0
    unfolding count_of
    begin = record { within = omega arith; few = omega arith; so_far = refl }

    pub next : {i n m : ℕ} (d : A) → Counting xs i n → i < length xs → m ≡ count_if p n (get_or xs i d) → Counting xs (i + 1) m
    unfolding count_of
    next {i} {n} {m} d c h e = record {
      within = omega arith;
      few = omega (arith, one_more n (get_or xs i d));
      so_far = e ∙ fold_step (count_if p) 0 xs i d h c.so_far refl;
    }

    pub done : {i n : ℕ} → Counting xs i n → length xs ≤ i → n ≡ count_of p xs
    unfolding count_of
    done {i} c h = c.so_far ∙ fold_all (count_if p) 0 xs i h
