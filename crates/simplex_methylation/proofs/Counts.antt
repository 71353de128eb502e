-- Laws of what is written to a lent output, place by place, and of counts that one more read is added to.
--     Kept                       what a loop that adds one more where a position is met leaves of the counts that it has not come to: kept, few, kept_next
--     start, further, all_added  and what it has written
--     fewer                      one more can be added to fewer counts too
--     fewer_places               positions that are not met need no store
--     one_read_more              one more read, of counts that are a table
--     filled                     places that are filled with one value
--     one_added, flag_byte, flag_small     a flag as a number
-- Assumes nothing.
use mathlib.Core.Path.{◌≡◌, refl, sym, ap, ◌∙◌}
use mathlib.Core.Bool.{Bool, true, false, cond}
use mathlib.Core.List.{List, ◌++◌}
use Prim.Native.Nat.{ℕ, ◌+◌, ◌<◌, ◌≤◌}
use native.Mathlib.Omega.{arith}
use borrow.Author.Tests.{ltb-true, ltb-false}
use lib.Dec.{ltb}
use mir.Val.{bool_byte}
use lib.ListN.{length, take, drop, get_or, set, replicate, length-replicate, length-set}
use Rattle.std.proofs.lemmas.List.{get_or-set_other}
use lib.Seq.{ext_get_or, length-take-le}
use Rattle.lists.specs.Output.{put}
use Rattle.lists.specs.Table.{tabulate}
use Rattle.lists.proofs.Output.{length_put, Filling, begin, next, done}
use Rattle.lists.proofs.Table.{length_tabulate, get_d_tabulate}
use Rattle.lists.proofs.Written.{table_front, table_behind, unwritten}
use Rattle.simplex_methylation.specs.Simplex.{added, Countable}

-- A place is below n, or not.
pub by_place : (i n : ℕ) {P : Type 0} → (i < n → P) → (n ≤ i → P) → P
by_place i n {P} below above = go (ltb i n) refl
  where
    go : (b : Bool) → ltb i n ≡ b → P
    go true e = below (ltb-true i n e)
    go false e = above (ltb-false i n e)

module _ {A : Type 0} (d : A) where
  -- Two written tables are the same where each place is.
  same_tables : (n m : ℕ) (f g : ℕ → A) (xs ys : List A) → n ≤ length xs → m ≤ length ys → length xs ≡ length ys
      → ((i : ℕ) → get_or (put (tabulate n f) xs) i d ≡ get_or (put (tabulate m g) ys) i d) → put (tabulate n f) xs ≡ put (tabulate m g) ys
  same_tables n m f g xs ys h k e each =
      let left = length_put (tabulate n f) xs (omega (arith, length_tabulate n f)) in
      let right = length_put (tabulate m g) ys (omega (arith, length_tabulate m g)) in
      ext_get_or d _ _ (left ∙ e ∙ sym right) (λ i l. each i)

-- A flag is added as 1 or 0.
pub one_added : (b : Bool) (n : ℕ) → n + bool_byte b ≡ cond b (n + 1) n
one_added true n = refl
one_added false n = omega arith

pub flag_byte : (b : Bool) → bool_byte b ≡ cond b 1 0
flag_byte true = refl
flag_byte false = refl

pub flag_small : (b : Bool) → bool_byte b ≤ 1
flag_small true = omega arith
flag_small false = omega arith

-- One more at a position that is met.
abbrev more : (ℕ → Bool) → (ℕ → ℕ) → ℕ → ℕ
more met c i = cond (met i) (c i + 1) (c i)

-- The counts from the i-th on are as they were, when each of n was below 1,024.
pub record Kept (n : ℕ) (before : List ℕ) (i : ℕ) (now : List ℕ) : Type 0 where
  pub countable : Countable n before
  pub as_long : length now ≡ length before
  pub rest : (j : ℕ) → i ≤ j → get_or now j 0 ≡ get_or before j 0

-- Of fewer counts too.
pub fewer : {m n : ℕ} {so_far : List ℕ} → m ≤ n → Countable n so_far → Countable m so_far
fewer h c = record { room = omega (arith, c.room); below = λ i l. c.below i (omega arith) }

pub kept : {n : ℕ} {before : List ℕ} → Countable n before → Kept n before 0 before
kept h = record { countable = h; as_long = refl; rest = λ j l. refl }

module _ {n : ℕ} {before : List ℕ} {i : ℕ} {now : List ℕ} where
  pub few : Kept n before i now → i < n → get_or now i 0 < 1024
  few k l = omega (arith, k.rest i (omega arith), k.countable.below i l)

  pub kept_next : Kept n before i now → (v : ℕ) → Kept n before (i + 1) (set now i v)
  kept_next k v = record {
    countable = k.countable;
    as_long = length-set now i v ∙ k.as_long;
    rest = λ j l. get_or-set_other now i j v 0 (λ e. absurd (omega (arith, e))) ∙ k.rest j (omega arith);
  }

-- The first i of n counts are added to.
module _ {n : ℕ} (met : ℕ → Bool) {before : List ℕ} where
  pub start : n ≤ length before → Filling n (added n met before) before 0 before
  unfolding added
  start h = begin (length_tabulate n _) h

  module _ {i : ℕ} {now : List ℕ} (f : Filling n (added n met before) before i now) where
    pub further : i < n → {b : Bool} {v : ℕ} → b ≡ met i → v ≡ cond b (get_or now i 0 + 1) (get_or now i 0) → Filling n (added n met before) before (i + 1) (set now i v)
    unfolding added
    further l e w = next 0 _ f l (rw (w, e, unwritten 0 f) (sym (get_d_tabulate n _ i 0 l)))

    pub all_added : n ≤ i → now ≡ put (added n met before) before
    all_added l = done f l

pub fewer_places :
    {places n : ℕ} (met met' : ℕ → Bool) (xs : List ℕ)
    → places ≤ n
    → n ≤ length xs
    → ((i : ℕ) → i < places → met i ≡ met' i)
    → ((i : ℕ) → places ≤ i → i < n → met' i ≡ false)
    → put (added places met xs) xs ≡ put (added n met' xs) xs
unfolding added
fewer_places {places} {n} met met' xs h k same past = same_tables 0 places n f g xs xs (omega arith) k refl each
  where
    f : ℕ → ℕ
    f = more met (λ i. get_or xs i 0)

    g : ℕ → ℕ
    g = more met' (λ i. get_or xs i 0)

    each : (i : ℕ) → get_or (put (tabulate places f) xs) i 0 ≡ get_or (put (tabulate n g) xs) i 0
    each i =
        by_place i places
        (λ l. table_front 0 places f xs i l ∙ ap (λ (b : Bool). cond b (get_or xs i 0 + 1) (get_or xs i 0)) (same i l) ∙ sym (table_front 0 n g xs i (omega arith)))
        (λ o. table_behind 0 places f xs i o ∙ by_place i n
        (λ l. ap (λ (b : Bool). cond b (get_or xs i 0 + 1) (get_or xs i 0)) (sym (past i o l)) ∙ sym (table_front 0 n g xs i l))
        (λ l. sym (table_behind 0 n g xs i l)))

pub one_read_more :
    (n : ℕ) (met : ℕ → Bool) (c : ℕ → ℕ) (out : List ℕ) {xs : List ℕ}
    → n ≤ length out
    → xs ≡ put (tabulate n c) out
    → put (added n met xs) xs ≡ put (tabulate n (more met c)) out
unfolding added
one_read_more n met c out {xs} h e = same_tables 0 n n f (more met c) xs out (omega (arith, size)) h size each
  where
    size : length xs ≡ length out
    size = ap length e ∙ length_put (tabulate n c) out (omega (arith, length_tabulate n c))

    f : ℕ → ℕ
    f = more met (λ i. get_or xs i 0)

    was : (i : ℕ) → i < n → get_or xs i 0 ≡ c i
    was i l = ap (λ (l : List ℕ). get_or l i 0) e ∙ table_front 0 n c out i l

    each : (i : ℕ) → get_or (put (tabulate n f) xs) i 0 ≡ get_or (put (tabulate n (more met c)) out) i 0
    each i =
        by_place i n
        (λ l. table_front 0 n f xs i l ∙ ap (λ (v : ℕ). cond (met i) (v + 1) v) (was i l) ∙ sym (table_front 0 n (more met c) out i l))
        (λ o. table_behind 0 n f xs i o ∙ ap (λ (l : List ℕ). get_or l i 0) e ∙ table_behind 0 n c out i o ∙ sym (table_behind 0 n (more met c) out i o))

-- The first n places, each filled with v.
pub filled : (n v : ℕ) (out : List ℕ) {Y : List ℕ} → n ≤ length out → Y ≡ replicate (length (take n out)) v → Y ++ drop n out ≡ put (replicate n v) out
unfolding put
filled n v out h e = rw (e, length-take-le n out h, length-replicate n v)
