-- Laws of groups of one width, for any width and any element type.
--     taken                            a part of a list, element by element
--     group_room, part_of_group        a group lies within its list, and a part of it is a part of the list
--     length_by_group                  how many groups there are
--     length_joined, group_joined      how long joined groups are, and that each is found again
--     by_group_joined                  so that what they stand for is, too
--     read_front, all_fit              what is read and written where there is room for all
--     begin_read, read_within, read_room, next_read_lem  a loop that writes what groups stand for, as far as there is room (`Copying`)
--     part_stored                      a part that is stored at once
--     Joining                          the invariant of a loop that writes groups one after another
--     begin_join, same_join, join_room, next_join, done_join      the five facts that such a loop asks for
--     Writing                          the same for a group for each element of a list, as many as there is room for: begin-, -room, next-, done-
-- Assumes nothing.
use mathlib.Core.Path.{◌≡◌, refl, sym, ap, ◌∙◌}
use mathlib.Core.Bool.{Bool, true, false}
use mathlib.Core.List.{List, ◌++◌, append_assoc}
use Prim.Native.Nat.{ℕ, zero, suc, ◌+◌, ◌*◌, ◌/◌, ◌≤◌, ◌<◌, min}
use native.Mathlib.Omega.{arith}
use native.Mathlib.Nat.{add-zero, add-suc, suc-add, mul-zero, mul-suc, mul-le-mul_left, mul_comm, mul-div-le, mul-div_cancel_left, le-div_iff_mul-le}
use native.Mathlib.Numerals.{add-one}
use borrow.Author.Tests.{ltb-true, ltb-false}
use borrow.Rule.Slice.PartMut.{put_mid, mid_of}
use lib.Dec.{ltb}
use lib.ListN.{length, take, drop, set, get_or, length-append, length-take, length-drop, take-append-drop}
use lib.Seq.{sets, sets-eq, drop-cons, take-append-le, drop-append-le, take-append_seam, drop-append-add, drop-drop, length-take-le, take_all, drop_at, get_or-take, ext_get_or}
use Rattle.lists.specs.Output.{put}
use Rattle.lists.specs.Table.{tabulate}
use Rattle.lists.proofs.Output.{Copying, begin_copy, next_copy, length_put, put_fitting, put_whole}
use Rattle.lists.proofs.Table.{length_tabulate, get_d_tabulate}
use Rattle.byte_numbers.specs.Groups.{group, joined, by_group}

module _ {A : Type 0} (d : A) where
  pub taken : (k at : ℕ) (xs : List A) → at + k ≤ length xs → take k (drop at xs) ≡ tabulate k (λ j. get_or xs (at + j) d)
  unfolding tabulate
  taken zero at xs h = refl
  taken (suc k) at xs h = rw (drop-cons xs at d (omega arith), add-zero, taken k (suc at) xs (omega arith)) (simp (suc-add, add-suc))

module _ {A : Type 0} where
  pub group_room : (width : ℕ) (xs : List A) (i : ℕ) → i < length xs / width → width * i + width ≤ length xs
  group_room width xs i h = omega (arith, mul-le-mul_left width h, mul-div-le (length xs) width, mul-suc width i)

  -- Where there is room for a group for each element, none is left out.
  pub all_fit : {B : Type 0} (width : ℕ) (xs : List A) (out : List B) → 0 < width → width * length xs ≤ length out → take (length out / width) xs ≡ xs
  all_fit width xs out positive h = take_all (length out / width) xs ((le-div_iff_mul-le positive).1 (rw mul_comm h))

  pub part_of_group :
      (width offset k : ℕ) (xs : List A) (i : ℕ)
      → i < length xs / width
      → offset + k ≤ width
      → take k (drop offset (group width xs i)) ≡ take k (drop (width * i + offset) xs)
  unfolding group
  part_of_group width offset k xs i h fits =
      let ys = drop (width * i) xs in
      let room : width ≤ length ys = omega (arith, group_room width xs i h, length-drop (width * i) xs) in
      let whole : length (take width ys) ≡ width = length-take-le width ys room in
      sym (take-append-le k (drop offset (take width ys)) (drop width ys) (omega (arith, length-drop offset (take width ys))))
      ∙ ap (λ (l : List A). take k l) (sym (drop-append-le offset (take width ys) (drop width ys) (omega arith)))
      ∙ ap (λ (l : List A). take k (drop offset l)) (take-append-drop width ys)
      ∙ ap (λ (l : List A). take k l) (drop-drop offset (width * i) xs)

module _ {A B : Type 0} (width : ℕ) (f : List A → B) (xs : List A) where
  pub length_by_group : length (by_group width f xs) ≡ length xs / width
  unfolding by_group
  length_by_group = length_tabulate (length xs / width) (λ i. f (group width xs i))

  by_group_at : (i : ℕ) (d : B) → i < length xs / width → get_or (by_group width f xs) i d ≡ f (group width xs i)
  unfolding by_group
  by_group_at i d h = get_d_tabulate (length xs / width) (λ i. f (group width xs i)) i d h

  module _ {before : List B} where
    pub begin_read : {n : ℕ} → n ≡ min (length before) (length xs / width) → Copying n (by_group width f xs) before 0 before
    begin_read e = begin_copy (by_group width f xs) before (rw length_by_group e)

    module _ {n i : ℕ} {now : List B} (c : Copying n (by_group width f xs) before i now) (h : i < n) where
      pub read_within : i < length xs / width
      read_within = omega (arith, c.count, length_by_group)

      pub read_room : width * i + width ≤ length xs
      read_room = group_room width xs i read_within

      pub next_read_lem : (d : B) {v : B} → v ≡ f (group width xs i) → Copying n (by_group width f xs) before (i + 1) (set now i v)
      next_read_lem d e = rw (e, ← by_group_at i d read_within) (next_copy d c h)

  -- Where there is room for all, all is at the front.
  pub read_front : (before : List B) {L : List B} → length xs / width ≤ length before → L ≡ put (take (length before) (by_group width f xs)) before → take (length xs / width) L ≡ by_group width f xs
  unfolding put
  read_front before h e =
      let all = by_group width f xs in
      let whole : put (take (length before) all) before ≡ put all before = put_fitting all before (omega (arith, length_by_group)) in
      rw (e, whole, ← length_by_group) (take-append_seam all (drop (length all) before))

module _ {A : Type 0} (width : ℕ) (f : ℕ → List A) (each : (k : ℕ) → length (f k) ≡ width) where
  pub length_joined : (n : ℕ) → length (joined n f) ≡ width * n
  unfolding joined
  length_joined zero = sym (mul-zero width)
  length_joined (suc n) = rw (length-append, length_joined n, each, mul-suc)

  pub group_joined : (n i : ℕ) → i < n → group width (joined n f) i ≡ f i
  unfolding group joined
  group_joined zero i h = absurd (omega arith)
  group_joined (suc n) i h = go (ltb i n) refl (λ more. group_joined n i more)
    where
      long : length (joined n f) ≡ width * n
      long = length_joined n

      go : (b : Bool) → ltb i n ≡ b → (i < n → take width (drop (width * i) (joined n f)) ≡ f i) → take width (drop (width * i) (joined n f ++ f n)) ≡ f i
      go true e earlier =
          let more : i < n = ltb-true i n e in
          let room : width * i + width ≤ width * n = omega (arith, mul-le-mul_left width more, mul-suc width i) in
          ap (λ (l : List A). take width l) (drop-append-le (width * i) (joined n f) (f n) (omega (arith, long)))
          ∙ take-append-le width (drop (width * i) (joined n f)) (f n) (omega (arith, long, length-drop (width * i) (joined n f)))
          ∙ earlier more
      go false e earlier =
          let last : i ≡ n = omega (arith, ltb-false i n e) in
          rw (last, drop_at (joined n f) (f n) (width * n) long) (take_all width (f n) (omega (arith, each n)))

  pub by_group_joined : {B : Type 0} (g : List A → B) (n : ℕ) (d : B) (ys : List B) → 0 < width → length ys ≡ n → ((i : ℕ) → i < n → g (f i) ≡ get_or ys i d) → by_group width g (joined n f) ≡ ys
  by_group_joined g n d ys positive whole same =
      let counted : length (by_group width g (joined n f)) ≡ n = length_by_group width g (joined n f) ∙ ap (λ (k : ℕ). k / width) (length_joined n) ∙ mul-div_cancel_left n positive in
      ext_get_or d (by_group width g (joined n f)) ys (counted ∙ sym whole)
      (λ i h.
      let more : i < n = omega arith in
      by_group_at width g (joined n f) i d (omega (arith, length_by_group width g (joined n f))) ∙ ap g (group_joined n i more) ∙ same i more)

module _ {A : Type 0} where
  -- vs is copied to a part that has as many places.
  pub part_stored :
      (l vs : List A) (at k : ℕ) {Y : List A}
      → length vs ≡ k
      → at + k ≤ length l
      → Y ≡ put (take (length (mid_of at k l)) vs) (mid_of at k l)
      → put_mid at k l Y ≡ sets l at vs
  part_stored l vs at k {Y} e h f =
      let size : length (mid_of at k l) ≡ k = simp (length-take, length-drop) (omega arith) in
      let all : Y ≡ vs = f ∙ put_fitting vs (mid_of at k l) (omega arith) ∙ put_whole vs (mid_of at k l) (e ∙ sym size) in
      rw (all, sets-eq vs l at (omega arith), drop-drop, e) (simp append_assoc)

  -- vs is stored right after what was written.
  store_next : (xs vs out : List A) {at : ℕ} → at ≡ length xs → at + length vs ≤ length out → sets (put xs out) at vs ≡ put (xs ++ vs) out
  unfolding put
  store_next xs vs out {at} e h =
      let rest = drop (length xs) out in
      let whole : length (xs ++ rest) ≡ length out = length_put xs out (omega arith) in
      sets-eq vs (xs ++ rest) at (omega arith)
      ∙ rw (e, take-append_seam, drop-append-add, drop-drop, length-append)

  -- The invariant of a loop that writes the n groups f 0, f 1, .. to the front of `before`, one a turn: `now` is the output when
  -- i of them are written.
  pub record Joining (width n : ℕ) (f : ℕ → List A) (before : List A) (i : ℕ) (now : List A) : Type 0 where
    pub each : (k : ℕ) → length (f k) ≡ width
    pub room : width * n ≤ length before
    pub within : i ≤ n
    pub so_far : now ≡ put (joined i f) before

module _ {A : Type 0} {width n : ℕ} {f : ℕ → List A} {before : List A} where
  pub begin_join : ((k : ℕ) → length (f k) ≡ width) → width * n ≤ length before → Joining width n f before 0 before
  unfolding joined put
  begin_join each h = record { each = each; room = h; within = omega arith; so_far = refl }

  module _ {i : ℕ} {now : List A} (j : Joining width n f before i now) where
    written : length (joined i f) ≡ width * i
    written = length_joined width f j.each i

    pub same_join : length now ≡ length before
    same_join = ap length j.so_far ∙ length_put (joined i f) before (omega (arith, written, mul-le-mul_left width j.within))

    pub join_room : i < n → width * i + width ≤ length now
    join_room h = omega (arith, same_join, mul-le-mul_left width h, mul-suc width i)

    pub next_join : {L : List A} → i < n → L ≡ sets now (width * i) (f i) → Joining width n f before (i + 1) L
    unfolding joined
    next_join h e = record {
      each = j.each;
      room = j.room;
      within = omega arith;
      so_far =
          rw (e, j.so_far, add-one)
          (store_next (joined i f) (f i) before (sym written) (omega (arith, j.each i, j.room, mul-le-mul_left width h, mul-suc width i)));
    }

    pub done_join : n ≤ i → now ≡ put (joined n f) before
    done_join h =
        let all : i ≡ n = omega arith in
        rw (← all) j.so_far

module _ {A B : Type 0} where
  -- The invariant of a loop that writes a group for each element of xs, by its value and place, as many as there is room for: n of
  -- them.
  pub record Writing (width n : ℕ) (f : B → ℕ → List A) (d : B) (xs : List B) (before : List A) (i : ℕ) (now : List A) : Type 0 where
    pub count : n ≡ min (length before / width) (length xs)
    pub joining : Joining width n (λ k. f (get_or (take (length before / width) xs) k d) k) before i now

  module _ (width : ℕ) (f : B → ℕ → List A) (d : B) (xs : List B) (before : List A) where
    pub begin_write : {n : ℕ} → ((x : B) (k : ℕ) → length (f x k) ≡ width) → n ≡ min (length before / width) (length xs) → Writing width n f d xs before 0 before
    begin_write {n} each e =
        let few : n ≤ length before / width = omega arith in
        record {
          count = e;
          joining = begin_join (λ k. each (get_or (take (length before / width) xs) k d) k) (omega (arith, mul-le-mul_left width few, mul-div-le (length before) width));
        }

  module _ {width n : ℕ} {f : B → ℕ → List A} {d : B} {xs : List B} {before : List A} {i : ℕ} {now : List A} (w : Writing width n f d xs before i now) where
    pub write_room : i < n → width * i + width ≤ length now
    write_room h = join_room w.joining h

    pub next_write : {L : List A} → i < n → L ≡ sets now (width * i) (f (get_or xs i d) i) → Writing width n f d xs before (i + 1) L
    next_write h e = record {
      count = w.count;
      joining = next_join w.joining h (rw (get_or-take (length before / width) xs i d (omega (arith, w.count))) e);
    }

    pub done_write : n ≤ i → now ≡ put (joined (length (take (length before / width) xs)) (λ k. f (get_or (take (length before / width) xs) k d) k)) before
    done_write h = rw (length-take, ← w.count) (done_join w.joining h)
