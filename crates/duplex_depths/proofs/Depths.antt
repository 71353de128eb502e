-- What stands at a position of a record, by which strand reaches it.
--     combined_length                              so many positions
--     first_alone, second_alone, neither     the depth where one strand has ended, or both
--     longer_alone, longer_length                  the same by the longer strand, and how long it is
--     copied, filled                               the depths of the first i positions and of k more, which are a strand's own or 0
--     at_place, all_put                            what of it the code needs at each step
-- Assumes nothing.
use mathlib.Core.Path.{◌≡◌, refl, sym, ap, ◌∙◌}
use mathlib.Core.Bool.{Bool, true, false, cond}
use mathlib.Core.List.{List, [], ◌∷◌, ◌++◌, append-nil, append_assoc}
use Prim.Native.Nat.{ℕ, suc, ◌+◌, ◌≤◌, ◌<◌, min, max}
use native.Mathlib.Nat.{add-zero}
use native.Mathlib.Omega.{arith}
use borrow.Author.Tests.{ltb-true, ltb-false}
use borrow.Rule.Slice.PartMut.{put_mid, mid_of}
use lib.Dec.{ltb}
use lib.ListN.{length, take, drop, get_or, replicate, length-take, length-drop, length-replicate, get_or-replicate, get_or-eq_default}
use lib.Seq.{take-suc, take_all, get_or-take, get_or-drop}
use Rattle.lists.specs.Output.{put}
use Rattle.lists.proofs.Output.{copy_next, fill_next}
use Rattle.lists.proofs.Table.{length_tabulate, get_d_tabulate}
use Rattle.numbers.specs.Numbers.{saturating_add}
use Rattle.duplex_depths.specs.Depths.{combined_depth, combined_depths, longer}

module _ (ab ba : List ℕ) where
  pub combined_length : (n : ℕ) → length (combined_depths n ab ba) ≡ n
  unfolding combined_depths
  combined_length n = length_tabulate n (combined_depth ab ba)

module _ (ab ba : List ℕ) {i : ℕ} where
  pub first_alone : length ba ≤ i → get_or ab i 0 ≤ 65535 → get_or ab i 0 ≡ combined_depth ab ba i
  unfolding saturating_add
  first_alone h k = rw (get_or-eq_default ba 0 {n = i} h) (omega arith)

  pub second_alone : length ab ≤ i → get_or ba i 0 ≤ 65535 → get_or ba i 0 ≡ combined_depth ab ba i
  unfolding saturating_add
  second_alone h k = rw (get_or-eq_default ab 0 {n = i} h) (omega arith)

  pub neither : length ab ≤ i → length ba ≤ i → 0 ≡ combined_depth ab ba i
  unfolding saturating_add
  neither h k = rw (get_or-eq_default ab 0 {n = i} h, get_or-eq_default ba 0 {n = i} k) (omega arith)

-- Of the longer strand, from where both reach on: within n positions, by which is the longer.
pub longer_alone : (n : ℕ) (ab ba : List ℕ) {i : ℕ} → i < n → min n (min (length ab) (length ba)) ≤ i → get_or (longer ab ba) i 0 ≤ 65535 → get_or (longer ab ba) i 0 ≡ combined_depth ab ba i
longer_alone n ab ba {i} within behind = go (ltb (length ab) (length ba)) refl
  where
    go : (second : Bool) → ltb (length ab) (length ba) ≡ second → get_or (cond second ba ab) i 0 ≤ 65535 → get_or (cond second ba ab) i 0 ≡ combined_depth ab ba i
    go true e few = second_alone ab ba (omega (arith, ltb-true (length ab) (length ba) e)) few
    go false e few = first_alone ab ba (omega (arith, ltb-false (length ab) (length ba) e)) few

pub longer_length : (ab ba : List ℕ) → length (longer ab ba) ≡ max (length ab) (length ba)
longer_length ab ba = go (ltb (length ab) (length ba)) refl
  where
    go : (second : Bool) → ltb (length ab) (length ba) ≡ second → length (cond second ba ab) ≡ max (length ab) (length ba)
    go true e = omega (arith, ltb-true (length ab) (length ba) e)
    go false e = omega (arith, ltb-false (length ab) (length ba) e)

-- More elements behind the first i of a list, if they are its next ones.
extend : (tab ys : List ℕ) (i : ℕ) → i + length ys ≤ length tab → ((j : ℕ) → j < length ys → get_or ys j 0 ≡ get_or tab (i + j) 0) → take i tab ++ ys ≡ take (i + length ys) tab
extend tab [] i h f = rw (add-zero i) (append-nil (take i tab))
extend tab (y ∷ ys) i h f =
    let more : i < length tab = omega (arith, h) in
    let here : y ≡ get_or tab i 0 = f 0 (omega arith) ∙ ap (λ (m : ℕ). get_or tab m 0) (add-zero i) in
    let one : take i tab ++ y ∷ [] ≡ take (suc i) tab = rw here (sym (take-suc tab i 0 more)) in
    let rest : take (suc i) tab ++ ys ≡ take (suc i + length ys) tab = extend tab ys (suc i) (omega (arith, h)) (λ j k. f (suc j) (omega (arith, k)) ∙ ap (λ (m : ℕ). get_or tab m 0) (omega arith)) in
    sym (append_assoc (take i tab) (y ∷ []) ys) ∙ ap (λ (l : List ℕ). l ++ ys) one ∙ rest ∙ ap (λ (m : ℕ). take m tab) (omega arith)

module _ (n : ℕ) (ab ba before : List ℕ) (room : n ≤ length before) (i k : ℕ) (within : i + k ≤ n) {L : List ℕ} (e : L ≡ put (take i (combined_depths n ab ba)) before) where
  abbrev all : List ℕ
  all = combined_depths n ab ba

  front_size : i ≡ length (take i all)
  front_size = omega (arith, length-take i all, combined_length ab ba n)

  next_ones : (ys : List ℕ) → length ys ≡ k → ((j : ℕ) → j < k → get_or ys j 0 ≡ combined_depth ab ba (i + j)) → take i all ++ ys ≡ take (i + k) all
  unfolding combined_depths
  next_ones ys size f =
      extend all ys i (omega (arith, combined_length ab ba n)) (λ j h. f j (omega (arith, h)) ∙ sym (get_d_tabulate n (combined_depth ab ba) (i + j) 0 (omega (arith, h))))
      ∙ ap (λ (m : ℕ). take (i + m) all) size

  more_put : (ys : List ℕ) → length ys ≡ k → ((j : ℕ) → j < k → get_or ys j 0 ≡ combined_depth ab ba (i + j)) → put (take i all ++ ys) before ≡ put (take (i + k) all) before
  more_put ys size f = ap (λ (l : List ℕ). put l before) (next_ones ys size f)

  pub copied : (xs : List ℕ) {Y : List ℕ} → i + k ≤ length xs → ((j : ℕ) → j < k → get_or xs (i + j) 0 ≡ combined_depth ab ba (i + j)) → Y ≡ put (take (length (mid_of i k L)) (mid_of i k xs)) (mid_of i k L) → put_mid i k L Y ≡ put (take (i + k) all) before
  copied xs enough f w =
      let ys = mid_of i k xs in
      let size : length ys ≡ k = length-take k (drop i xs) ∙ omega (arith, length-drop i xs) in
      copy_next (take i all) before k e front_size (omega arith) ys (omega (arith, size)) w ∙ more_put ys size (λ j h. get_or-take k (drop i xs) j 0 h ∙ get_or-drop i xs j 0 ∙ f j h)

  pub filled : {Y : List ℕ} → ((j : ℕ) → j < k → 0 ≡ combined_depth ab ba (i + j)) → Y ≡ replicate (length (mid_of i k L)) 0 → put_mid i k L Y ≡ put (take (i + k) all) before
  filled f w = fill_next (take i all) before k e front_size (omega arith) 0 w ∙ more_put (replicate k 0) (length-replicate k 0) (λ j h. get_or-replicate k j 0 0 h ∙ f j h)

-- From where one place is another's, and at the end.
pub at_place : (n : ℕ) (ab ba before : List ℕ) {i j : ℕ} {L : List ℕ} → i ≡ j → L ≡ put (take i (combined_depths n ab ba)) before → L ≡ put (take j (combined_depths n ab ba)) before
at_place n ab ba before h e = rw h at e

pub all_put : (n : ℕ) (ab ba before : List ℕ) {i : ℕ} {L : List ℕ} → i ≡ n → L ≡ put (take i (combined_depths n ab ba)) before → L ≡ put (combined_depths n ab ba) before
all_put n ab ba before {i} h e = e ∙ ap (λ (l : List ℕ). put l before) (take_all i (combined_depths n ab ba) (omega (arith, combined_length ab ba n)))
