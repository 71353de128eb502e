-- Whether some depth is above 0, block by block.
--     by_fold     a block looked at whole
--     next        a front without one and the block behind it
--     stop        a block that has one
--     end         where a front has none, all have one if those from a place within it on have
-- Assumes nothing.
use mathlib.Core.Path.{◌≡◌, refl, sym, ◌∙◌}
use mathlib.Core.Bool.{Bool, true, false, ◌||◌}
use mathlib.Core.List.{List, [], ◌∷◌}
use Prim.Native.Nat.{ℕ, zero, suc, ◌+◌, ◌≤◌}
use native.Mathlib.Omega.{arith}
use lib.Dec.{ltb}
use lib.ListN.{length, take, drop, length-drop}
use lib.Seq.{take-nil, take-take, take_all}
use Rattle.std.specs.Prelude.{fold}
use Rattle.duplex_kind.specs.Kind.{some_depth, any_depth}

by_so_far : (b : Bool) (ds : List ℕ) → fold (λ met d. met || ltb 0 d) b ds ≡ (b || some_depth ds)
by_so_far true [] = refl
by_so_far false [] = refl
by_so_far true (d ∷ ds) = by_so_far true ds
by_so_far false (d ∷ ds) = by_so_far (ltb 0 d) ds

pub by_fold : (ds : List ℕ) → any_depth ds ≡ some_depth ds
by_fold ds = by_so_far false ds

assoc : (a b c : Bool) → (a || (b || c)) ≡ ((a || b) || c)
assoc true b c = refl
assoc false b c = refl

both : (i : ℕ) (ds : List ℕ) → some_depth ds ≡ (some_depth (take i ds) || some_depth (drop i ds))
both zero ds = refl
both (suc i) [] = refl
both (suc i) (d ∷ ds) = rw (both i ds) (assoc (ltb 0 d) (some_depth (take i ds)) (some_depth (drop i ds)))

joined : (i n : ℕ) (ds : List ℕ) → some_depth (take (i + n) ds) ≡ (some_depth (take i ds) || some_depth (take n (drop i ds)))
joined zero n ds =
    let none : 0 + n ≡ n = omega arith in
    rw none refl
joined (suc i) n [] = rw (take-nil (suc i + n), take-nil n) refl
joined (suc i) n (d ∷ ds) =
    let one : suc i + n ≡ suc (i + n) = omega arith in
    rw (one, joined i n ds) (assoc (ltb 0 d) (some_depth (take i ds)) (some_depth (take n (drop i ds))))

first : (b c : Bool) → (b || c) ≡ false → b ≡ false
first true c e = e
first false c e = refl

pub next : (i n : ℕ) {j : ℕ} (ds : List ℕ) {answer : Bool} → some_depth (take i ds) ≡ false → answer ≡ any_depth (take n (drop i ds)) → answer ≡ false → j ≡ i + n → some_depth (take j ds) ≡ false
next i n ds {answer} e f g h =
    let block : some_depth (take n (drop i ds)) ≡ false = sym (by_fold (take n (drop i ds))) ∙ sym f ∙ g in
    rw h (joined i n ds ∙ rw (e, block) refl)

pub stop : (i n : ℕ) (ds : List ℕ) {answer : Bool} → some_depth (take i ds) ≡ false → answer ≡ any_depth (take n (drop i ds)) → answer ≡ true → true ≡ some_depth ds
stop i n ds {answer} e f g =
    let block : some_depth (take n (drop i ds)) ≡ true = sym (by_fold (take n (drop i ds))) ∙ sym f ∙ g in
    let front : some_depth (take (i + n) ds) ≡ true = joined i n ds ∙ rw (e, block) refl in
    sym (both (i + n) ds ∙ rw front refl)

pub end : (i m n : ℕ) (ds : List ℕ) → m ≤ i → length ds ≤ m + n → some_depth (take i ds) ≡ false → some_depth ds ≡ any_depth (take n (drop m ds))
end i m n ds h k e =
    let cut : some_depth (take m (take i ds)) ≡ false = first _ _ (sym (both m (take i ds)) ∙ e) in
    let front : some_depth (take m ds) ≡ false = rw (take-take m i ds h) at cut in
    let last : take n (drop m ds) ≡ drop m ds = take_all n (drop m ds) (simp length-drop (omega arith)) in
    both m ds ∙ rw (front, last) (sym (by_fold (drop m ds)))
