-- What a condition of the table says where it is not met.
--     not_over, not_too_long, not_ragged, not_too_short     of each length
--     all_reach                                   the other way round, of row 12
--     neither, nor_where, both_hold               of tests joined by `||` and `&&`
-- Assumes nothing.
use mathlib.Core.Path.{◌≡◌, refl, sym}
use mathlib.Core.Bool.{Bool, true, false, not, ◌&&◌, ◌||◌, true≢false}
use mathlib.Core.List.{List, [], ◌∷◌}
use Prim.Native.Nat.{ℕ, ◌≤◌}
use borrow.Author.Tests.{ltb-false, le-ltb, eqb-true, not-false}
use lib.Dec.{eqb, ltb}
use Rattle.refusals.specs.Refusal.{any, over, too_long, ragged, too_short}

pub neither : (a b : Bool) → (a || b) ≡ false → (a ≡ false) × (b ≡ false)
neither true b e = absurd (true≢false e)
neither false b e = (refl, e)

-- A condition on some arrays, or where b holds on others.
pub nor_where : (a b c : Bool) → (a || (b && c)) ≡ false → (a ≡ false) × (b ≡ true → c ≡ false)
nor_where true b c e = absurd (true≢false e)
nor_where false true c e = (refl, λ h. e)
nor_where false false c e = (refl, λ h. absurd (true≢false (sym h)))

pub both_hold : (a b : Bool) → (a && b) ≡ true → (a ≡ true) × (b ≡ true)
both_hold true b e = (refl, e)
both_hold false b e = absurd (true≢false (sym e))

-- P of each element: a pair for each.
abbrev pub Every : (ℕ → Type 0) → List ℕ → Type 0
Every P [] = Unit {0}
Every P (x ∷ xs) = P x × Every P xs

any_false : (p : ℕ → Bool) (P : ℕ → Type 0) → ((x : ℕ) → p x ≡ false → P x) → (xs : List ℕ) → any p xs ≡ false → Every P xs
any_false p P so [] e = tt
any_false p P so (x ∷ []) e = (so x e, tt)
any_false p P so (x ∷ (y ∷ ys)) e =
    let (here, later) = neither (p x) (any p (y ∷ ys)) e in
    (so x here, any_false p P so (y ∷ ys) later)

pub not_over : (limit : ℕ) (xs : List ℕ) → over limit xs ≡ false → Every (λ x. x ≤ limit) xs
not_over limit = any_false (λ x. ltb limit x) (λ x. x ≤ limit) (λ x e. ltb-false limit x e)

pub not_too_long : (xs : List ℕ) → too_long xs ≡ false → Every (λ x. x ≤ 1024) xs
not_too_long = not_over 1024

pub not_ragged : (n : ℕ) (xs : List ℕ) → ragged (n ∷ xs) ≡ false → Every (λ x. x ≡ n) xs
not_ragged n = any_false (λ x. not (eqb x n)) (λ x. x ≡ n) (λ x e. eqb-true x n (not-false (eqb x n) e))

pub not_too_short : (n : ℕ) (xs : List ℕ) → too_short n xs ≡ false → Every (λ x. n ≤ x) xs
not_too_short n = any_false (λ x. ltb x n) (λ x. n ≤ x) (λ x e. ltb-false x n e)

pub all_reach : (n : ℕ) (xs : List ℕ) → Every (λ x. n ≤ x) xs → too_short n xs ≡ false
all_reach n [] e = refl
all_reach n (x ∷ []) e = le-ltb x n e.0
all_reach n (x ∷ (y ∷ ys)) e = rw (le-ltb x n e.0) (all_reach n (y ∷ ys) e.1)
