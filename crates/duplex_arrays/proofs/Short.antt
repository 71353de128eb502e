-- What is written where arrays may be too short.
--     reached, long_enough              no array is too short: each has n elements
--     nothing_written, all_written      what is written then, for the code
--     put_all                           for a caller whose arrays are long enough
-- Assumes nothing.
use mathlib.Core.Path.{◌≡◌, refl}
use mathlib.Core.Bool.{Bool, true, false, ◌&&◌}
use mathlib.Core.List.{List}
use Prim.Native.Nat.{ℕ, ◌≤◌}
use Rattle.lists.specs.Output.{put}
use Rattle.refusals.specs.Refusal.{too_short}
use Rattle.refusals.proofs.Condition.{Every, nor_where, not_too_short, all_reach}
use Rattle.duplex_arrays.specs.Positions.{arrays_short, unless_short}

pub reached :
    (n : ℕ) (calls : Bool) (marks others : List ℕ)
    → arrays_short n calls marks others ≡ false
    → (calls ≡ true → Every (λ x. n ≤ x) marks) × Every (λ x. n ≤ x) others
unfolding arrays_short
reached n calls marks others e =
    let (marked, rest) = nor_where (calls && too_short n marks) true (too_short n others) e in
    (λ k. not_too_short n marks ((nor_where false calls (too_short n marks) marked).1 k), not_too_short n others (rest refl))

pub long_enough :
    (n : ℕ) (calls : Bool) (marks others : List ℕ)
    → (calls ≡ true → Every (λ x. n ≤ x) marks)
    → Every (λ x. n ≤ x) others
    → arrays_short n calls marks others ≡ false
unfolding arrays_short
long_enough n true marks others h k = rw (all_reach n marks (h refl)) (all_reach n others k)
long_enough n false marks others h k = all_reach n others k

module _ {A : Type 0} {short : Bool} (xs out : List A) where
  pub nothing_written : short ≡ true → out ≡ put (unless_short short xs) out
  unfolding unless_short put
  nothing_written e = rw e

  pub all_written : {now : List A} → short ≡ false → now ≡ put xs out → now ≡ put (unless_short short xs) out
  unfolding unless_short
  all_written e h = rw e h

  pub put_all : {now : List A} → short ≡ false → now ≡ put (unless_short short xs) out → now ≡ put xs out
  unfolding unless_short
  put_all e h = rw e at h
