-- The reads of one orientation, block by block.
--     next      a front of that orientation and the block behind it
--     stop      a block that is not
--     end       where a front is, all are if those from a place within it on are
-- Assumes nothing.
use mathlib.Core.Path.{◌≡◌, refl, sym, ◌∙◌}
use mathlib.Core.Bool.{Bool, true, false, ◌&&◌}
use mathlib.Core.List.{List, [], ◌∷◌}
use Prim.Native.Nat.{ℕ, zero, suc, ◌+◌, ◌≤◌}
use native.Mathlib.Omega.{arith}
use lib.ListN.{length, take, drop, length-drop}
use lib.Seq.{take-nil, take-take, take_all}
use Rattle.std.specs.Prelude.{fold}
use Rattle.std.specs.Bool.{beq}
use Rattle.duplex_reads.specs.Reads.{is_reverse, all_reverse_as}

module _ (r : Bool) where
  abbrev so_far : Bool → List ℕ → Bool
  so_far b reads = fold (λ alike flags. alike && beq (is_reverse flags) r) b reads

  other : (reads : List ℕ) → so_far false reads ≡ false
  other [] = refl
  other (x ∷ reads) = other reads

  from : (b : Bool) (reads : List ℕ) → so_far b reads ≡ b && all_reverse_as r reads
  from true reads = refl
  from false reads = other reads

  none_behind : (b : Bool) → b ≡ b && true
  none_behind true = refl
  none_behind false = refl

  both : (b : Bool) (i : ℕ) (reads : List ℕ) → so_far b reads ≡ so_far b (take i reads) && all_reverse_as r (drop i reads)
  both b zero reads = from b reads
  both b (suc i) [] = none_behind b
  both b (suc i) (x ∷ reads) = both (b && beq (is_reverse x) r) i reads

  joined : (b : Bool) (i n : ℕ) (reads : List ℕ) → so_far b (take (i + n) reads) ≡ so_far b (take i reads) && all_reverse_as r (take n (drop i reads))
  joined b zero n reads =
      let none : 0 + n ≡ n = omega arith in
      rw none (from b (take n reads))
  joined b (suc i) n [] = rw (take-nil (suc i + n), take-nil n) (none_behind b)
  joined b (suc i) n (x ∷ reads) =
      let one : suc i + n ≡ suc (i + n) = omega arith in
      rw one (joined (b && beq (is_reverse x) r) i n reads)

  first : (b c : Bool) → b && c ≡ true → b ≡ true
  first true c e = refl
  first false c e = e

  pub next : (i n : ℕ) {j : ℕ} (reads : List ℕ) {answer : Bool} → all_reverse_as r (take i reads) ≡ true → answer ≡ all_reverse_as r (take n (drop i reads)) → answer ≡ true → j ≡ i + n → all_reverse_as r (take j reads) ≡ true
  next i n reads e f g h = rw h (joined true i n reads ∙ rw (e, ← f, g) refl)

  pub stop : (i n : ℕ) (reads : List ℕ) {answer : Bool} → all_reverse_as r (take i reads) ≡ true → answer ≡ all_reverse_as r (take n (drop i reads)) → answer ≡ false → false ≡ all_reverse_as r reads
  stop i n reads e f g =
      let front : all_reverse_as r (take (i + n) reads) ≡ false = joined true i n reads ∙ rw (e, ← f, g) refl in
      sym (both true (i + n) reads ∙ rw front refl)

  pub end : (i m n : ℕ) (reads : List ℕ) → m ≤ i → length reads ≤ m + n → all_reverse_as r (take i reads) ≡ true → all_reverse_as r reads ≡ all_reverse_as r (take n (drop m reads))
  end i m n reads h k e =
      let cut : all_reverse_as r (take m (take i reads)) ≡ true = first _ _ (sym (both true m (take i reads)) ∙ e) in
      let front : all_reverse_as r (take m reads) ≡ true = rw (take-take m i reads h) at cut in
      let last : take n (drop m reads) ≡ drop m reads = take_all n (drop m reads) (simp length-drop (omega arith)) in
      both true m reads ∙ rw (front, last) refl
