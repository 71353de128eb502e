-- Laws of evidence that is kept, from bytes to bytes.
--     kept_position       a position's two counts, read one after the other
--     mark_read, count_read     what is read of a position, by its bytes
--     joined_equal, table_bytes     the bytes of evidence that is given by a rule for each position
-- Assumes nothing.
use mathlib.Core.Path.{◌≡◌, refl, ap, ap₂, ◌∙◌}
use mathlib.Core.Bool.{Bool, true, false, cond}
use mathlib.Core.List.{List, ◌++◌}
use Prim.Native.Nat.{ℕ, zero, suc, ◌-◌, ◌/◌, ◌<◌}
use native.Mathlib.Omega.{arith}
use lib.ListN.{length, take, drop, get_or}
use lib.Seq.{take-take}
use Rattle.lists.specs.Table.{tabulate}
use Rattle.lists.proofs.Table.{length_tabulate, get_d_tabulate}
use Rattle.methylation.specs.declared.Evidence.{Evidence}
use Rattle.byte_numbers.specs.Bytes.{number_of}
use Rattle.byte_numbers.specs.Groups.{group, joined, by_group}
use Rattle.molecule_evidence.specs.Evidence.{position_bytes, evidence_bytes, mark_in, count_in, marks_of, counts_of, kept_or_clear, kept_in, bytes_in}

pub kept_position :
    (kept : Bool) (position : List ℕ) {bytes : List ℕ} {m u c : ℕ}
    → bytes ≡ kept_or_clear kept position
    → m ≡ cond kept 1 0
    → u ≡ number_of (take 4 (take (5 - 1) (drop 1 bytes)))
    → c ≡ number_of (take 4 (take (9 - 5) (drop 5 bytes)))
    → (record { mark = m; unconverted = u; converted = c }) ≡ kept_in kept position
unfolding count_in number_of
kept_position kept position {bytes} e f g h =
    let first : number_of (take 4 (take (5 - 1) (drop 1 bytes))) ≡ count_in 1 bytes = ap number_of (take-take 4 4 (drop 1 bytes) (omega arith)) in
    let second : number_of (take 4 (take (9 - 5) (drop 5 bytes))) ≡ count_in 5 bytes = ap number_of (take-take 4 4 (drop 5 bytes) (omega arith)) in
    rw (f, g ∙ first, h ∙ second, e) (told kept)
  where
    told : (k : Bool) → (record { mark = cond k 1 0; unconverted = count_in 1 (kept_or_clear k position); converted = count_in 5 (kept_or_clear k position) }) ≡ kept_in k position
    told true = refl
    told false = refl

module _ (bytes : List ℕ) (i : ℕ) (h : i < length bytes / 9) where
  pub mark_read : get_or (marks_of bytes) i 0 ≡ mark_in (group 9 bytes i)
  unfolding by_group
  mark_read = get_d_tabulate (length bytes / 9) (λ i. mark_in (group 9 bytes i)) i 0 h

  pub count_read : (offset : ℕ) → get_or (counts_of offset bytes) i 0 ≡ count_in offset (group 9 bytes i)
  unfolding by_group
  count_read offset = get_d_tabulate (length bytes / 9) (λ i. count_in offset (group 9 bytes i)) i 0 h

pub joined_equal : (n : ℕ) (f g : ℕ → List ℕ) → ((i : ℕ) → i < n → f i ≡ g i) → joined n f ≡ joined n g
unfolding joined
joined_equal zero f g h = refl
joined_equal (suc n) f g h = ap₂ (λ (xs ys : List ℕ). xs ++ ys) (joined_equal n f g (λ i l. h i (omega arith))) (h n (omega arith))

pub table_bytes : (n : ℕ) (of : ℕ → Evidence) → evidence_bytes (tabulate n (λ i. (of i).mark)) (tabulate n (λ i. (of i).unconverted)) (tabulate n (λ i. (of i).converted)) ≡ joined n (λ i. bytes_in (of i))
unfolding evidence_bytes
table_bytes n of =
    ap (λ (k : ℕ). joined k (λ i. position_bytes (get_or (tabulate n (λ i. (of i).mark)) i 0) (get_or (tabulate n (λ i. (of i).unconverted)) i 0) (get_or (tabulate n (λ i. (of i).converted)) i 0))) (length_tabulate n (λ i. (of i).mark))
    ∙ joined_equal n _ (λ i. bytes_in (of i))
    (λ i h.
    rw (get_d_tabulate n (λ i. (of i).mark) i 0 h, get_d_tabulate n (λ i. (of i).unconverted) i 0 h, get_d_tabulate n (λ i. (of i).converted) i 0 h) refl)
