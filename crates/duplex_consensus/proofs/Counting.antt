-- A count over the errors of a record.
--     none_asked      of no positions: it leaves all as it was
--     from_zeros      of positions that were left 0: how many reads are errors at each
-- Assumes nothing.
use mathlib.Core.Path.{◌≡◌, ap, ◌∙◌}
use mathlib.Core.Bool.{Bool}
use mathlib.Core.List.{List, [], ◌∷◌, foldl}
use Prim.Native.Nat.{ℕ, ◌≤◌, ◌<◌}
use native.Mathlib.Nat.{min-eq_left}
use native.Mathlib.Omega.{arith}
use lib.Dec.{lit<}
use lib.ListN.{length, get_or}
use Rattle.lists.specs.Output.{put}
use Rattle.lists.specs.Table.{tabulate}
use Rattle.lists.proofs.Output.{length_put, put_equal, put_over}
use Rattle.lists.proofs.Table.{length_tabulate, tabulate_equal}
use Rattle.lists.proofs.Written.{table_front}
use Rattle.numbers.proofs.Numbers.{smallest_le}
use Rattle.duplex_molecule.specs.declared.CtInput.{CtInput}
use Rattle.duplex_strands.specs.Combine.{uncounted}
use Rattle.source_reads.specs.Arrays.{BaseArrays, CombinedArrays}
use Rattle.source_reads.specs.Reads.{read_errors, add_error, added_errors, expected_at, counted_length, counted_errors}
use Rattle.source_reads.specs.declared.SourceRead.{SourceRead}
use Rattle.source_reads.proofs.Counted.{as_counted}

pub none_asked : (reads : List SourceRead) (bytes : List ℕ) (ct : CtInput) (a b : BaseArrays) (errors : List ℕ) → counted_errors reads bytes (record { ct = ct; positions = 0; a = a; b = b }) errors ≡ errors
unfolding counted_errors added_errors tabulate put
none_asked reads bytes ct a b errors =
    let none = smallest_le (0 ∷ length a.bases ∷ length a.quals ∷ length b.bases ∷ length b.quals ∷ length errors ∷ 1024 ∷ []) 0 (lit< tt) in
    let zero : counted_length (record { ct = ct; positions = 0; a = a; b = b }) (length errors) ≡ 0 = omega (arith, none) in
    ap (λ (n : ℕ). added_errors n bytes (expected_at ct a b) reads errors) zero

module _ (reads : List SourceRead) (bytes : List ℕ) (s : CombinedArrays) where
  -- The arrays reach as many positions as are asked for, which a strand may have.
  pub record Reach (errors : List ℕ) : Type 0 where
    pub a : s.positions ≤ length s.a.bases
    pub qa : s.positions ≤ length s.a.quals
    pub b : s.positions ≤ length s.b.bases
    pub qb : s.positions ≤ length s.b.quals
    pub own : s.positions ≤ length errors
    pub few : s.positions ≤ 1024

  as_asked : (errors : List ℕ) → Reach errors → counted_length s (length errors) ≡ s.positions
  as_asked errors f =
      let itself : s.positions ≤ s.positions = omega arith in
      rw (min-eq_left itself, min-eq_left f.a, min-eq_left f.qa, min-eq_left f.b, min-eq_left f.qb, min-eq_left f.own, min-eq_left f.few)

  abbrev expected : ℕ → Bool → ℕ
  expected = expected_at s.ct s.a s.b

  pub from_zeros : (before : List ℕ) {zs : List ℕ} → Reach before → length reads ≤ 65535 → zs ≡ put (tabulate s.positions uncounted) before
      → counted_errors reads bytes s zs ≡ put (tabulate s.positions (λ i. read_errors bytes (expected i) i reads)) before
  unfolding counted_errors added_errors
  from_zeros before {zs} f few e =
      let n = s.positions in
      let as_long : length zs ≡ length before = ap length e ∙ length_put (tabulate n uncounted) before (omega (arith, length_tabulate n uncounted, f.own)) in
      let room : n ≤ length zs = omega (arith, f.own) in
      let reach : Reach zs = record { a = f.a; qa = f.qa; b = f.b; qb = f.qb; own = room; few = f.few } in
      ap (λ (m : ℕ). added_errors m bytes expected reads zs) (as_asked zs reach)
      ∙ put_equal zs (tabulate_equal n (λ i. foldl (add_error bytes (expected i) i) (get_or zs i 0) reads) (λ i. read_errors bytes (expected i) i reads) (λ i l. ap (λ (z : ℕ). foldl (add_error bytes (expected i) i) z reads) (zero i l) ∙ as_counted bytes (expected i) i reads few))
      ∙ ap (λ (l : List ℕ). put (tabulate n (λ i. read_errors bytes (expected i) i reads)) l) e
      ∙ put_over (tabulate n (λ i. read_errors bytes (expected i) i reads)) (tabulate n uncounted) before (omega (arith, length_tabulate n (λ i. read_errors bytes (expected i) i reads), length_tabulate n uncounted))
    where
      zero : (i : ℕ) → i < s.positions → get_or zs i 0 ≡ 0
      zero i l = ap (λ (z : List ℕ). get_or z i 0) e ∙ table_front 0 s.positions uncounted before i l
