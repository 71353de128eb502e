-- Laws of evidence as bytes.
--     length_position                      how many bytes there are
--     mark_at, count_at                    a position's mark and counts in the bytes of all
--     position_stored                      a mark and two counts, stored one after another, are a position's bytes
--     marks_back, unconverted_back, converted_back     what was written is read back; counts of one length with the marks
-- Assumes nothing.
use mathlib.Core.Path.{◌≡◌, refl, sym, ap, ◌∙◌}
use mathlib.Core.List.{List, [], ◌∷◌, ◌++◌, append_assoc}
use Prim.Native.Nat.{ℕ, suc, ◌+◌, ◌*◌, ◌/◌, ◌^◌, ◌≤◌, ◌<◌}
use native.Mathlib.Omega.{arith}
use native.Mathlib.Nat.{add-zero}
use borrow.Rule.Slice.PartMut.{put_mid}
use lib.ListN.{length, take, drop, set, get_or, length-append, length-set}
use lib.Seq.{sets, sets-eq, length-sets, drop-drop, get_or-take, get_or-drop, take_all, drop_at, take_at}
use Rattle.std.specs.Int.{w32, to_le_bytes}
use Rattle.byte_numbers.specs.Bytes.{number_of, bytes_of}
use Rattle.byte_numbers.specs.Groups.{group, by_group}
use Rattle.byte_numbers.specs.Lengths.{length_bytes}
use Rattle.byte_numbers.proofs.Bytes.{number_of_bytes, le_bytes32}
use Rattle.byte_numbers.proofs.Groups.{part_of_group, by_group_joined}
use Rattle.molecule_evidence.specs.Evidence.{position_bytes, evidence_bytes, mark_in, count_in, marks_of, unconverted_of, converted_of}

pub length_position : (mark unconverted converted : ℕ) → length (position_bytes mark unconverted converted) ≡ 9
unfolding position_bytes
length_position mark unconverted converted = ap suc (length-append (bytes_of 4 unconverted) (bytes_of 4 converted) ∙ rw (length_bytes 4 unconverted, length_bytes 4 converted))

module _ (bytes : List ℕ) (i : ℕ) (h : i < length bytes / 9) where
  pub mark_at : get_or bytes (9 * i) 0 ≡ mark_in (group 9 bytes i)
  unfolding group
  mark_at = rw (get_or-take 9 (drop (9 * i) bytes) 0 0 (omega arith), get_or-drop, add-zero)

  pub count_at : (offset : ℕ) → offset + 4 ≤ 9 → number_of (take 4 (drop (9 * i + offset) bytes)) ≡ count_in offset (group 9 bytes i)
  unfolding count_in
  count_at offset fits = ap number_of (sym (part_of_group 9 offset 4 bytes i h fits))

-- As many elements as a part has are its places; and what is stored right behind is stored with them.
part : (l vs : List ℕ) (at k : ℕ) → length vs ≡ k → at + k ≤ length l → put_mid at k l vs ≡ sets l at vs
part l vs at k e h = rw (sets-eq vs l at (omega arith), drop-drop, e) (simp append_assoc)

behind : (xs ys l : List ℕ) (at : ℕ) → sets (sets l at xs) (at + length xs) ys ≡ sets l at (xs ++ ys)
behind [] ys l at = rw add-zero
behind (x ∷ xs) ys l at = ap (λ (k : ℕ). sets (sets (set l at x) (suc at) xs) k ys) (omega arith) ∙ behind xs ys (set l at x) (suc at)

pub position_stored :
    (out : List ℕ) (at mark unconverted converted : ℕ) {U C : List ℕ} {k m : ℕ}
    → at + 9 ≤ length out
    → k ≡ 4
    → m ≡ 4
    → U ≡ to_le_bytes w32 unconverted
    → C ≡ to_le_bytes w32 converted
    → put_mid (at + 5) m (put_mid (at + 1) k (set out at mark) U) C ≡ sets out at (position_bytes mark unconverted converted)
unfolding position_bytes
position_stored out at mark unconverted converted {U} {C} {k} {m} h k4 m4 u c =
    let base = set out at mark in
    let us = bytes_of 4 unconverted in
    let cs = bytes_of 4 converted in
    let u_is : U ≡ us = u ∙ le_bytes32 unconverted in
    let c_is : C ≡ cs = c ∙ le_bytes32 converted in
    let first : length U ≡ 4 = ap length u_is ∙ length_bytes 4 unconverted in
    let second : length C ≡ 4 = ap length c_is ∙ length_bytes 4 converted in
    let next : at + 5 ≡ suc at + length U = omega arith in
    ap (λ (l : List ℕ). put_mid (at + 5) m l C) (part base U (at + 1) k (omega arith) (omega (arith, length-set out at mark)))
    ∙ part (sets base (at + 1) U) C (at + 5) m (omega arith) (omega (arith, length-sets base (at + 1) U, length-set out at mark))
    ∙ ap (λ (j : ℕ). sets (sets base (at + 1) U) j C) next
    ∙ ap (λ (j : ℕ). sets (sets base j U) (suc at + length U) C) (omega arith)
    ∙ behind U C base (suc at)
    ∙ ap (λ (l : List ℕ). sets base (suc at) (l ++ C)) u_is
    ∙ ap (λ (l : List ℕ). sets base (suc at) (us ++ l)) c_is

-- The counts of a position's bytes, found again.
module _ (mark unconverted converted : ℕ) where
  unconverted_in : unconverted < 256 ^ 4 → count_in 1 (position_bytes mark unconverted converted) ≡ unconverted
  unfolding position_bytes count_in
  unconverted_in h = rw (take_at (bytes_of 4 unconverted) (bytes_of 4 converted) 4 (length_bytes 4 unconverted)) (number_of_bytes 4 unconverted h)

  converted_in : converted < 256 ^ 4 → count_in 5 (position_bytes mark unconverted converted) ≡ converted
  unfolding position_bytes count_in
  converted_in h =
      rw (drop_at (bytes_of 4 unconverted) (bytes_of 4 converted) 4 (length_bytes 4 unconverted), take_all 4 (bytes_of 4 converted) (omega (arith, length_bytes 4 converted)))
      (number_of_bytes 4 converted h)

module _ (marks unconverted converted : List ℕ) where
  -- What g finds in each position's bytes.
  found :
      (g : List ℕ → ℕ) (xs : List ℕ)
      → length xs ≡ length marks
      → ((i : ℕ) → g (position_bytes (get_or marks i 0) (get_or unconverted i 0) (get_or converted i 0)) ≡ get_or xs i 0)
      → by_group 9 g (evidence_bytes marks unconverted converted) ≡ xs
  unfolding evidence_bytes
  found g xs whole each =
      by_group_joined 9 _ (λ i. length_position (get_or marks i 0) (get_or unconverted i 0) (get_or converted i 0)) g (length marks) 0 xs (omega arith) whole (λ i h. each i)

  pub marks_back : marks_of (evidence_bytes marks unconverted converted) ≡ marks
  unfolding position_bytes
  marks_back = found mark_in marks refl (λ i. refl)

  pub unconverted_back : length unconverted ≡ length marks → ((i : ℕ) → get_or unconverted i 0 < 256 ^ 4) → unconverted_of (evidence_bytes marks unconverted converted) ≡ unconverted
  unconverted_back whole small = found (count_in 1) unconverted whole (λ i. unconverted_in (get_or marks i 0) (get_or unconverted i 0) (get_or converted i 0) (small i))

  pub converted_back : length converted ≡ length marks → ((i : ℕ) → get_or converted i 0 < 256 ^ 4) → converted_of (evidence_bytes marks unconverted converted) ≡ converted
  converted_back whole small = found (count_in 5) converted whole (λ i. converted_in (get_or marks i 0) (get_or unconverted i 0) (get_or converted i 0) (small i))
