-- What is written of one strand: alone, and its evidence in a record of two.
--     put_errors         numbers that were read, as bytes
--     none_of, gated_bytes     evidence of a strand alone
--     kept_evidence_bytes      evidence of a strand in a record of two
-- Assumes nothing.
use mathlib.Core.Path.{◌≡◌, refl, sym, ap, ◌∙◌}
use mathlib.Core.Bool.{Bool, true, false}
use mathlib.Core.List.{List, [], ◌∷◌}
use Prim.Native.Nat.{ℕ, ◌/◌, ◌≤◌, ◌<◌}
use native.Mathlib.Omega.{arith}
use lib.ListN.{length, take, get_or}
use lib.Seq.{take_all}
use Rattle.std.proofs.Common.{Option, Some, None}
use Rattle.lists.specs.Output.{put}
use Rattle.lists.specs.Part.{only_if}
use Rattle.lists.specs.Table.{tabulate}
use Rattle.lists.proofs.Output.{front_of, put_equal}
use Rattle.lists.proofs.Table.{length_tabulate, get_d_tabulate}
use Rattle.methylation.specs.Arrays.{evidence_arrays, informative}
use Rattle.methylation.specs.Methylation.{is_annotated, evidence_if}
use Rattle.methylation.specs.declared.Evidence.{Evidence}
use Rattle.methylation.specs.declared.ConversionPattern.{ConversionPattern}
use Rattle.methylation_evidence.specs.Gate.{gated_at}
use Rattle.byte_numbers.specs.Bytes.{bytes16}
use Rattle.byte_numbers.specs.Groups.{group, joined}
use Rattle.byte_numbers.proofs.Groups.{length_by_group}
use Rattle.vanilla_caller.specs.Strand.{Arrays, arrays}
use Rattle.molecule_evidence.specs.Evidence.{mark_in, marks_of, unconverted_of, converted_of, evidence_bytes, kept_in, bytes_in, marked_bytes, positions_marked}
use Rattle.molecule_evidence.proofs.Kept.{count_read, joined_equal, table_bytes}
use Rattle.duplex_molecule.specs.Molecule.{is_call_of}
use Rattle.duplex_molecule.specs.declared.CtInput.{CtInput}
use Rattle.duplex_arrays.proofs.Short.{long_enough, put_all}
use Rattle.duplex_evidence.specs.Kept.{call_of, evidence_of, mark_of, marks_short, kept_marks, kept_unconverted, kept_converted}
use Rattle.c_consensus.specs.Parts.{marks_left, kept_left}

-- Numbers that were read, written as far as there is room, which is as far as they go.
pub put_errors : (xs out : List ℕ) (n : ℕ) (E : List ℕ) → take n E ≡ xs → length xs ≤ length out / 2 → put (bytes16 (take (length out / 2) (take n E))) out ≡ put (bytes16 xs) out
put_errors xs out n E e h = ap (λ (l : List ℕ). put (bytes16 (take (length out / 2) l)) out) e ∙ ap (λ (l : List ℕ). put (bytes16 l) out) (take_all (length out / 2) xs h)

module _ (n : ℕ) (ev : List ℕ) (fits : n ≤ length ev / 9) where
  -- The bytes of n positions, each kept where a mark says so.
  by_marks : (marks : List ℕ) (of : ℕ → Evidence) → ((i : ℕ) → i < n → of i ≡ kept_in (informative (get_or marks i 0)) (group 9 ev i))
      → marked_bytes n marks ev ≡ evidence_bytes (tabulate n (λ i. (of i).mark)) (tabulate n (λ i. (of i).unconverted)) (tabulate n (λ i. (of i).converted))
  unfolding marked_bytes
  by_marks marks of same = joined_equal n _ (λ i. bytes_in (of i)) (λ i h. ap bytes_in (sym (same i h))) ∙ sym (table_bytes n of)

  counted_as : (kept : Bool) (i : ℕ) → i < n → evidence_if kept (get_or (unconverted_of ev) i 0) (get_or (converted_of ev) i 0) ≡ kept_in kept (group 9 ev i)
  counted_as kept i h =
      let within : i < length ev / 9 = omega arith in
      rw (count_read ev i within 1, count_read ev i within 5) refl

  -- Those of a strand alone.
  pub alone : marked_bytes n (marks_of ev) ev ≡ (let e = gated_at (evidence_arrays (marks_of ev) (unconverted_of ev) (converted_of ev)) in evidence_bytes (tabulate n (λ i. (e i).mark)) (tabulate n (λ i. (e i).unconverted)) (tabulate n (λ i. (e i).converted)))
  alone = by_marks (marks_of ev) (gated_at (evidence_arrays (marks_of ev) (unconverted_of ev) (converted_of ev))) (λ i h. counted_as (informative (get_or (marks_of ev) i 0)) i h)

  module _ (ct : CtInput) (a b : Arrays) (pattern : ConversionPattern) (bases quals depths errors : List ℕ) where
    abbrev own : Arrays
    own = arrays bases quals depths errors (marks_of ev) (unconverted_of ev) (converted_of ev)

    abbrev kept : ℕ → Bool
    kept i = is_call_of (Some pattern) (call_of ct a b i)

    abbrev table : List ℕ
    table = tabulate n (mark_of ct (Some pattern) a.bases b.bases)

    told : (k : Bool) → informative (evidence_if k 0 0).mark ≡ k
    told true = refl
    told false = refl

    -- Those of a strand in a record of two.
    pub of_both : marked_bytes n table ev ≡ evidence_bytes (kept_marks n ct a b (Some pattern) own) (kept_unconverted n ct a b (Some pattern) own) (kept_converted n ct a b (Some pattern) own)
    unfolding kept_marks kept_unconverted kept_converted only_if
    of_both =
        by_marks table (evidence_of ct a b (Some pattern) own)
        (λ i h.
        let mark : informative (get_or table i 0) ≡ kept i = ap informative (get_d_tabulate n (mark_of ct (Some pattern) a.bases b.bases) i 0 h) ∙ told (kept i) in
        rw mark (counted_as (kept i) i h))

-- As many positions as there are marks, where there are as many and there is room for them.
marked_all : (n : ℕ) (marks ev out : List ℕ) → length marks ≡ n → n ≤ length ev / 9 → n ≤ length out / 9 → positions_marked marks ev out ≡ n
marked_all n marks ev out size fits room = omega arith

-- A strand alone: its marks stand at the front of an array.
pub gated_left :
    (n : ℕ) (ev out marks : List ℕ)
    → take n marks ≡ marks_of ev
    → length ev / 9 ≡ n
    → n ≤ length out / 9
    → put (marked_bytes (positions_marked (take n marks) ev out) (take n marks) ev) out
    ≡ (let e = gated_at (evidence_arrays (marks_of ev) (unconverted_of ev) (converted_of ev)) in
    put (evidence_bytes (tabulate n (λ i. (e i).mark)) (tabulate n (λ i. (e i).unconverted)) (tabulate n (λ i. (e i).converted))) out)
gated_left n ev out marks e size room =
    ap (λ (m : List ℕ). put (marked_bytes (positions_marked m ev out) m ev) out) e
    ∙ ap (λ (k : ℕ). put (marked_bytes k (marks_of ev) ev) out) (marked_all n (marks_of ev) ev out (length_by_group 9 mark_in ev ∙ size) (omega arith) room)
    ∙ put_equal out (alone n ev (omega arith))

-- Without bytes nothing is written.
pub none_left : (marks out : List ℕ) → put (marked_bytes (positions_marked marks [] out) marks []) out ≡ out
unfolding marked_bytes joined put
none_left marks out =
    let none : positions_marked marks [] out ≡ 0 = omega arith in
    ap (λ (k : ℕ). put (marked_bytes k marks []) out) none

-- A strand in a record of two.
pub kept_written :
    (n : ℕ) (ct : CtInput) (a b : Arrays) (annotation : Option ConversionPattern) (bases quals depths errors ev marks out : List ℕ)
    → n ≤ length a.bases
    → n ≤ length b.bases
    → n ≤ length marks
    → (is_annotated annotation ≡ true → (n ≤ length ev / 9) × (n ≤ length out / 9))
    → (let own = arrays bases quals depths errors (marks_of ev) (unconverted_of ev) (converted_of ev) in
    kept_left annotation (take n (marks_left n ct annotation a.bases b.bases marks)) ev out
    ≡ put (evidence_bytes (kept_marks n ct a b annotation own) (kept_unconverted n ct a b annotation own) (kept_converted n ct a b annotation own)) out)
unfolding kept_marks kept_unconverted kept_converted only_if evidence_bytes joined put
kept_written n ct a b None bases quals depths errors ev marks out f g h k = refl
kept_written n ct a b (Some pattern) bases quals depths errors ev marks out f g h k =
    let (fits, room) = k refl in
    let made = tabulate n (mark_of ct (Some pattern) a.bases b.bases) in
    let size : length made ≡ n = length_tabulate n (mark_of ct (Some pattern) a.bases b.bases) in
    let enough : marks_short n a.bases b.bases marks ≡ false = long_enough n false [] (length a.bases ∷ length b.bases ∷ length marks ∷ []) (λ c. tt) (f, (g, (h, tt))) in
    let front : take n (marks_left n ct (Some pattern) a.bases b.bases marks) ≡ made = front_of made marks (put_all made marks enough refl) (sym size) in
    ap (λ (m : List ℕ). put (marked_bytes (positions_marked m ev out) m ev) out) front
    ∙ ap (λ (k : ℕ). put (marked_bytes k made ev) out) (marked_all n made ev out size fits room)
    ∙ put_equal out (of_both n ev fits ct a b pattern bases quals depths errors)
