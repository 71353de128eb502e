-- The rows of a strand that a molecule holds, by how many positions its arrays have.
--     strand_in_lem  the strand of some fields, as the calls take it
--     Sized         its byte counts fit the widths, and rows 7 and 8 are met where its positions say so
--     sized_a, sized_b     that this is so of both strands of a molecule
-- Assumes nothing.
use mathlib.Core.Path.{◌≡◌, refl, sym, ◌∙◌}
use mathlib.Core.Bool.{Bool, true, false, cond, not, ◌&&◌, ◌||◌, true≢false, or-false}
use mathlib.Core.List.{List, [], ◌∷◌}
use Prim.Native.Nat.{ℕ, ◌+◌, ◌-◌, ◌/◌, ◌%◌, ◌≤◌}
use native.Mathlib.Omega.{arith}
use borrow.Author.Tests.{eqb-true}
use lib.Dec.{eqb, ltb}
use lib.ListN.{length, drop, get_or, length-drop}
use Rattle.std.proofs.Common.{Option, Some, None, unwrap_or}
use Rattle.std.specs.Prelude.{is_some}
use Rattle.lists.specs.Every.{every}
use Rattle.lists.specs.Part.{only_if}
use Rattle.refusals.specs.Refusal.{too_long, ragged}
use Rattle.refusals.proofs.Condition.{both_hold, neither, not_too_long, not_ragged}
use Rattle.byte_numbers.specs.Bytes.{words16}
use Rattle.byte_numbers.proofs.Bytes.{length_numbers}
use Rattle.byte_numbers.proofs.Groups.{length_by_group}
use Rattle.fields.specs.Encoding.{Field, field}
use Rattle.molecule_fields.specs.Widths.{known_tag, length_fits, bits_fit, well_formed}
use Rattle.molecule_encoding.specs.Format.{has, whole_strand, annotated_strand, valid, value_of}
use Rattle.molecule_encoding.proofs.Claims.{value_fits}
use Rattle.molecule_encoding.proofs.Parts.{all_fit, a_whole, b_whole}
use Rattle.molecule_encoding.proofs.Values.{value_there}
use Rattle.molecule_evidence.specs.Evidence.{mark_in, count_in}
use Rattle.molecule_strand.specs.Strand.{StrandBytes, strand_bytes, encoded_annotation, strand_of}
use Rattle.duplex_kind.specs.Kind.{given, long, uneven}
use Rattle.molecule_consensus.specs.Bytes.{seen, misfit}
use Rattle.line_molecule.specs.Line.{value_or}
use Rattle.line_claims.specs.Claims.{places}

-- What is known of a strand as bytes, beside how many positions each of its arrays has.
pub record Sized (s : StrandBytes) (lengths : List ℕ) : Type 0 where
  pub fits : misfit (seen s) ≡ false
  pub long_is : long (given (strand_of (seen s))) ≡ too_long lengths
  pub uneven_is : uneven (given (strand_of (seen s))) ≡ ragged lengths
  pub few : too_long lengths ≡ false → length s.bases ≤ 1024
  pub paired : ragged lengths ≡ false → length (words16 s.depths) ≡ length (words16 s.errors)

-- Values whose lengths fit a strand's widths: all there, or all empty.
pub record Fitting (present annotated : Bool) (b q d e v : List ℕ) : Type 0 where
  pub depths : length d % 2 ≡ 0
  pub errors : length e % 2 ≡ 0
  pub evidence : annotated ≡ true → length v % 9 ≡ 1
  pub carried : annotated ≡ true → present ≡ true
  pub empty : present ≡ false → (length b ≡ 0) × (length q ≡ 0) × (length d ≡ 0) × (length e ≡ 0)

five : (a b c d e : Bool) → ((a || (b || (c || d))) || (e || (e || e))) ≡ (a || (b || (c || (d || e))))
five true b c d e = refl
five false true c d e = refl
five false false true d e = refl
five false false false true e = refl
five false false false false true = refl
five false false false false false = refl

module _ (p : ℕ) (b q d e v : List ℕ) where
  abbrev given_bytes : Bool → Bool → StrandBytes
  given_bytes present annotated = strand_bytes present (encoded_annotation annotated p) b q d e (drop 1 v)

  abbrev lengths_of_lem : Bool → List ℕ
  lengths_of_lem annotated = length b ∷ length q ∷ length d / 2 ∷ length e / 2 ∷ cond annotated ((length v - 1) / 9 ∷ []) []

  fits_of : (present annotated : Bool) → Fitting present annotated b q d e v → misfit (seen (given_bytes present annotated)) ≡ false
  unfolding only_if
  fits_of true true w =
      let even : length (drop 1 v) % 9 ≡ 0 = simp length-drop (omega (arith, w.evidence refl)) in
      rw (w.depths, w.errors, even)
  fits_of true false w = rw (w.depths, w.errors)
  fits_of false annotated w = refl

  long_of : (present annotated : Bool) → Fitting present annotated b q d e v → long (given (strand_of (seen (given_bytes present annotated)))) ≡ too_long (lengths_of_lem annotated)
  unfolding only_if strand_of
  long_of true true w =
      rw
      (length_numbers 2 d, length_numbers 2 e, length_by_group 9 mark_in (drop 1 v), length_by_group 9 (count_in 1) (drop 1 v), length_by_group 9 (count_in 5) (drop 1 v), length-drop 1 v)
      (five (ltb 1024 (length b)) (ltb 1024 (length q)) (ltb 1024 (length d / 2)) (ltb 1024 (length e / 2)) (ltb 1024 ((length v - 1) / 9)))
  long_of true false w = rw (length_numbers 2 d, length_numbers 2 e) (or-false (too_long (lengths_of_lem false)))
  long_of false true w = absurd (true≢false (sym (w.carried refl)))
  long_of false false w =
      let (nb, nq, nd, ne) = w.empty refl in
      rw (nb, nq, nd, ne)

  uneven_of : (present annotated : Bool) → Fitting present annotated b q d e v → uneven (given (strand_of (seen (given_bytes present annotated)))) ≡ ragged (lengths_of_lem annotated)
  unfolding only_if strand_of
  uneven_of true true w =
      rw
      (length_numbers 2 d, length_numbers 2 e, length_by_group 9 mark_in (drop 1 v), length_by_group 9 (count_in 1) (drop 1 v), length_by_group 9 (count_in 5) (drop 1 v), length-drop 1 v)
      (five false (not (eqb (length q) (length b))) (not (eqb (length d / 2) (length b))) (not (eqb (length e / 2) (length b))) (not (eqb ((length v - 1) / 9) (length b))))
  uneven_of true false w = rw (length_numbers 2 d, length_numbers 2 e) (or-false (ragged (lengths_of_lem false)))
  uneven_of false true w = absurd (true≢false (sym (w.carried refl)))
  uneven_of false false w =
      let (nb, nq, nd, ne) = w.empty refl in
      rw (nb, nq, nd, ne)

  few_of : (annotated : Bool) → too_long (lengths_of_lem annotated) ≡ false → length b ≤ 1024
  few_of annotated h = (not_too_long (lengths_of_lem annotated) h).0

  paired_of : (annotated : Bool) → ragged (lengths_of_lem annotated) ≡ false → length (words16 d) ≡ length (words16 e)
  paired_of annotated h =
      let same = not_ragged (length b) (length q ∷ length d / 2 ∷ length e / 2 ∷ cond annotated ((length v - 1) / 9 ∷ []) []) h in
      length_numbers 2 d ∙ same.1.0 ∙ sym same.1.1.0 ∙ sym (length_numbers 2 e)

  sized_of : (present annotated : Bool) → Fitting present annotated b q d e v → Sized (given_bytes present annotated) (lengths_of_lem annotated)
  sized_of present annotated w = record {
    fits = fits_of present annotated w;
    long_is = long_of present annotated w;
    uneven_is = uneven_of present annotated w;
    few = few_of annotated;
    paired = paired_of annotated;
  }

-- The value of a tag: none where no field has it.
abbrev pub value : ℕ → List Field → List ℕ
value tag fs = value_or (value_of tag fs)

-- The strand of some fields, whose first tag is given.
abbrev pub strand_in_lem : ℕ → List Field → StrandBytes
strand_in_lem first fs = strand_bytes (has first fs) (encoded_annotation (has (first + 4) fs) (get_or (value (first + 4) fs) 0 0)) (value first fs) (value (first + 1) fs) (value (first + 2) fs) (value (first + 3) fs) (drop 1 (value (first + 4) fs))

-- Both ways to say that a value may be absent.
pub same_value : (v : Option (List ℕ)) → value_or v ≡ unwrap_or v []
same_value None = refl
same_value (Some v) = refl

-- A tag that no field has is of no value.
unvalued : (tag : ℕ) (fs : List Field) → has tag fs ≡ false → length (value tag fs) ≡ 0
unfolding has value_of
unvalued tag [] e = refl
unvalued tag (f ∷ fs) e =
    let (here, later) = neither (eqb f.tag tag) (has tag fs) e in
    rw here (unvalued tag fs later)

-- The value of a tag that is there has a length that fits.
fitting_length : (tag : ℕ) (fs : List Field) → every well_formed fs ≡ true → has tag fs ≡ true → length_fits tag (length (value tag fs)) ≡ true
unfolding well_formed
fitting_length tag fs fit there = go (value_of tag fs) refl (value_there tag fs ∙ there)
  where
    go : (v : Option (List ℕ)) → value_of tag fs ≡ v → is_some v ≡ true → length_fits tag (length (value_or v)) ≡ true
    go None e s = absurd (true≢false (sym s))
    go (Some v) e s =
        let (known, others) = both_hold (known_tag tag) (length_fits tag (length v) && bits_fit (field tag v)) (value_fits tag fs fit e) in
        (both_hold (length_fits tag (length v)) (bits_fit (field tag v)) others).0

missing : (b c d : Bool) → not (b || (c || d)) ≡ true → (b ≡ false) × (c ≡ false) × (d ≡ false)
missing true c d e = absurd (true≢false (sym e))
missing false true d e = absurd (true≢false (sym e))
missing false false true e = absurd (true≢false (sym e))
missing false false false e = (refl, refl, refl)

then_holds : (x y : Bool) → (not x || y) ≡ true → x ≡ true → y ≡ true
then_holds true y e h = e
then_holds false y e h = absurd (true≢false (sym h))

module _ (first : ℕ) (fs : List Field) (fit : every well_formed fs ≡ true) (whole : (whole_strand first fs && annotated_strand first fs) ≡ true) where
  abbrev Even : ℕ → Type 0
  Even tag = (n : ℕ) → length_fits tag n ≡ true → n % 2 ≡ 0

  even_length : (tag : ℕ) → Even tag → length (value tag fs) % 2 ≡ 0
  even_length tag even = go (has tag fs) refl
    where
      go : (there : Bool) → has tag fs ≡ there → length (value tag fs) % 2 ≡ 0
      go true h = even (length (value tag fs)) (fitting_length tag fs fit h)
      go false h = omega (arith, unvalued tag fs h)

  all_empty : has first fs ≡ false → (length (value first fs) ≡ 0) × (length (value (first + 1) fs) ≡ 0) × (length (value (first + 2) fs) ≡ 0) × (length (value (first + 3) fs) ≡ 0)
  unfolding whole_strand
  all_empty h =
      let (all, with) = both_hold (whole_strand first fs) (annotated_strand first fs) whole in
      let (nb, nc, nd) = missing (has (first + 1) fs) (has (first + 2) fs) (has (first + 3) fs) (rw h at all) in
      (unvalued first fs h, unvalued (first + 1) fs nb, unvalued (first + 2) fs nc, unvalued (first + 3) fs nd)

  with_strand : has (first + 4) fs ≡ true → has first fs ≡ true
  unfolding annotated_strand
  with_strand h = then_holds (has (first + 4) fs) (has first fs) (both_hold (whole_strand first fs) (annotated_strand first fs) whole).1 h

  sized_strand : Even (first + 2) → Even (first + 3) → ((n : ℕ) → length_fits (first + 4) n ≡ true → n % 9 ≡ 1) → Sized (strand_in_lem first fs) (places first fs)
  unfolding places
  sized_strand depths errors evidence =
      rw (← same_value (value_of first fs), ← same_value (value_of (first + 1) fs), ← same_value (value_of (first + 2) fs), ← same_value (value_of (first + 3) fs), ← same_value (value_of (first + 4) fs))
      (sized_of (get_or (value (first + 4) fs) 0 0) (value first fs) (value (first + 1) fs) (value (first + 2) fs) (value (first + 3) fs) (value (first + 4) fs) (has first fs) (has (first + 4) fs)
      (record {
        depths = even_length (first + 2) depths;
        errors = even_length (first + 3) errors;
        evidence = λ h. evidence (length (value (first + 4) fs)) (fitting_length (first + 4) fs fit h);
        carried = with_strand;
        empty = all_empty;
      }))

-- The widths by tag.
module _ (n : ℕ) where
  even_a_depths : length_fits 0x12 n ≡ true → n % 2 ≡ 0
  unfolding length_fits
  even_a_depths e = eqb-true (n % 2) 0 (both_hold (eqb (n % 2) 0) true e).0

  even_a_errors : length_fits 0x13 n ≡ true → n % 2 ≡ 0
  unfolding length_fits
  even_a_errors e = eqb-true (n % 2) 0 (both_hold (eqb (n % 2) 0) true e).0

  nine_a : length_fits 0x14 n ≡ true → n % 9 ≡ 1
  unfolding length_fits
  nine_a e = eqb-true (n % 9) 1 (both_hold (eqb (n % 9) 1) true e).0

  even_b_depths : length_fits 0x22 n ≡ true → n % 2 ≡ 0
  unfolding length_fits
  even_b_depths e = eqb-true (n % 2) 0 (both_hold (eqb (n % 2) 0) true e).0

  even_b_errors : length_fits 0x23 n ≡ true → n % 2 ≡ 0
  unfolding length_fits
  even_b_errors e = eqb-true (n % 2) 0 (both_hold (eqb (n % 2) 0) true e).0

  nine_b : length_fits 0x24 n ≡ true → n % 9 ≡ 1
  unfolding length_fits
  nine_b e = eqb-true (n % 9) 1 (both_hold (eqb (n % 9) 1) true e).0

module _ (fs : List Field) (v : valid fs ≡ true) where
  pub sized_a : Sized (strand_in_lem 0x10 fs) (places 0x10 fs)
  sized_a = sized_strand 0x10 fs (all_fit fs v) (a_whole fs v) even_a_depths even_a_errors nine_a

  pub sized_b : Sized (strand_in_lem 0x20 fs) (places 0x20 fs)
  sized_b = sized_strand 0x20 fs (all_fit fs v) (b_whole fs v) even_b_depths even_b_errors nine_b
