-- Where the parts of a molecule are: the proofs of specs/Places.antt.
--     accepts, only, only_13, holds, small     of `AcceptsAt`, `OnlyAt`, `Only13At`, `HoldsAt` and `SmallAt`
--     value_room, span_is, after_is     what a field that was found says of its place
--     accepted_ascending, placed_refused, placed_accepted     what the reader's answer says of the places
-- Assumes nothing.
use mathlib.Core.Path.{◌≡◌, refl, sym, ap, ◌∙◌}
use mathlib.Core.Bool.{Bool, true, false, cond, not, ◌&&◌}
use mathlib.Core.List.{List, [], ◌∷◌}
use Prim.Native.Nat.{ℕ, ◌+◌, ◌-◌, ◌≤◌}
use native.Mathlib.Omega.{arith}
use borrow.Author.Tests.{le-leb, le-ltb, leb-true, not-true}
use lib.Dec.{leb}
use lib.ListN.{length, drop, length-drop}
use lib.Seq.{take_all}
use Rattle.std.proofs.Common.{Option, Some, None, Result, Ok, Err}
use Rattle.lists.specs.Every.{every}
use Rattle.lists.specs.Table.{tabulate}
use Rattle.lists.specs.Part.{leaves, part}
use Rattle.refusals.specs.declared.Refusal.{Refusal}
use Rattle.refusals.specs.declared.Refusal.TheVariants.{Broken}
use Rattle.refusals.proofs.Condition.{both_hold}
use Rattle.fields.specs.Encoding.{Field, FieldAt, Fields, fields, front, fields_within, fields_of, whole_fields, cut_field, field_at}
use Rattle.fields.proofs.Fields.{read_back, written}
use Rattle.molecule_fields.specs.Widths.{known_tag, length_fits, marks, bits_fit, well_formed}
use Rattle.molecule_encoding.specs.Format.{StrandParts, MoleculeParts, follows, ascend_after, ascending, has, whole_strand, annotated_strand, announced, valid, most_bytes, accepted, value_of, place_from, place_of, found_at, strand_by, strand_of, bytes_after, reads_after, molecule, decoded}
use Rattle.molecule_encoding.specs.Claims.{EncodesMolecule}
use Rattle.molecule_encoding.specs.Places.{span, span_at, span_of, strand_at, strand_places, after_at, places, placed, AcceptsAt, OnlyAt, Only13At, taken, strand_taken, molecule_taken, HoldsAt, SmallAt}
use Rattle.molecule_encoding.specs.declared.Span.{Span}
use Rattle.molecule_encoding.specs.declared.StrandPlaces.{StrandPlaces}
use Rattle.molecule_encoding.specs.declared.MoleculePlaces.{MoleculePlaces}
use Rattle.molecule_encoding.proofs.Values.{Within, placed_within, value_of_found, value_placed}
use Rattle.molecule_encoding.proofs.Parts.{in_order}

pub accepts : AcceptsAt
unfolding placed accepted
accepts bytes fs x =
    let are : fields_of bytes ≡ fields fs false = rw x.encodes.bytes_are (read_back fs x.encodes.short) in
    let whole : whole_fields bytes ≡ fs = ap (λ (y : Fields). y.whole_ones) are in
    let uncut : cut_field bytes ≡ false = ap (λ (y : Fields). y.cut_one) are in
    rw (whole, uncut, le-leb _ _ x.small, x.is_valid)

-- An answer that is given on a condition.
module _ {A : Type 0} where
  chosen : (b : Bool) {m n : A} → cond b (Ok m) (Err Broken) ≡ Ok n → (b ≡ true) × (n ≡ m)
  chosen true e = (refl, cc)
  chosen false {m} {n} e = absurd (no e)
    where
      no : ◌≡◌ {A = Result A Refusal} (Err Broken) (Ok n) → ⊥
      no q = cc

  turned : (b : Bool) (m : A) {n : Refusal} → cond b (Ok m) (Err Broken) ≡ Err n → (b ≡ false) × (n ≡ Broken)
  turned true m {n} e = absurd (no e)
    where
      no : ◌≡◌ {A = Result A Refusal} (Ok m) (Err n) → ⊥
      no q = cc
  turned false m e = (refl, cc)

pub only : OnlyAt
unfolding placed accepted
only bytes m small e =
    let (a, is) = chosen (accepted bytes) e in
    let (size, others) = both_hold (leb (length bytes) most_bytes) (not (cut_field bytes) && valid (whole_fields bytes)) a in
    let (uncut, is_valid) = both_hold (not (cut_field bytes)) (valid (whole_fields bytes)) others in
    (record { encodes = written bytes small (not-true (cut_field bytes) uncut); small = leb-true _ _ size; is_valid = is_valid }, is)

pub only_13 : Only13At
unfolding placed
only_13 bytes n e = (turned (accepted bytes) (places (length bytes) (whole_fields bytes)) e).1

-- What the reader's answer says of the places.
module _ (bytes : List ℕ) where
  pub accepted_ascending : {m : MoleculeParts} → Ok m ≡ decoded bytes → ascending (whole_fields bytes) ≡ true
  unfolding decoded accepted
  accepted_ascending e =
      let a = (chosen (accepted bytes) (sym e)).0 in
      let others = (both_hold (leb (length bytes) most_bytes) (not (cut_field bytes) && valid (whole_fields bytes)) a).1 in
      in_order (whole_fields bytes) (both_hold (not (cut_field bytes)) (valid (whole_fields bytes)) others).1

  pub placed_accepted : {m : MoleculeParts} → Ok m ≡ decoded bytes → placed bytes ≡ Ok (places (length bytes) (whole_fields bytes))
  unfolding decoded placed
  placed_accepted e = rw (chosen (accepted bytes) (sym e)).0

  pub placed_refused : {n : Refusal} → Err n ≡ decoded bytes → placed bytes ≡ Err n
  unfolding decoded placed
  placed_refused e =
      let (unfit, is) = turned (accepted bytes) (molecule bytes (whole_fields bytes)) (sym e) in
      rw (unfit, is)

-- What a field that was found, and the bytes after it, say of its place.
record Found (bytes : List ℕ) (p : Option FieldAt) (value rest : List ℕ) : Type 0 where
  pub at : FieldAt
  pub is : p ≡ Some at
  pub value_size : length value ≡ at.length
  pub rest_size : length rest + (at.offset + at.length) ≡ length bytes

-- The sizes of what is found.
abbrev value_size_of : Option (Field × List ℕ) → ℕ
value_size_of None = 0
value_size_of (Some x) = length x.0.value

abbrev rest_size_of : Option (Field × List ℕ) → ℕ
rest_size_of None = 0
rest_size_of (Some x) = length x.1

found_there : (bytes : List ℕ) (p : Option FieldAt) → Within bytes p → {g : Field} {rest : List ℕ} → Some (g, rest) ≡ found_at bytes p → Found bytes p g.value rest
found_there bytes None w {g} {rest} e = absurd (no e)
  where
    no : ◌≡◌ {A = Option (Field × List ℕ)} (Some (g, rest)) None → ⊥
    no q = cc
found_there bytes (Some f) w e = record {
  at = f;
  is = refl;
  value_size = ap value_size_of e ∙ w.1;
  rest_size = omega (arith, ap rest_size_of e, length-drop (f.offset + f.length) bytes, w.0);
}

module _ (bytes : List ℕ) (tag : ℕ) {g : Field} {rest : List ℕ} (e : Some (g, rest) ≡ found_at bytes (place_of tag (whole_fields bytes))) where
  x : Found bytes (place_of tag (whole_fields bytes)) g.value rest
  x = found_there bytes (place_of tag (whole_fields bytes)) (placed_within bytes tag) e

  pub value_room : length g.value ≤ length bytes - length rest
  value_room = omega (arith, x.value_size, x.rest_size)

  pub span_is : Some (span (length bytes - length rest - length g.value) (length g.value)) ≡ span_of tag (whole_fields bytes)
  span_is =
      let offset : length bytes - length rest - length g.value ≡ x.at.offset = omega (arith, x.value_size, x.rest_size) in
      rw (x.is, offset, x.value_size)

  pub after_is : Some (span (length bytes - length rest) (length rest)) ≡ after_at (length bytes) (place_of tag (whole_fields bytes))
  after_is =
      let offset : length bytes - length rest ≡ x.at.offset + x.at.length = omega (arith, x.rest_size) in
      let left : length rest ≡ length bytes - (x.at.offset + x.at.length) = omega (arith, x.rest_size) in
      rw (x.is, offset, left)

-- What stands at the places.
taken_at : (bytes : List ℕ) (p : Option FieldAt) → taken bytes (span_at p) ≡ value_of_found (found_at bytes p)
taken_at bytes None = refl
taken_at bytes (Some f) = refl

taken_of : (bytes : List ℕ) (tag : ℕ) → taken bytes (span_of tag (whole_fields bytes)) ≡ value_of tag (whole_fields bytes)
taken_of bytes tag = taken_at bytes (place_of tag (whole_fields bytes)) ∙ value_placed bytes tag

all_after : (bytes : List ℕ) (offset : ℕ) → offset ≤ length bytes → part offset (length bytes - offset) bytes ≡ drop offset bytes
unfolding part leaves
all_after bytes offset h =
    let within : offset + (length bytes - offset) ≤ length bytes = omega arith in
    rw (le-ltb _ _ within) (take_all (length bytes - offset) (drop offset bytes) (omega (arith, length-drop offset bytes)))

taken_after : (bytes : List ℕ) (p : Option FieldAt) → Within bytes p → taken bytes (after_at (length bytes) p) ≡ bytes_after bytes p
taken_after bytes None w = refl
taken_after bytes (Some f) w = ap (λ (xs : List ℕ). Some xs) (all_after bytes (f.offset + f.length) w.0)

strand_is : (bytes : List ℕ) (b q d e a : Option Span) → strand_taken bytes (strand_at b q d e a) ≡ strand_by (taken bytes b) (taken bytes q) (taken bytes d) (taken bytes e) (taken bytes a)
strand_is bytes (Some b) (Some q) (Some d) (Some e) a = refl
strand_is bytes (Some b) (Some q) (Some d) None a = refl
strand_is bytes (Some b) (Some q) None e a = refl
strand_is bytes (Some b) None d e a = refl
strand_is bytes None q d e a = refl

strand_placed : (bytes : List ℕ) (first : ℕ) → strand_taken bytes (strand_places first (whole_fields bytes)) ≡ strand_of first (whole_fields bytes)
unfolding strand_of
strand_placed bytes first =
    let fs = whole_fields bytes in
    strand_is bytes (span_of first fs) (span_of (first + 1) fs) (span_of (first + 2) fs) (span_of (first + 3) fs) (span_of (first + 4) fs)
    ∙ rw (taken_of bytes first, taken_of bytes (first + 1), taken_of bytes (first + 2), taken_of bytes (first + 3), taken_of bytes (first + 4))

pub holds : HoldsAt
unfolding placed decoded molecule
holds bytes = go (accepted bytes)
  where
    go :
        (b : Bool)
        → molecule_taken bytes (cond b (Ok (places (length bytes) (whole_fields bytes))) (Err Broken)) ≡ cond b (Ok (molecule bytes (whole_fields bytes))) (Err Broken)
    go true =
        rw
        (taken_of bytes 0x01, strand_placed bytes 0x10, strand_placed bytes 0x20, taken_after bytes (place_of 0x2f (whole_fields bytes)) (placed_within bytes 0x2f))
    go false = refl

pub small : SmallAt
unfolding front fields_within fields_of every known_tag length_fits tabulate marks bits_fit well_formed follows ascend_after has whole_strand annotated_strand announced valid accepted place_from placed
small = record {
  no_bytes = refl;
  no_thresholds = refl;
  one_threshold = refl;
  a_of_none = refl;
  b_of_none = refl;
  both_of_none = refl;
  annotation_of_none = refl;
  marked = refl;
  empty_list = refl;
  two_reads = refl;
}
