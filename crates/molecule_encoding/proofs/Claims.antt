-- What the reader promises, in the format's words: proofs of specs/Claims.antt.
--     accepts, only, only_13     of `Accepts`, `Only` and `Only13`
--     value_fits     the value of a tag that is there is of the tag's widths, an annotation's pattern and marks 0 or 1
-- Assumes nothing.
use mathlib.Core.Path.{◌≡◌, refl, ap}
use mathlib.Core.Bool.{Bool, true, false, cond, not, ◌&&◌}
use mathlib.Core.List.{List, [], ◌∷◌}
use Prim.Native.Nat.{ℕ}
use native.Mathlib.Omega.{arith}
use borrow.Author.Tests.{le-leb, leb-true, eqb-true, not-true}
use lib.Dec.{eqb, leb}
use lib.ListN.{length}
use Rattle.lists.specs.Every.{every}
use Rattle.refusals.proofs.Condition.{both_hold}
use Rattle.fields.specs.Encoding.{Field, field, Fields, fields, fields_of, whole_fields, cut_field}
use Rattle.fields.proofs.Fields.{read_back, written}
use Rattle.molecule_fields.specs.Widths.{well_formed}
use Rattle.refusals.specs.declared.Refusal.{Refusal}
use Rattle.refusals.specs.declared.Refusal.TheVariants.{Broken}
use Rattle.molecule_encoding.specs.Format.{MoleculeParts, valid, most_bytes, accepted, molecule, decoded, value_of}
use Rattle.molecule_encoding.specs.Claims.{Accepts, Only, Only13}
use Rattle.std.proofs.Common.{Option, Some, None, Ok, Err}

pub accepts : Accepts
unfolding decoded accepted
accepts bytes fs x =
    let are : fields_of bytes ≡ fields fs false = rw x.encodes.bytes_are (read_back fs x.encodes.short) in
    let whole : whole_fields bytes ≡ fs = ap (λ (y : Fields). y.whole_ones) are in
    let uncut : cut_field bytes ≡ false = ap (λ (y : Fields). y.cut_one) are in
    rw (whole, uncut, le-leb _ _ x.small, x.is_valid)

pub accepted_molecule : (b : Bool) (m n : MoleculeParts) → cond b (Ok m) (Err Broken) ≡ Ok n → (b ≡ true) × (n ≡ m)
accepted_molecule true m n e = (refl, cc)
accepted_molecule false m n e =
    let no : ◌≡◌ {A = ℕ} 0 1 = cc in
    absurd (omega arith)

pub only : Only
unfolding decoded accepted
only bytes m small e =
    let (a, is) = accepted_molecule (accepted bytes) (molecule bytes (whole_fields bytes)) m e in
    let (size, others) = both_hold (leb (length bytes) most_bytes) (not (cut_field bytes) && valid (whole_fields bytes)) a in
    let (uncut, is_valid) = both_hold (not (cut_field bytes)) (valid (whole_fields bytes)) others in
    (record { encodes = written bytes small (not-true (cut_field bytes) uncut); small = leb-true _ _ size; is_valid = is_valid }, is)

refused_number : (b : Bool) (m : MoleculeParts) (n : Refusal) → cond b (Ok m) (Err Broken) ≡ Err n → n ≡ Broken
refused_number true m n e =
    let no : ◌≡◌ {A = ℕ} 0 1 = cc in
    absurd (omega arith)
refused_number false m n e = cc

pub only_13 : Only13
unfolding decoded
only_13 bytes n e = refused_number (accepted bytes) (molecule bytes (whole_fields bytes)) n e

pub value_fits : (tag : ℕ) (fs : List Field) {value : List ℕ} → every well_formed fs ≡ true → value_of tag fs ≡ Some value → well_formed (field tag value) ≡ true
unfolding every value_of
value_fits tag [] fit there = absurd (nothing there)
  where
    nothing : {value : List ℕ} → ◌≡◌ {A = Option (List ℕ)} None (Some value) → ⊥
    nothing e = cc
value_fits tag (f ∷ fs) {value} fit there =
    let (here, later) = both_hold (well_formed f) (every well_formed fs) fit in
    go (eqb f.tag tag) refl here there (value_fits tag fs later)
  where
    go :
        (same : Bool)
        → eqb f.tag tag ≡ same
        → well_formed f ≡ true
        → cond same (Some f.value) (value_of tag fs) ≡ Some value
        → (value_of tag fs ≡ Some value → well_formed (field tag value) ≡ true)
        → well_formed (field tag value) ≡ true
    go true same here there later =
        let is : f.value ≡ value = cc in
        rw (← eqb-true f.tag tag same, ← is) here
    go false same here there later = later there
