-- Laws of the order of tags, and of fields that are in order and well-formed.
--     not_below, still_ascending     what follows a tag is not below it; fields after a tag ascend
--     fit_end, fit_cut, fit_next, fit_not     `fields_fit` by what the bytes begin with
--     told_fit, told_not     a test that refuses where it is not met
-- Assumes nothing.
use mathlib.Core.Path.{◌≡◌, refl, sym, ap, ◌∙◌}
use mathlib.Core.Bool.{Bool, true, false, not, ◌&&◌, ◌||◌, true≢false}
use mathlib.Core.List.{List, [], ◌∷◌}
use Prim.Native.Nat.{ℕ, ◌≤◌, ◌<◌}
use native.Mathlib.Omega.{arith}
use borrow.Author.Tests.{ltb-true, eqb-true, lt-ltb}
use lib.Dec.{ltb, eqb}
use Rattle.lists.specs.Every.{every}
use Rattle.std.proofs.Common.{Ok, Err}
use Rattle.refusals.proofs.Condition.{both_hold}
use Rattle.refusals.specs.declared.Refusal.{Refusal}
use Rattle.refusals.specs.Outcome.{refused_if}
use Rattle.fields.specs.Encoding.{Field, nothing, cut, whole, front, Fields, whole_fields, cut_field}
use Rattle.fields.proofs.Fields.{fields_none, fields_cut, fields_whole}
use Rattle.molecule_fields.specs.Widths.{well_formed}
use Rattle.molecule_encoding.specs.Format.{follows, ascend_after, ascending, fields_fit}

pub not_below : (last tag : ℕ) → follows last tag ≡ true → last ≤ tag
unfolding follows
not_below last tag e = go (ltb last tag) refl e
  where
    go : (b : Bool) → ltb last tag ≡ b → (b || (eqb last 0x30 && eqb tag 0x30)) ≡ true → last ≤ tag
    go true less e = omega (arith, ltb-true last tag less)
    go false less e =
        let (a, b) = both_hold (eqb last 0x30) (eqb tag 0x30) e in
        omega (arith, eqb-true last 0x30 a, eqb-true tag 0x30 b)

-- A tag that follows another follows 0.
follows_none : (last tag : ℕ) → follows last tag ≡ true → follows 0 tag ≡ true
unfolding follows
follows_none last tag e = go (ltb last tag) refl e
  where
    positive : 0 < tag → (ltb 0 tag || (eqb 0 0x30 && eqb tag 0x30)) ≡ true
    positive h = rw (lt-ltb 0 tag h)

    go : (b : Bool) → ltb last tag ≡ b → (b || (eqb last 0x30 && eqb tag 0x30)) ≡ true → (ltb 0 tag || (eqb 0 0x30 && eqb tag 0x30)) ≡ true
    go true less e = positive (omega (arith, ltb-true last tag less))
    go false less e = positive (omega (arith, eqb-true tag 0x30 (both_hold (eqb last 0x30) (eqb tag 0x30) e).1))

pub still_ascending : (last : ℕ) (fs : List Field) → ascend_after last fs ≡ true → ascending fs ≡ true
unfolding ascend_after
still_ascending last [] e = refl
still_ascending last (f ∷ fs) e =
    let (here, later) = both_hold (follows last f.tag) (ascend_after f.tag fs) e in
    rw (follows_none last f.tag here, later)

-- Fields that are not cut, in order, and well-formed, and so is a first one before them.
first_fits : (uncut fol wf asc ev : Bool) → (fol && wf) ≡ true → (uncut && ((fol && asc) && (wf && ev))) ≡ (uncut && (asc && ev))
first_fits uncut true true asc ev e = refl
first_fits uncut true false asc ev e = absurd (true≢false (sym e))
first_fits uncut false true asc ev e = absurd (true≢false (sym e))
first_fits uncut false false asc ev e = absurd (true≢false (sym e))

first_not : (uncut fol wf asc ev : Bool) → (fol && wf) ≡ false → (uncut && ((fol && asc) && (wf && ev))) ≡ false
first_not true true true asc ev e = absurd (true≢false e)
first_not true true false true ev e = refl
first_not true true false false ev e = refl
first_not true false wf asc ev e = refl
first_not false fol wf asc ev e = refl

-- What `fields_fit` asks of some fields.
abbrev fitting : ℕ → Fields → Bool
fitting last x = not x.cut_one && (ascend_after last x.whole_ones && every well_formed x.whole_ones)

module _ (bytes : List ℕ) (last : ℕ) where
  pub fit_end : front bytes ≡ nothing → fields_fit last bytes ≡ true
  unfolding fields_fit ascend_after every
  fit_end e = ap (fitting last) (fields_none bytes e)

  pub fit_cut : front bytes ≡ cut → fields_fit last bytes ≡ false
  unfolding fields_fit
  fit_cut e = ap (fitting last) (fields_cut bytes e)

  module _ {f : Field} {rest : List ℕ} (e : front bytes ≡ whole f rest) where
    opened : fields_fit last bytes ≡ (not (cut_field rest) && ((follows last f.tag && ascend_after f.tag (whole_fields rest)) && (well_formed f && every well_formed (whole_fields rest))))
    unfolding fields_fit ascend_after every
    opened = ap (fitting last) (fields_whole bytes e)

    pub fit_next : (follows last f.tag && well_formed f) ≡ true → fields_fit last bytes ≡ fields_fit f.tag rest
    unfolding fields_fit
    fit_next t = opened ∙ first_fits (not (cut_field rest)) (follows last f.tag) (well_formed f) (ascend_after f.tag (whole_fields rest)) (every well_formed (whole_fields rest)) t

    pub fit_not : (follows last f.tag && well_formed f) ≡ false → fields_fit last bytes ≡ false
    fit_not t = opened ∙ first_not (not (cut_field rest)) (follows last f.tag) (well_formed f) (ascend_after f.tag (whole_fields rest)) (every well_formed (whole_fields rest)) t

pub told_fit : (t : Bool) (row : Refusal) {x : Unit {0}} → refused_if (not t) row ≡ Ok x → t ≡ true
told_fit true row e = refl
told_fit false row e = let z : ◌≡◌ {A = ℕ} 0 1 = cc in absurd (omega arith)

pub told_not : (t : Bool) (row : Refusal) {told : Refusal} → refused_if (not t) row ≡ Err told → (t ≡ false) × (told ≡ row)
told_not true row e = let z : ◌≡◌ {A = ℕ} 0 1 = cc in absurd (omega arith)
told_not false row e = (refl, cc)
