-- Laws of the value of a tag, and of where it is.
--     find_none, find_here, find_past, find_next     by what begins at a place
--     Searching, found_end, found_cut, found_here, found_past, found_next     the same of a search, by what the bytes left begin with
--     past             no field is below a tag that all come after
--     place_there, value_there     a tag has a place, and a value, exactly where a field has the tag
--     value_placed, value_found     what stands at the place of a tag's value is the value
--     placed_within     that place is within the bytes
-- Assumes nothing.
use mathlib.Core.Path.{◌≡◌, refl, sym, ap, ◌∙◌}
use mathlib.Core.Bool.{Bool, true, false, cond, ◌||◌}
use mathlib.Core.List.{List, [], ◌∷◌}
use Prim.Native.Nat.{ℕ, ◌+◌, ◌<◌, ◌≤◌}
use native.Mathlib.Omega.{arith}
use borrow.Author.Tests.{eq-eqb, ne_eqb}
use lib.Dec.{eqb}
use lib.ListN.{length, drop}
use Rattle.std.proofs.Common.{Option, Some, None}
use Rattle.std.specs.Prelude.{is_some}
use Rattle.refusals.proofs.Condition.{both_hold}
use Rattle.fields.specs.Encoding.{Field, FieldAt, nothing, cut, whole, front, Fields, whole_fields, field_at}
use Rattle.fields.proofs.Fields.{fields_none, fields_cut}
use Rattle.fields.proofs.Walk.{BeginsAt, placed, StandsAt, stands, along}
use Rattle.molecule_encoding.specs.Format.{follows, ascend_after, ascending, has, value_of, place_from, place_of, found_at}
use Rattle.molecule_encoding.proofs.Order.{not_below, still_ascending}

-- Where fields ascend after a tag, none has one below it.
pub past : (last tag at : ℕ) (fs : List Field) → tag < last → ascend_after last fs ≡ true → place_from at tag fs ≡ None
unfolding ascend_after place_from
past last tag at [] less e = refl
past last tag at (f ∷ fs) less e =
    let (here, later) = both_hold (follows last f.tag) (ascend_after f.tag fs) e in
    let above : tag < f.tag = omega (arith, not_below last f.tag here) in
    rw (ne_eqb f.tag tag (λ same. omega arith)) (past f.tag tag (at + 3 + length f.value) fs above later)

find_none : (at tag : ℕ) → place_from at tag [] ≡ None
unfolding place_from
find_none at tag = refl

module _ (bytes : List ℕ) (at tag : ℕ) where
  module _ {f : FieldAt} (b : BeginsAt bytes at f) where
    abbrev rest : List Field
    rest = whole_fields (drop (f.offset + f.length) bytes)

    place_opened : place_from at tag (whole_fields (drop at bytes)) ≡ cond (eqb f.tag tag) (Some f) (place_from (f.offset + f.length) tag rest)
    unfolding place_from
    place_opened =
        let start : at + 3 ≡ f.offset = sym b.header in
        ap (λ (x : Fields). place_from at tag x.whole_ones) b.fields_are ∙ rw (start, b.sized)

    find_here : f.tag ≡ tag → place_from at tag (whole_fields (drop at bytes)) ≡ Some f
    find_here e = place_opened ∙ rw (eq-eqb _ _ e)

    find_next : (f.tag ≡ tag → ⊥) → place_from at tag (whole_fields (drop at bytes)) ≡ place_from (f.offset + f.length) tag rest
    find_next n = place_opened ∙ rw (ne_eqb _ _ n)

    ascend_parts : ascending (whole_fields (drop at bytes)) ≡ true → ascend_after f.tag rest ≡ true
    unfolding ascend_after
    ascend_parts e = (both_hold (follows 0 f.tag) (ascend_after f.tag rest) (sym (ap (λ (x : Fields). ascending x.whole_ones) b.fields_are) ∙ e)).1

    find_past : ascending (whole_fields (drop at bytes)) ≡ true → tag < f.tag → place_from at tag (whole_fields (drop at bytes)) ≡ None
    find_past e less = find_next (λ same. omega arith) ∙ past f.tag tag (f.offset + f.length) rest less (ascend_parts e)

    ascending_next : ascending (whole_fields (drop at bytes)) ≡ true → ascending rest ≡ true
    ascending_next e = still_ascending f.tag rest (ascend_parts e)

some_or : {A : Type 0} (b c : Bool) (x : A) (other : Option A) → is_some other ≡ c → is_some (cond b (Some x) other) ≡ (b || c)
some_or true c x other e = refl
some_or false c x other e = e

pub place_there : (at tag : ℕ) (fs : List Field) → is_some (place_from at tag fs) ≡ has tag fs
unfolding place_from has
place_there at tag [] = refl
place_there at tag (f ∷ fs) = some_or (eqb f.tag tag) (has tag fs) _ _ (place_there (at + 3 + length f.value) tag fs)

pub value_there : (tag : ℕ) (fs : List Field) → is_some (value_of tag fs) ≡ has tag fs
unfolding value_of has
value_there tag [] = refl
value_there tag (f ∷ fs) = some_or (eqb f.tag tag) (has tag fs) _ _ (value_there tag fs)

-- The value of what is found.
abbrev pub value_of_found : Option (Field × List ℕ) → Option (List ℕ)
value_of_found None = None
value_of_found (Some x) = Some x.0.value

module _ (bytes : List ℕ) (tag : ℕ) where
  -- Of the fields from a place on.
  abbrev Holds : ℕ → Type 0
  Holds at = value_of_found (found_at bytes (place_from at tag (whole_fields (drop at bytes)))) ≡ value_of tag (whole_fields (drop at bytes))

  holds_none : (at : ℕ) → whole_fields (drop at bytes) ≡ [] → Holds at
  unfolding place_from value_of
  holds_none at e = rw e

  holds_whole : (at : ℕ) (f : FieldAt) → BeginsAt bytes at f → Holds (f.offset + f.length) → Holds at
  unfolding value_of
  holds_whole at f b later =
      rw (place_opened bytes at tag b) (go (eqb f.tag tag) later)
      ∙ sym (ap (λ (x : Fields). value_of tag x.whole_ones) b.fields_are)
    where
      rest : List Field
      rest = whole_fields (drop (f.offset + f.length) bytes)

      go :
          (here : Bool)
          → Holds (f.offset + f.length)
          → value_of_found (found_at bytes (cond here (Some f) (place_from (f.offset + f.length) tag rest))) ≡ cond here (Some (field_at bytes f).value) (value_of tag rest)
      go true later = refl
      go false later = later

  pub value_placed : value_of_found (found_at bytes (place_of tag (whole_fields bytes))) ≡ value_of tag (whole_fields bytes)
  value_placed = along bytes Holds holds_none holds_whole 0

  -- The value of what is found is the value of the tag.
  pub value_found : {found : Option (Field × List ℕ)} → found ≡ found_at bytes (place_of tag (whole_fields bytes)) → value_of_found found ≡ value_of tag (whole_fields bytes)
  value_found e = ap value_of_found e ∙ value_placed

-- A field's place, where there is one, is within some bytes, and the value there is as long as it says.
abbrev pub Within : List ℕ → Option FieldAt → Type 0
Within bytes None = Unit {0}
Within bytes (Some f) = (f.offset + f.length ≤ length bytes) × (length (field_at bytes f).value ≡ f.length)

module _ (bytes : List ℕ) (tag : ℕ) where
  abbrev From : ℕ → Type 0
  From at = Within bytes (place_from at tag (whole_fields (drop at bytes)))

  within_none : (at : ℕ) → whole_fields (drop at bytes) ≡ [] → From at
  unfolding place_from
  within_none at e = rw e tt

  within_whole : (at : ℕ) (f : FieldAt) → BeginsAt bytes at f → From (f.offset + f.length) → From at
  within_whole at f b later = rw (place_opened bytes at tag b) (go (eqb f.tag tag) later)
    where
      go :
          (here : Bool)
          → From (f.offset + f.length)
          → Within bytes (cond here (Some f) (place_from (f.offset + f.length) tag (whole_fields (drop (f.offset + f.length) bytes))))
      go true later = (b.within, b.sized)
      go false later = later

  pub placed_within : Within bytes (place_of tag (whole_fields bytes))
  placed_within = along bytes From within_none within_whole 0

-- A search for a tag that has come to the bytes from a place on.
pub record Searching (bytes : List ℕ) (tag : ℕ) (rest : List ℕ) : Type 0 where
  pub at : ℕ
  pub rest_is : drop at bytes ≡ rest
  pub ascends : ascending (whole_fields rest) ≡ true
  pub left : place_from at tag (whole_fields rest) ≡ place_of tag (whole_fields bytes)

module _ {bytes : List ℕ} {tag : ℕ} {rest : List ℕ} (k : Searching bytes tag rest) where
  found_none : whole_fields rest ≡ [] → found_at bytes (place_of tag (whole_fields bytes)) ≡ None
  found_none e = ap (found_at bytes) (sym k.left ∙ ap (place_from k.at tag) e ∙ find_none k.at tag)

  -- Where no field is left, as nothing or a cut field is.
  pub found_end : front rest ≡ nothing → found_at bytes (place_of tag (whole_fields bytes)) ≡ None
  found_end e = found_none (ap (λ (x : Fields). x.whole_ones) (fields_none rest e))

  pub found_cut : front rest ≡ cut → found_at bytes (place_of tag (whole_fields bytes)) ≡ None
  found_cut e = found_none (ap (λ (x : Fields). x.whole_ones) (fields_cut rest e))

  module _ {g : Field} {after : List ℕ} (e : front rest ≡ whole g after) where
    there : StandsAt bytes k.at g after
    there = stands bytes k.at (rw k.rest_is e)

    pub found_here : g.tag ≡ tag → found_at bytes (place_of tag (whole_fields bytes)) ≡ Some (g, after)
    found_here same =
        let is : place_of tag (whole_fields bytes) ≡ Some (placed k.at g) = sym k.left ∙ (rw k.rest_is at (find_here bytes k.at tag there.begins_at same)) in
        rw (is, there.field_is, there.rest_is)

    pub found_past : tag < g.tag → found_at bytes (place_of tag (whole_fields bytes)) ≡ None
    found_past less =
        let is : place_of tag (whole_fields bytes) ≡ None = sym k.left ∙ (rw k.rest_is at (find_past bytes k.at tag there.begins_at (rw k.rest_is k.ascends) less)) in
        rw is

    pub found_next : (g.tag ≡ tag → ⊥) → Searching bytes tag after
    found_next other = record {
      at = k.at + 3 + length g.value;
      rest_is = there.rest_is;
      ascends = rw there.rest_is at (ascending_next bytes k.at tag there.begins_at (rw k.rest_is k.ascends));
      left = rw (k.rest_is, there.rest_is) at (sym (find_next bytes k.at tag there.begins_at other)) ∙ k.left;
    }
