-- A walk over the fields of a buffer, from one `next_field` to the next: what its answer at a place says of the fields from there on.
--     at_end, at_cut     there are none (none_at_end, none_at_cut), and nothing or a cut field is left
--     cut_is_broken      a cut field is refused by 13
--     at_whole           a field, and the fields from its end on
--     begun, ended, broken   what the code's answer for some bytes says of what they begin with
--     stands             what a field is that begins at a place
--     along              induction along a walk
-- Assumes nothing.
use mathlib.Core.Path.{◌≡◌, refl, sym, ap, ◌∙◌}
use Rattle.std.proofs.Common.{Option, Some, None, Result, Ok, Err}
use mathlib.Core.Bool.{false, true}
use mathlib.Core.List.{List, [], ◌∷◌, ◌++◌}
use Prim.Native.Nat.{ℕ, zero, suc, ◌+◌, ◌-◌, ◌≤◌, ◌<◌}
use native.Mathlib.Nat.{not-suc-le-zero}
use native.Mathlib.Omega.{arith}
use borrow.Author.Tests.{le-ltb}
use lib.ListN.{length, drop, length-append, length-drop}
use lib.Seq.{take-append_seam, drop-append_seam, drop-drop}
use Rattle.lists.specs.Part.{leaves, part}
use Rattle.fields.specs.Encoding.{Field, field, Front, nothing, cut, whole, front, begins_with, located, Fields, fields, fields_of, whole_fields, cut_field, FieldAt, next_field, field_at}
use Rattle.fields.specs.Slices.{field_in, begins_in}
use Rattle.fields.specs.declared.FirstField.{FirstField}
use Rattle.refusals.specs.declared.Refusal.{Refusal}
use Rattle.refusals.specs.declared.Refusal.TheVariants.{Broken}
use Rattle.fields.proofs.Fields.{Begins, begins, fields_none, fields_cut, fields_whole}

-- A field f of some bytes begins at a place.
pub record BeginsAt (bytes : List ℕ) (at : ℕ) (f : FieldAt) : Type 0 where
  pub header : f.offset ≡ at + 3
  pub within : f.offset + f.length ≤ length bytes
  pub sized : length (field_at bytes f).value ≡ f.length
  pub fields_are : fields_of (drop at bytes) ≡ fields (field_at bytes f ∷ whole_fields (drop (f.offset + f.length) bytes)) (cut_field (drop (f.offset + f.length) bytes))

module _ (bytes : List ℕ) (at : ℕ) {g : Field} {rest : List ℕ} (b : Begins (drop at bytes) g rest) where
  after_header : drop (at + 3) bytes ≡ g.value ++ rest
  after_header = sym (drop-drop 3 at bytes) ∙ ap (drop 3) b.bytes_are

  value_within : at + 3 + length g.value ≤ length bytes
  value_within =
      let n : length (drop at bytes) ≡ 3 + (length g.value + length rest) = rw b.bytes_are (simp length-append (omega arith)) in
      omega (arith, length-drop at bytes)

  value_is : part (at + 3) (length g.value) bytes ≡ g.value
  unfolding part leaves
  value_is = rw (le-ltb _ _ value_within, after_header, take-append_seam g.value rest)

  rest_is : drop (at + 3 + length g.value) bytes ≡ rest
  rest_is = sym (drop-drop (length g.value) (at + 3) bytes) ∙ rw (after_header, drop-append_seam g.value rest)

module _ (bytes : List ℕ) (at : ℕ) where
  -- What is known of the fields from a place on, by what begins there.
  abbrev Told : Result (Option FieldAt) Refusal → Type 0
  Told (Ok None) = fields_of (drop at bytes) ≡ fields [] false
  Told (Ok (Some f)) = BeginsAt bytes at f
  Told (Err refusal) = (fields_of (drop at bytes) ≡ fields [] true) × (refusal ≡ Broken)

  told : Told (next_field bytes at)
  unfolding next_field
  told = go (front (drop at bytes)) refl
    where
      go : (b : Front) → front (drop at bytes) ≡ b → Told (located at b)
      go nothing b = fields_none (drop at bytes) b
      go cut b = (fields_cut (drop at bytes) b, refl)
      go (whole g rest) b =
          let here = begins (drop at bytes) b in
          record {
            header = refl;
            within = value_within bytes at here;
            sized = ap length (value_is bytes at here);
            fields_are = rw (value_is bytes at here, rest_is bytes at here) (fields_whole (drop at bytes) b);
          }

  pub at_end : next_field bytes at ≡ Ok None → fields_of (drop at bytes) ≡ fields [] false
  at_end e = rw e at told

  pub at_cut : {refusal : Refusal} → next_field bytes at ≡ Err refusal → fields_of (drop at bytes) ≡ fields [] true
  at_cut e = (rw e at told).0

  pub cut_is_broken : {refusal : Refusal} → next_field bytes at ≡ Err refusal → refusal ≡ Broken
  cut_is_broken e = (rw e at told).1

  -- Either way there are none.
  pub none_at_end : next_field bytes at ≡ Ok None → whole_fields (drop at bytes) ≡ []
  none_at_end e = ap (λ (x : Fields). x.whole_ones) (at_end e)

  pub none_at_cut : {refusal : Refusal} → next_field bytes at ≡ Err refusal → whole_fields (drop at bytes) ≡ []
  none_at_cut e = ap (λ (x : Fields). x.whole_ones) (at_cut e)

  pub at_whole : {f : FieldAt} → next_field bytes at ≡ Ok (Some f) → BeginsAt bytes at f
  at_whole e = rw e at told

-- Where the value is of a field that begins at a place.
abbrev pub placed : ℕ → Field → FieldAt
placed at g = record { tag = g.tag; offset = at + 3; length = length g.value }

-- A field begins at a place, and some bytes stand after it.
pub record StandsAt (bytes : List ℕ) (at : ℕ) (g : Field) (rest : List ℕ) : Type 0 where
  pub begins_at : BeginsAt bytes at (placed at g)
  pub field_is : field_at bytes (placed at g) ≡ g
  pub rest_is : drop (at + 3 + length g.value) bytes ≡ rest

pub stands : (bytes : List ℕ) (at : ℕ) {g : Field} {rest : List ℕ} → front (drop at bytes) ≡ whole g rest → StandsAt bytes at g rest
unfolding next_field
stands bytes at {g} e =
    let here = begins (drop at bytes) e in
    record {
      begins_at = at_whole bytes at (ap (located at) e);
      field_is = ap (field g.tag) (value_is bytes at here);
      rest_is = rest_is bytes at here;
    }

abbrev Answer : Type 0
Answer = Result (Option (Field × List ℕ)) Refusal

-- What an answer says of what some bytes begin with.
abbrev Said : Answer → Front → Type 0
Said (Ok None) b = b ≡ nothing
Said (Ok (Some x)) b = b ≡ whole x.0 x.1
Said (Err refusal) b = (b ≡ cut) × (refusal ≡ Broken)

said : (b : Front) → Said (begins_with b) b
said nothing = refl
said cut = (refl, refl)
said (whole f rest) = refl

-- The answer of the code for some bytes.
module _ (xs : List ℕ) {r : Result (Option FirstField) Refusal} where
  pub begun : {f : FirstField} → r ≡ Ok (Some f) → begins_in r ≡ begins_with (front xs) → front xs ≡ whole (field_in f) f.rest.now
  begun is told = rw (sym told ∙ ap begins_in is) at (said (front xs))

  pub ended : r ≡ Ok None → begins_in r ≡ begins_with (front xs) → front xs ≡ nothing
  ended is told = rw (sym told ∙ ap begins_in is) at (said (front xs))

  pub broken : {refusal : Refusal} → r ≡ Err refusal → begins_in r ≡ begins_with (front xs) → (front xs ≡ cut) × (refusal ≡ Broken)
  broken is told = rw (sym told ∙ ap begins_in is) at (said (front xs))

-- What holds where no field is left, and at each field where it holds at the field's end, holds at every place.
module _
    (bytes : List ℕ) (Q : ℕ → Type 0)
    (none : (at : ℕ) → whole_fields (drop at bytes) ≡ [] → Q at)
    (more : (at : ℕ) (f : FieldAt) → BeginsAt bytes at f → Q (f.offset + f.length) → Q at)
  where
    along_within : (most at : ℕ) → length bytes - at < most → Q at
    along_within zero at h = absurd (not-suc-le-zero h)
    along_within (suc most) at h = go (next_field bytes at) refl (λ next nearer. along_within most next (omega arith))
      where
        go : (r : Result (Option FieldAt) Refusal) → next_field bytes at ≡ r → ((next : ℕ) → length bytes - next < length bytes - at → Q next) → Q at
        go (Ok None) e later = none at (none_at_end bytes at e)
        go (Err refusal) e later = none at (none_at_cut bytes at e)
        go (Ok (Some f)) e later =
            let b = at_whole bytes at e in
            more at f b (later (f.offset + f.length) (omega (arith, b.header, b.within)))

    pub along : (at : ℕ) → Q at
    along at = along_within (suc (length bytes - at)) at (omega arith)
