-- Laws of the fields of some bytes.
--     fields_none, fields_cut, fields_whole     by what the bytes begin with
--     rest_shorter     the bytes after a field are fewer
--     read_back, written     the fields of encoded fields are those; whole fields are what their encoding says
--     exactly                both as one statement
-- Assumes nothing.
use mathlib.Core.Logic.{◌↔◌}
use mathlib.Core.Path.{◌≡◌, refl, sym, ap, ◌∙◌}
use mathlib.Core.Bool.{Bool, true, false, cond, true≢false}
use mathlib.Core.List.{List, [], ◌∷◌, ◌++◌}
use Prim.Native.Nat.{ℕ, zero, suc, ◌+◌, ◌*◌, ◌/◌, ◌%◌, ◌≤◌, ◌<◌}
use native.Mathlib.Nat.{not-suc-le-zero}
use native.Mathlib.Omega.{arith}
use borrow.Author.Tests.{ltb-false, le-ltb}
use lib.Dec.{ltb}
use lib.ListN.{length, take, drop, length-append, take-append-drop}
use lib.Seq.{length-take-le, take-append_seam, drop-append_seam, get_or-append-add}
use Rattle.byte_numbers.specs.Bytes.{word}
use Rattle.fields.specs.Encoding.{Field, field, encoded_field, encoded, IsBytes, Short, Encodes, Front, nothing, cut, whole, front, by_front, Fields, fields, fields_within, fields_of, whole_fields, cut_field}

-- Some bytes that begin with a field: its tag, its length in two bytes, its value, and the rest.
pub record Begins (bytes : List ℕ) (f : Field) (rest : List ℕ) : Type 0 where
  pub low : ℕ
  pub high : ℕ
  pub bytes_are : bytes ≡ f.tag ∷ (low ∷ (high ∷ (f.value ++ rest)))
  pub length_is : word low high ≡ length f.value

-- What some bytes are, by what they begin with.
abbrev Seen : List ℕ → Front → Type 0
Seen bytes nothing = bytes ≡ []
Seen bytes cut = Unit {0}
Seen bytes (whole f rest) = Begins bytes f rest

seen : (bytes : List ℕ) → Seen bytes (front bytes)
unfolding front
seen [] = refl
seen (a ∷ []) = tt
seen (a ∷ (b ∷ [])) = tt
seen (a ∷ (b ∷ (c ∷ bs))) = go (ltb (length bs) (word b c)) refl
  where
    go : (short : Bool) → ltb (length bs) (word b c) ≡ short → Seen (a ∷ (b ∷ (c ∷ bs))) (cond short cut (whole (field a (take (word b c) bs)) (drop (word b c) bs)))
    go true s = tt
    go false s = record {
      low = b;
      high = c;
      bytes_are = rw take-append-drop;
      length_is = sym (length-take-le (word b c) bs (ltb-false _ _ s));
    }

pub begins : (bytes : List ℕ) {f : Field} {rest : List ℕ} → front bytes ≡ whole f rest → Begins bytes f rest
begins bytes e = rw e at (seen bytes)

-- A field takes at least three bytes.
pub rest_shorter : (bytes : List ℕ) {f : Field} {rest : List ℕ} → front bytes ≡ whole f rest → length rest < length bytes
rest_shorter bytes {f} {rest} e =
    let b = begins bytes e in
    rw b.bytes_are (simp length-append (omega arith))

-- More looks than bytes make no difference.
enough : (m n : ℕ) (bytes : List ℕ) → length bytes < m → length bytes < n → fields_within m bytes ≡ fields_within n bytes
unfolding fields_within
enough zero n bytes h k = absurd (not-suc-le-zero h)
enough (suc m) zero bytes h k = absurd (not-suc-le-zero k)
enough (suc m) (suc n) bytes h k = go (front bytes) refl (λ rest shorter. enough m n rest (omega arith) (omega arith))
  where
    next : ℕ → Front → Fields
    next most b = by_front b (fields [] false) (fields [] true) (λ f rest. fields (f ∷ (fields_within most rest).whole_ones) (fields_within most rest).cut_one)

    go : (b : Front) → front bytes ≡ b → ((rest : List ℕ) → length rest < length bytes → fields_within m rest ≡ fields_within n rest) → next m b ≡ next n b
    go nothing e same = refl
    go cut e same = refl
    go (whole f rest) e same = rw (same rest (rest_shorter bytes e))

module _ (bytes : List ℕ) where
  pub fields_none : front bytes ≡ nothing → fields_of bytes ≡ fields [] false
  unfolding fields_of fields_within
  fields_none e = rw e

  pub fields_cut : front bytes ≡ cut → fields_of bytes ≡ fields [] true
  unfolding fields_of fields_within
  fields_cut e = rw e

  pub fields_whole : {f : Field} {rest : List ℕ} → front bytes ≡ whole f rest → fields_of bytes ≡ fields (f ∷ whole_fields rest) (cut_field rest)
  unfolding fields_of fields_within
  fields_whole {f} {rest} e = rw (e, enough (length bytes) (suc (length rest)) rest (rest_shorter bytes e) (omega arith))

-- What the encoding of a field says is read.
front_encoded : (f : Field) (rest : List ℕ) → length f.value < 65536 → front (encoded_field f ++ rest) ≡ whole f rest
unfolding encoded_field front
front_encoded f rest h =
    let n = length f.value in
    let said : n % 256 + 256 * (n / 256) ≡ n = omega arith in
    let room : n ≤ length (f.value ++ rest) = simp length-append (omega arith) in
    rw (said, le-ltb _ _ room, take-append_seam f.value rest, drop-append_seam f.value rest)

pub read_back : (fs : List Field) → Short fs → fields_of (encoded fs) ≡ fields fs false
unfolding encoded
read_back [] s = fields_none [] (unfold front in refl)
read_back (f ∷ fs) s =
    fields_whole (encoded_field f ++ encoded fs) (front_encoded f (encoded fs) s.0)
    ∙ ap (λ (x : Fields). fields (f ∷ x.whole_ones) x.cut_one) (read_back fs s.1)

-- Two bytes are the length that they say.
module _ (low high n : ℕ) (l : low < 256) (h : high < 256) (e : word low high ≡ n) where
  low_is : n % 256 ≡ low
  low_is = omega arith

  high_is : n / 256 ≡ high
  high_is = omega arith

  short_is : n < 65536
  short_is = omega arith

module _ {bytes : List ℕ} {f : Field} {rest : List ℕ} (b : Begins bytes f rest) (small : IsBytes bytes) where
  rest_bytes : IsBytes rest
  rest_bytes i = rw (b.bytes_are, get_or-append-add) at (small (suc (suc (suc (length f.value + i)))))

  low_byte : b.low < 256
  low_byte = rw b.bytes_are at (small 1)

  high_byte : b.high < 256
  high_byte = rw b.bytes_are at (small 2)

  -- The bytes are those that the encoding says.
  begins_encoded : bytes ≡ encoded_field f ++ rest
  unfolding encoded_field
  begins_encoded = rw (low_is b.low b.high _ low_byte high_byte b.length_is, high_is b.low b.high _ low_byte high_byte b.length_is) b.bytes_are

written_within : (most : ℕ) (bytes : List ℕ) → length bytes < most → IsBytes bytes → cut_field bytes ≡ false → Encodes bytes (whole_fields bytes)
unfolding encoded
written_within zero bytes h small e = absurd (not-suc-le-zero h)
written_within (suc most) bytes h small e = go (front bytes) refl (λ rest shorter. written_within most rest (omega arith))
  where
    go : (b : Front) → front bytes ≡ b → ((rest : List ℕ) → length rest < length bytes → IsBytes rest → cut_field rest ≡ false → Encodes rest (whole_fields rest)) → Encodes bytes (whole_fields bytes)
    go nothing b later =
        let none : whole_fields bytes ≡ [] = ap (λ (x : Fields). x.whole_ones) (fields_none bytes b) in
        rw none (record { bytes_are = rw b at (seen bytes); short = tt })
    go cut b later = absurd (true≢false (sym (ap (λ (x : Fields). x.cut_one) (fields_cut bytes b)) ∙ e))
    go (whole f rest) b later =
        let are : whole_fields bytes ≡ f ∷ whole_fields rest = ap (λ (x : Fields). x.whole_ones) (fields_whole bytes b) in
        let left : cut_field bytes ≡ cut_field rest = ap (λ (x : Fields). x.cut_one) (fields_whole bytes b) in
        let here = begins bytes b in
        let there = later rest (rest_shorter bytes b) (rest_bytes here small) (sym left ∙ e) in
        rw are
        (record {
          bytes_are = begins_encoded here small ∙ ap (λ (l : List ℕ). encoded_field f ++ l) there.bytes_are;
          short = (short_is here.low here.high _ (low_byte here small) (high_byte here small) here.length_is, there.short);
        })

-- Whole fields are what their encoding says.
pub written : (bytes : List ℕ) → IsBytes bytes → cut_field bytes ≡ false → Encodes bytes (whole_fields bytes)
written bytes = written_within (suc (length bytes)) bytes (omega arith)

-- Both directions of the format: some bytes have just these whole fields, and nothing is left, exactly where they are the
-- encoding of the fields.
pub exactly : (bytes : List ℕ) (fs : List Field) → IsBytes bytes → (fields_of bytes ≡ fields fs false) ↔ Encodes bytes fs
exactly bytes fs small = (reading, encoding)
  where
    reading : fields_of bytes ≡ fields fs false → Encodes bytes fs
    reading e =
        let are : whole_fields bytes ≡ fs = ap (λ (x : Fields). x.whole_ones) e in
        rw are at (written bytes small (ap (λ (x : Fields). x.cut_one) e))

    encoding : Encodes bytes fs → fields_of bytes ≡ fields fs false
    encoding x = rw x.bytes_are (read_back fs x.short)
