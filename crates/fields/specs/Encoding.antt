-- The tag-length-value encoding of document 01's tray: what bytes stand for a field, for some fields one after another, and what fields some bytes have.
use Rattle.std.specs.Prelude.{ℕ, zero, suc, ◌+◌, ◌/◌, ◌%◌, ◌<◌, ◌≡◌, Bool, true, false, cond, Option, Some, None, Result, Ok, Err, List, [], ◌∷◌, ◌++◌, ltb, length, take, drop, get_or}
use Rattle.lists.specs.Part.{part}
use Rattle.byte_numbers.specs.Bytes.{word}
use Rattle.refusals.specs.declared.Refusal.{Refusal}
use Rattle.refusals.specs.declared.Refusal.TheVariants.{Broken}

pub record Field : Type 0 where
  pub tag : ℕ
  pub value : List ℕ

abbrev pub field : ℕ → List ℕ → Field
field tag value = record { tag = tag; value = value }

-- The bytes of a field: the tag, the value's length, low byte first, and the value.
unfoldable pub encoded_field : Field → List ℕ
encoded_field f = f.tag ∷ length f.value % 256 ∷ length f.value / 256 ∷ f.value

-- The bytes of some fields, one after another.
unfoldable pub encoded : List Field → List ℕ
encoded [] = []
encoded (f ∷ fs) = encoded_field f ++ encoded fs

-- A list of bytes.
abbrev pub IsBytes : List ℕ → Type 0
IsBytes bytes = (i : ℕ) → get_or bytes i 0 < 256

-- Fields whose lengths two bytes can say.
abbrev pub Short : List Field → Type 0
Short [] = Unit {0}
Short (f ∷ fs) = (length f.value < 65536) × Short fs

-- Bytes that are the encoding of some fields, each of a length that two bytes can say.
pub record Encodes (bytes : List ℕ) (fs : List Field) : Type 0 where
  pub bytes_are : bytes ≡ encoded fs
  pub short : Short fs

-- What some bytes begin with: nothing where there are none, a field that is cut short, or a whole field and the bytes after it.
pub data Front : Type 0 where
  nothing : Front
  cut : Front
  whole : Field → List ℕ → Front

-- A tag, a length and at least as many bytes are a field.
unfoldable pub front : List ℕ → Front
front [] = nothing
front (tag ∷ []) = cut
front (tag ∷ (low ∷ [])) = cut
front (tag ∷ (low ∷ (high ∷ rest))) =
    cond (ltb (length rest) (word low high)) cut
    (whole (field tag (take (word low high) rest)) (drop (word low high) rest))

module _ {A : Type 0} where
  -- One of three values, by what some bytes begin with.
  abbrev pub by_front : Front → A → A → (Field → List ℕ → A) → A
  by_front nothing a b c = a
  by_front cut a b c = b
  by_front (whole f rest) a b c = c f rest

-- The fields of some bytes: the whole fields from the front on, and whether bytes are left after them, which are a cut field.
pub record Fields : Type 0 where
  pub whole_ones : List Field
  pub cut_one : Bool

abbrev pub fields : List Field → Bool → Fields
fields fs left = record { whole_ones = fs; cut_one = left }

-- At most so many fields are looked for.
unfoldable pub fields_within : ℕ → List ℕ → Fields
fields_within zero bytes = fields [] true
fields_within (suc most) bytes =
    by_front (front bytes) (fields [] false) (fields [] true) (λ f rest. fields (f ∷ (fields_within most rest).whole_ones) (fields_within most rest).cut_one)

-- A field has bytes, so that there are no more fields than bytes; one more look sees the end.
unfoldable pub fields_of : List ℕ → Fields
fields_of bytes = fields_within (suc (length bytes)) bytes

abbrev pub whole_fields : List ℕ → List Field
whole_fields bytes = (fields_of bytes).whole_ones

abbrev pub cut_field : List ℕ → Bool
cut_field bytes = (fields_of bytes).cut_one

-- The same, as an answer: a cut field is refused.
abbrev pub begins_with : Front → Result (Option (Field × List ℕ)) Refusal
begins_with nothing = Ok None
begins_with cut = Err Broken
begins_with (whole f rest) = Ok (Some (f, rest))

-- A field of a buffer: its tag, and where its value is.
pub record FieldAt : Type 0 where
  pub tag : ℕ
  pub offset : ℕ
  pub length : ℕ

-- What begins at a place of a buffer, by what the bytes from there on begin with.
abbrev pub located : ℕ → Front → Result (Option FieldAt) Refusal
located at nothing = Ok None
located at cut = Err Broken
located at (whole f rest) = Ok (Some (record { tag = f.tag; offset = at + 3; length = length f.value }))

unfoldable pub next_field : List ℕ → ℕ → Result (Option FieldAt) Refusal
next_field bytes at = located at (front (drop at bytes))

-- What a field of a buffer is.
abbrev pub field_at : List ℕ → FieldAt → Field
field_at bytes f = field f.tag (part f.offset f.length bytes)
