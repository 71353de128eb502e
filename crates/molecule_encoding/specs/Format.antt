-- The encoding of a molecule, the tray of document 01: which fields it has together and in which order, and what the parts of the
-- molecule are. A field by itself is in molecule_fields.
use Rattle.std.specs.Prelude.{ℕ, ◌+◌, Bool, true, false, cond, not, ◌&&◌, ◌||◌, Option, Some, None, Result, Ok, Err, List, [], ◌∷◌, eqb, ltb, leb, length, drop, is_some}
use Rattle.lists.specs.Every.{every}
use Rattle.fields.specs.Encoding.{Field, FieldAt, whole_fields, cut_field, field_at}
use Rattle.refusals.specs.declared.Refusal.{Refusal}
use Rattle.refusals.specs.declared.Refusal.TheVariants.{Broken}
use Rattle.molecule_fields.specs.Widths.{implies, well_formed}

-- A tag comes after another: it is above it, or both are reads.
unfoldable pub follows : ℕ → ℕ → Bool
follows last tag = ltb last tag || (eqb last 0x30 && eqb tag 0x30)

unfoldable pub ascend_after : ℕ → List Field → Bool
ascend_after last [] = true
ascend_after last (f ∷ fs) = follows last f.tag && ascend_after f.tag fs

-- Tags ascend, once each except 30. The first comes after 0, which is no tag.
abbrev pub ascending : List Field → Bool
ascending fs = ascend_after 0 fs

-- Some field has a tag.
unfoldable pub has : ℕ → List Field → Bool
has tag [] = false
has tag (f ∷ fs) = eqb f.tag tag || has tag fs

-- A strand, given by its first tag, has all of its first four fields or none.
abbrev pub all_or_none : Bool → Bool → Bool → Bool → Bool
all_or_none a b c d = (a && (b && (c && d))) || not (a || (b || (c || d)))

unfoldable pub whole_strand : ℕ → List Field → Bool
whole_strand first fs = all_or_none (has first fs) (has (first + 1) fs) (has (first + 2) fs) (has (first + 3) fs)

-- An annotation stands with its strand.
unfoldable pub annotated_strand : ℕ → List Field → Bool
annotated_strand first fs = implies (has (first + 4) fs) (has first fs)

-- Reads stand after the list's marker.
unfoldable pub announced : List Field → Bool
announced fs = implies (has 0x30 fs) (has 0x2f fs)

-- Fields that are a molecule: each cause of 13 that some whole fields can have is one condition here.
unfoldable pub valid : List Field → Bool
valid fs =
    ascending fs
    && (every well_formed fs
    && ((whole_strand 0x10 fs && annotated_strand 0x10 fs)
    && ((whole_strand 0x20 fs && annotated_strand 0x20 fs)
    && announced fs)))

-- The most bytes.
abbrev pub most_bytes : ℕ
most_bytes = 65536

-- Bytes that are a molecule: not over 65,536, whole fields, and those valid.
unfoldable pub accepted : List ℕ → Bool
accepted bytes = leb (length bytes) most_bytes && (not (cut_field bytes) && valid (whole_fields bytes))

-- The value of the field with a tag, where there is one.
unfoldable pub value_of : ℕ → List Field → Option (List ℕ)
value_of tag [] = None
value_of tag (f ∷ fs) = cond (eqb f.tag tag) (Some f.value) (value_of tag fs)

-- A strand: the values of its fields.
pub record StrandParts : Type 0 where
  pub bases : List ℕ
  pub quals : List ℕ
  pub depths : List ℕ
  pub errors : List ℕ
  pub annotation : Option (List ℕ)

-- The parts of a molecule that are there.
pub record MoleculeParts : Type 0 where
  pub thresholds : Option (List ℕ)
  pub a : Option StrandParts
  pub b : Option StrandParts
  pub reads : Option (List ℕ)

-- A strand by its fields. It is there where its first four are.
abbrev pub strand_by : Option (List ℕ) → Option (List ℕ) → Option (List ℕ) → Option (List ℕ) → Option (List ℕ) → Option StrandParts
strand_by (Some bases) (Some quals) (Some depths) (Some errors) annotation = Some (record { bases = bases; quals = quals; depths = depths; errors = errors; annotation = annotation })
strand_by _ _ _ _ _ = None

unfoldable pub strand_of : ℕ → List Field → Option StrandParts
strand_of first fs = strand_by (value_of first fs) (value_of (first + 1) fs) (value_of (first + 2) fs) (value_of (first + 3) fs) (value_of (first + 4) fs)

-- Where the value of the field with a tag is, of fields whose bytes begin at a place.
unfoldable pub place_from : ℕ → ℕ → List Field → Option FieldAt
place_from at tag [] = None
place_from at tag (f ∷ fs) =
    cond (eqb f.tag tag) (Some (record { tag = f.tag; offset = at + 3; length = length f.value }))
    (place_from (at + 3 + length f.value) tag fs)

abbrev pub place_of : ℕ → List Field → Option FieldAt
place_of tag fs = place_from 0 tag fs

-- What stands at the place of a field, where there is one: the field, and the bytes after it.
abbrev pub found_at : List ℕ → Option FieldAt → Option (Field × List ℕ)
found_at bytes None = None
found_at bytes (Some f) = Some (field_at bytes f, drop (f.offset + f.length) bytes)

-- All bytes after a field, where there is one.
abbrev pub bytes_after : List ℕ → Option FieldAt → Option (List ℕ)
bytes_after bytes None = None
bytes_after bytes (Some f) = Some (drop (f.offset + f.length) bytes)

-- All bytes after the list's marker.
abbrev pub reads_after : List ℕ → List Field → Option (List ℕ)
reads_after bytes fs = bytes_after bytes (place_of 0x2f fs)

-- The molecule of some fields, which are some bytes.
unfoldable pub molecule : List ℕ → List Field → MoleculeParts
molecule bytes fs = record {
  thresholds = value_of 0x01 fs;
  a = strand_of 0x10 fs;
  b = strand_of 0x20 fs;
  reads = reads_after bytes fs;
}

-- What the reader answers.
unfoldable pub decoded : List ℕ → Result MoleculeParts Refusal
decoded bytes = cond (accepted bytes) (Ok (molecule bytes (whole_fields bytes))) (Err Broken)

-- For the functions below the reader.

-- Bytes that are whole fields, in order after a tag, and each well-formed.
unfoldable pub fields_fit : ℕ → List ℕ → Bool
fields_fit last bytes = not (cut_field bytes) && (ascend_after last (whole_fields bytes) && every well_formed (whole_fields bytes))

-- Such bytes, or the refusal.
abbrev pub checked : List ℕ → Result (List ℕ) Refusal
checked bytes = cond (fields_fit 0 bytes) (Ok bytes) (Err Broken)

-- A strand by its fields, or the refusal: it has all of its first four fields or none, and an annotation only with them.
abbrev pub strand_test : Option (List ℕ) → Option (List ℕ) → Option (List ℕ) → Option (List ℕ) → Option (List ℕ) → Result (Option StrandParts) Refusal
strand_test (Some bases) (Some quals) (Some depths) (Some errors) annotation = Ok (Some (record { bases = bases; quals = quals; depths = depths; errors = errors; annotation = annotation }))
strand_test None None None None None = Ok None
strand_test _ _ _ _ _ = Err Broken

abbrev pub strand_read : ℕ → List Field → Result (Option StrandParts) Refusal
strand_read first fs = strand_test (value_of first fs) (value_of (first + 1) fs) (value_of (first + 2) fs) (value_of (first + 3) fs) (value_of (first + 4) fs)

-- The reads, or the refusal of reads without a list.
abbrev pub reads_test : List ℕ → Option FieldAt → Option FieldAt → Result (Option (List ℕ)) Refusal
reads_test bytes (Some marker) read = Ok (bytes_after bytes (Some marker))
reads_test bytes None read = cond (is_some read) (Err Broken) (Ok None)

abbrev pub reads_read : List ℕ → Result (Option (List ℕ)) Refusal
reads_read bytes = reads_test bytes (place_of 0x2f (whole_fields bytes)) (place_of 0x30 (whole_fields bytes))
