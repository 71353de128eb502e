-- Where the parts of an encoded molecule are in its bytes, as an offset and a length each: what `molecule_places` answers, and claims about it.
--     AcceptsAt, OnlyAt, Only13At     as Accepts, Only and Only13 of the reader
--     HoldsAt             what stands at the places is what the reader answers
--     SmallAt             small molecules: a row for each edge of the format
-- Proved in proofs/Places.antt.
use Rattle.std.specs.Prelude.{◌≡◌, ℕ, ◌+◌, ◌-◌, Option, Some, None, Result, Ok, Err, cond, List, [], ◌∷◌, ◌++◌, length}
use Rattle.lists.specs.Part.{part}
use Rattle.fields.specs.Encoding.{Field, FieldAt, IsBytes, whole_fields}
use Rattle.refusals.specs.declared.Refusal.{Refusal}
use Rattle.refusals.specs.declared.Refusal.TheVariants.{Broken}
use Rattle.molecule_encoding.specs.Format.{StrandParts, MoleculeParts, accepted, place_of, decoded}
use Rattle.molecule_encoding.specs.Claims.{EncodesMolecule}
use Rattle.molecule_encoding.specs.Small.{empty}
use Rattle.molecule_encoding.specs.declared.Span.{Span}
use Rattle.molecule_encoding.specs.declared.StrandPlaces.{StrandPlaces}
use Rattle.molecule_encoding.specs.declared.MoleculePlaces.{MoleculePlaces}

abbrev pub span : ℕ → ℕ → Span
span offset n = record { offset = offset; length = n }

-- Where the value of a field is, where there is one.
abbrev pub span_at : Option FieldAt → Option Span
span_at None = None
span_at (Some f) = Some (span f.offset f.length)

abbrev pub span_of : ℕ → List Field → Option Span
span_of tag fs = span_at (place_of tag fs)

-- A strand by where its fields are. It is there where its first four are.
abbrev pub strand_at : Option Span → Option Span → Option Span → Option Span → Option Span → Option StrandPlaces
strand_at (Some bases) (Some quals) (Some depths) (Some errors) annotation = Some (record { bases = bases; quals = quals; depths = depths; errors = errors; annotation = annotation })
strand_at _ _ _ _ _ = None

abbrev pub strand_places : ℕ → List Field → Option StrandPlaces
strand_places first fs = strand_at (span_of first fs) (span_of (first + 1) fs) (span_of (first + 2) fs) (span_of (first + 3) fs) (span_of (first + 4) fs)

-- All of so many bytes after a field, where there is one.
abbrev pub after_at : ℕ → Option FieldAt → Option Span
after_at size None = None
after_at size (Some f) = Some (span (f.offset + f.length) (size - (f.offset + f.length)))

-- The places of some fields, whose bytes are so many.
abbrev pub places : ℕ → List Field → MoleculePlaces
places size fs = record {
  thresholds = span_of 0x01 fs;
  a = strand_places 0x10 fs;
  b = strand_places 0x20 fs;
  reads = after_at size (place_of 0x2f fs);
}

unfoldable pub placed : List ℕ → Result MoleculePlaces Refusal
placed bytes = cond (accepted bytes) (Ok (places (length bytes) (whole_fields bytes))) (Err Broken)

-- What the format says is accepted, at the places of its fields.
abbrev pub AcceptsAt : Type 0
AcceptsAt = (bytes : List ℕ) (fs : List Field) → EncodesMolecule bytes fs → placed bytes ≡ Ok (places (length bytes) fs)

-- What is accepted is what the format says, and the answer is where its whole fields are.
abbrev pub OnlyAt : Type 0
OnlyAt =
    (bytes : List ℕ) (m : MoleculePlaces)
    → IsBytes bytes
    → placed bytes ≡ Ok m
    → EncodesMolecule bytes (whole_fields bytes) × (m ≡ places (length bytes) (whole_fields bytes))

-- Every refusal is 13.
abbrev pub Only13At : Type 0
Only13At = (bytes : List ℕ) (n : Refusal) → placed bytes ≡ Err n → n ≡ Broken

-- What stands at some places.
abbrev pub taken : List ℕ → Option Span → Option (List ℕ)
taken bytes None = None
taken bytes (Some s) = Some (part s.offset s.length bytes)

abbrev pub strand_taken : List ℕ → Option StrandPlaces → Option StrandParts
strand_taken bytes None = None
strand_taken bytes (Some s) = Some (record {
  bases = part s.bases.offset s.bases.length bytes;
  quals = part s.quals.offset s.quals.length bytes;
  depths = part s.depths.offset s.depths.length bytes;
  errors = part s.errors.offset s.errors.length bytes;
  annotation = taken bytes s.annotation;
})

abbrev pub molecule_taken : List ℕ → Result MoleculePlaces Refusal → Result MoleculeParts Refusal
molecule_taken bytes (Ok m) = Ok (record { thresholds = taken bytes m.thresholds; a = strand_taken bytes m.a; b = strand_taken bytes m.b; reads = taken bytes m.reads })
molecule_taken bytes (Err refusal) = Err refusal

-- What stands at the places is what the reader answers, which Claims' `Holds` says of fields; a refusal is its refusal.
abbrev pub HoldsAt : Type 0
HoldsAt = (bytes : List ℕ) → molecule_taken bytes (placed bytes) ≡ decoded bytes

abbrev pub of : Option Span → Option StrandPlaces → Option StrandPlaces → Option Span → Result MoleculePlaces Refusal
of thresholds a b reads = Ok (record { thresholds = thresholds; a = a; b = b; reads = reads })

-- The first four fields of a strand, each empty, whose first value is at a place.
abbrev pub empty_strand : ℕ → Option Span → Option StrandPlaces
empty_strand at annotation = Some (record { bases = span at 0; quals = span (at + 3) 0; depths = span (at + 6) 0; errors = span (at + 9) 0; annotation = annotation })

pub record SmallAt : Type 0 where
  pub no_bytes : placed [] ≡ of None None None None
  pub no_thresholds : placed (0x01 ∷ 0 ∷ 0 ∷ []) ≡ of (Some (span 3 0)) None None None
  pub one_threshold : placed (0x01 ∷ 4 ∷ 0 ∷ 1 ∷ 0 ∷ 0 ∷ 0 ∷ []) ≡ of (Some (span 3 4)) None None None
  pub a_of_none : placed (empty (0x10 ∷ 0x11 ∷ 0x12 ∷ 0x13 ∷ [])) ≡ of None (empty_strand 3 None) None None
  pub b_of_none : placed (empty (0x20 ∷ 0x21 ∷ 0x22 ∷ 0x23 ∷ [])) ≡ of None None (empty_strand 3 None) None
  pub both_of_none : placed (empty (0x10 ∷ 0x11 ∷ 0x12 ∷ 0x13 ∷ 0x20 ∷ 0x21 ∷ 0x22 ∷ 0x23 ∷ 0x2f ∷ [])) ≡ of None (empty_strand 3 None) (empty_strand 15 None) (Some (span 27 0))
  pub annotation_of_none : placed (empty (0x10 ∷ 0x11 ∷ 0x12 ∷ 0x13 ∷ []) ++ 0x14 ∷ 1 ∷ 0 ∷ 1 ∷ []) ≡ of None (empty_strand 3 (Some (span 15 1))) None None
  pub marked : placed (empty (0x20 ∷ 0x21 ∷ 0x22 ∷ 0x23 ∷ []) ++ 0x24 ∷ 10 ∷ 0 ∷ 0 ∷ 1 ∷ 2 ∷ 0 ∷ 0 ∷ 0 ∷ 2 ∷ 0 ∷ 0 ∷ 0 ∷ []) ≡ of None None (empty_strand 3 (Some (span 15 10))) None
  pub empty_list : placed (empty (0x2f ∷ [])) ≡ of None None None (Some (span 3 0))
  pub two_reads : placed (0x2f ∷ 0 ∷ 0 ∷ 0x30 ∷ 2 ∷ 0 ∷ 77 ∷ 0 ∷ 0x30 ∷ 3 ∷ 0 ∷ 0 ∷ 0 ∷ 65 ∷ []) ≡ of None None None (Some (span 3 11))
