-- What an encoded molecule is, document 01's tray: claims about the reader's definition, `decoded`. The format is told from the side
-- of a writer: which bytes stand for some fields (`encoded`, of crates/fields) and which fields are a molecule (`valid`).
--     Accepts, Only     what the format says is accepted, and what is accepted is what the format says
--     Only13            all else is refused by 13
--     Holds             what an accepted molecule's parts are, its reads among them
--     Small             small molecules, and bytes that are none: a row for each cause of 13 and for each edge of the format
-- Proved in proofs/Claims.antt, proofs/Parts.antt and proofs/Examples.antt.
use Rattle.std.specs.Prelude.{◌≡◌, ℕ, ◌+◌, ◌≤◌, true, cond, Option, Some, None, Ok, Err, List, [], ◌∷◌, eqb, length, is_some, unwrap_or}
use Rattle.fields.specs.Encoding.{Field, Encodes, IsBytes, encoded, whole_fields}
use Rattle.refusals.specs.declared.Refusal.{Refusal}
use Rattle.refusals.specs.declared.Refusal.TheVariants.{Broken}
use Rattle.molecule_encoding.specs.Format.{StrandParts, MoleculeParts, has, valid, molecule, decoded, value_of}

-- Bytes that the format allows for some fields.
pub record EncodesMolecule (bytes : List ℕ) (fs : List Field) : Type 0 where
  pub encodes : Encodes bytes fs
  pub small : length bytes ≤ 65536
  pub is_valid : valid fs ≡ true

-- What the format says is accepted, as the molecule of its fields.
abbrev pub Accepts : Type 0
Accepts = (bytes : List ℕ) (fs : List Field) → EncodesMolecule bytes fs → decoded bytes ≡ Ok (molecule bytes fs)

-- What is accepted is what the format says: its whole fields are a molecule's, the bytes are their encoding and no more, and the
-- answer is their molecule.
abbrev pub Only : Type 0
Only =
    (bytes : List ℕ) (m : MoleculeParts)
    → IsBytes bytes
    → decoded bytes ≡ Ok m
    → EncodesMolecule bytes (whole_fields bytes) × (m ≡ molecule bytes (whole_fields bytes))

-- Every refusal is 13.
abbrev pub Only13 : Type 0
Only13 = (bytes : List ℕ) (refusal : Refusal) → decoded bytes ≡ Err refusal → refusal ≡ Broken

-- A part of a strand that may be absent.
abbrev pub part_of : (StrandParts → Option (List ℕ)) → Option StrandParts → Option (List ℕ)
part_of f None = None
part_of f (Some s) = f s

-- The fields with a tag, in order.
unfoldable pub with_tag : ℕ → List Field → List Field
with_tag tag [] = []
with_tag tag (f ∷ fs) = cond (eqb f.tag tag) (f ∷ with_tag tag fs) (with_tag tag fs)

-- A strand is there where its fields are, and has their values.
pub record StrandIs (fs : List Field) (first : ℕ) (s : Option StrandParts) : Type 0 where
  pub bases : part_of (λ (x : StrandParts). Some x.bases) s ≡ value_of first fs
  pub quals : part_of (λ (x : StrandParts). Some x.quals) s ≡ value_of (first + 1) fs
  pub depths : part_of (λ (x : StrandParts). Some x.depths) s ≡ value_of (first + 2) fs
  pub errors : part_of (λ (x : StrandParts). Some x.errors) s ≡ value_of (first + 3) fs
  pub annotation : part_of (λ (x : StrandParts). x.annotation) s ≡ value_of (first + 4) fs

-- The parts by their tags. The reads are a list where the marker stands, and their bytes are those of the fields 30: all of them,
-- in order, and nothing else.
pub record PartsAre (fs : List Field) (m : MoleculeParts) : Type 0 where
  pub thresholds : m.thresholds ≡ value_of 0x01 fs
  pub a : StrandIs fs 0x10 m.a
  pub b : StrandIs fs 0x20 m.b
  pub listed : is_some m.reads ≡ has 0x2f fs
  pub reads : unwrap_or m.reads [] ≡ encoded (with_tag 0x30 fs)

-- What an accepted molecule's parts are.
abbrev pub Holds : Type 0
Holds = (bytes : List ℕ) (fs : List Field) (m : MoleculeParts) → EncodesMolecule bytes fs → decoded bytes ≡ Ok m → PartsAre fs m
