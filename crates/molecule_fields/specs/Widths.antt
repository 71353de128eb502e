-- A field of an encoded molecule by itself, the tray of document 01: its tag, the widths of its value, an annotation's pattern and
-- marks, and what a read is.
use Rattle.std.specs.Prelude.{ℕ, ◌+◌, ◌*◌, ◌/◌, ◌%◌, Bool, not, ◌&&◌, ◌||◌, List, [], ◌∷◌, eqb, leb, length, drop, get_or}
use Rattle.lists.specs.Every.{every, among}
use Rattle.lists.specs.Table.{tabulate}
use Rattle.byte_numbers.specs.Bytes.{word}
use Rattle.fields.specs.Encoding.{Field, whole_fields, cut_field}

-- Where the first holds, so does the second.
abbrev pub implies : Bool → Bool → Bool
implies a b = not a || b

-- Bases, qualities, depths, errors and annotation of a strand, whose first tag is given.
abbrev pub strand_tag : ℕ → ℕ → Bool
strand_tag first tag = leb first tag && leb tag (first + 4)

-- Thresholds, strand A, strand B, the read list's marker, a read.
unfoldable pub known_tag : ℕ → Bool
known_tag tag = eqb tag 0x01 || (strand_tag 0x10 tag || (strand_tag 0x20 tag || (eqb tag 0x2f || eqb tag 0x30)))

-- Depths and errors.
abbrev pub word_tags : List ℕ
word_tags = 0x12 ∷ 0x13 ∷ 0x22 ∷ 0x23 ∷ []

abbrev pub annotation_tags : List ℕ
annotation_tags = 0x14 ∷ 0x24 ∷ []

-- A tag and a length of a read: the tag 30, and two bytes of flags before the bases.
abbrev pub read_field : ℕ → ℕ → Bool
read_field tag n = eqb tag 0x30 && leb 2 n

-- A length fits the widths: 4 bytes a threshold, 2 a depth or an error, 1 and 9 a position of an annotation, none of the list's
-- marker, a read's. Bases and qualities have any.
unfoldable pub length_fits : ℕ → ℕ → Bool
length_fits tag n =
    implies (eqb tag 0x01) (eqb (n % 4) 0)
    && (implies (among tag word_tags) (eqb (n % 2) 0)
    && (implies (among tag annotation_tags) (eqb (n % 9) 1)
    && (implies (eqb tag 0x2f) (eqb n 0)
    && implies (eqb tag 0x30) (read_field tag n))))

-- 0 or 1.
abbrev pub is_bit : ℕ → Bool
is_bit byte = leb byte 1

-- The marks of an annotation: the first of each position's nine bytes, after the pattern.
unfoldable pub marks : List ℕ → List ℕ
marks value = tabulate (length value / 9) (λ i. get_or value (9 * i + 1) 0)

-- An annotation's pattern and marks are 0 or 1.
unfoldable pub bits_fit : Field → Bool
bits_fit f = implies (among f.tag annotation_tags) (is_bit (get_or f.value 0 0) && every is_bit (marks f.value))

-- A field by itself.
unfoldable pub well_formed : Field → Bool
well_formed f = known_tag f.tag && (length_fits f.tag (length f.value) && bits_fit f)

abbrev pub is_read : Field → Bool
is_read f = read_field f.tag (length f.value)

-- A read's flags, low byte first, and the bases after them.
unfoldable pub flags_of : Field → ℕ
flags_of f = word (get_or f.value 0 0) (get_or f.value 1 0)

abbrev pub bases_of : Field → List ℕ
bases_of f = drop 2 f.value

-- A run of reads: whole fields, and each a read.
unfoldable pub is_run : List ℕ → Bool
is_run bytes = not (cut_field bytes) && every is_read (whole_fields bytes)
