-- What duplexline prints for every input, document 01's line program on the tray: a refusal alone, and which, or else `none` or a
-- record's two lines. The rows' conditions are written out here over the molecule's fields, as the document has them; the text's own
-- definition asks the calls that duplexline makes.
--     Refuses       the text is `refused n` exactly where n is the first row that is met
--     Otherwise     and where none is, it is `none` or a record's two lines: no call of a gate or of the metrics refuses a record that
--                   the molecule has, and there is no 13 after the thresholds
--     TheReads      the reads of a molecule are its fields 30, in order, flags and bases, and no others
-- Proved in proofs/Refuses.antt and proofs/Molecule.antt.
use Rattle.std.specs.Prelude.{Option, Some, None, Ok, unwrap_or, option_map, ◌≡◌, ◌↔◌, ℕ, ◌+◌, ◌-◌, ◌/◌, Bool, cond, not, ◌&&◌, ◌||◌, List, [], ◌∷◌, map, eqb, ltb, length, get_or}
use Rattle.refusals.specs.declared.Refusal.{Refusal}
use Rattle.refusals.specs.declared.Refusal.TheVariants.{Broken, NoThresholds, TooManyThresholds, XyAboveTotal, YxAboveXy, TooLong, Ragged, TooManyReads}
use Rattle.refusals.specs.Refusal.{Fault, ◌if◌, number_of, too_long, ragged, too_many, refused}
use Rattle.byte_numbers.specs.Bytes.{words32}
use Rattle.fields.specs.Encoding.{Field, IsBytes, whole_fields}
use Rattle.molecule_encoding.specs.Format.{MoleculeParts, has, accepted, decoded, value_of}
use Rattle.molecule_encoding.specs.Claims.{with_tag}
use Rattle.molecule_reads.specs.Run.{reads_of}
use Rattle.molecule_reads.specs.Claims.{said, shown}
use Rattle.metrics_bits.specs.declared.MetricsBits.{MetricsBits}
use Rattle.line_format.specs.Line.{Columns, line_text, none_text, refused_text}
use Rattle.line_format.specs.declared.Kind.{Kind}
use Rattle.line_molecule.specs.Line.{text_of}

-- How many bytes the value of a tag has: none where no field has the tag.
abbrev pub size : ℕ → List Field → ℕ
size tag fs = length (unwrap_or (value_of tag fs) [])

-- How many positions each array of a strand has, whose first tag is given: a byte a position for bases and qualities, two for depths
-- and errors, and nine for the evidence behind an annotation's pattern, which counts where there is an annotation.
unfoldable pub places : ℕ → List Field → List ℕ
places first fs =
    size first fs
    ∷ size (first + 1) fs
    ∷ size (first + 2) fs / 2
    ∷ size (first + 3) fs / 2
    ∷ cond (has (first + 4) fs) ((size (first + 4) fs - 1) / 9 ∷ []) []

-- The rows that are tested of a molecule, given its thresholds and its fields.
unfoldable pub molecule_faults : List ℕ → List Field → List Fault
molecule_faults ts fs =
    (NoThresholds if eqb (length ts) 0)
    ∷ (TooManyThresholds if ltb 3 (length ts))
    ∷ (XyAboveTotal if (ltb 1 (length ts) && ltb (get_or ts 0 0) (get_or ts 1 0)))
    ∷ (YxAboveXy if (ltb 2 (length ts) && ltb (get_or ts 1 0) (get_or ts 2 0)))
    ∷ (TooLong if (too_long (places 0x10 fs) || too_long (places 0x20 fs)))
    ∷ (Ragged if (ragged (places 0x10 fs) || ragged (places 0x20 fs)))
    ∷ (TooManyReads if too_many (length (with_tag 0x30 fs) ∷ []))
    ∷ []

-- The rows that are tested of some bytes: that they are a molecule, and then these of its fields. What `accepted` is, both ways, is
-- said in molecule_encoding's claims.
unfoldable pub line_faults : List ℕ → List Fault
line_faults bytes = (Broken if not (accepted bytes)) ∷ molecule_faults (words32 (unwrap_or (value_of 0x01 (whole_fields bytes)) [])) (whole_fields bytes)

-- The first that is met, by the table's one order, if any is.
abbrev pub line_refused : List ℕ → Option Refusal
line_refused bytes = refused (line_faults bytes)

-- The text for some bytes is a refusal exactly where a row is met, and is that of the first one.
abbrev pub Refuses : Type 0
Refuses = (bytes : List ℕ) (n : ℕ) → IsBytes bytes → text_of bytes ≡ refused_text n ↔ option_map number_of (line_refused bytes) ≡ Some n

-- A text that is `none`, or the header and the line of a record.
pub data Printed (text : List ℕ) : Type 0 where
  none : text ≡ none_text → Printed text
  record_line : (kind : Kind) (kept : Bool) (c : Columns) (metrics : MetricsBits) → text ≡ line_text kind kept c metrics → Printed text

-- Otherwise it is one of these.
abbrev pub Otherwise : Type 0
Otherwise = (bytes : List ℕ) → IsBytes bytes → line_refused bytes ≡ None → Printed (text_of bytes)

-- The reads that duplexline counts are the molecule's fields 30.
abbrev pub TheReads : Type 0
TheReads =
    (bytes : List ℕ) (m : MoleculeParts)
    → IsBytes bytes
    → decoded bytes ≡ Ok m
    → map (shown (unwrap_or m.reads [])) (reads_of (unwrap_or m.reads [])) ≡ map said (with_tag 0x30 (whole_fields bytes))
