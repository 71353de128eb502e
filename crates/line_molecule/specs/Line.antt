-- What duplexline prints for an encoded molecule, document 01: the line program, and its input the tray.
use Rattle.std.specs.Prelude.{Option, None, Some, Result, Ok, Err, is_some, ℕ, ◌≤◌, ◌≡◌, true, false, List, [], length, drop, get_or, replicate}
use Rattle.lists.specs.Output.{put}
use Rattle.refusals.specs.declared.Refusal.{Refusal}
use Rattle.refusals.specs.Refusal.{number_of}
use Rattle.byte_numbers.specs.Bytes.{words32}
use Rattle.molecule_encoding.specs.Format.{StrandParts, MoleculeParts, decoded}
use Rattle.molecule_encoding.specs.Parts.{value_in, parts_in}
use Rattle.molecule_encoding.specs.declared.Molecule.{Molecule}
use Rattle.duplex_min_reads.specs.MinReads.{refused}
use Rattle.molecule_strand.specs.Strand.{StrandBytes, encoded_annotation, strand_bytes}
use Rattle.line_format.specs.Line.{refused_text}
use Rattle.line_record.specs.Line.{Holds}
use Rattle.line_record.specs.declared.Line.{Line}
use Rattle.line_strands.specs.Strands.{strands_text}
use Rattle.methylation.specs.declared.ConversionPattern.{ConversionPattern}

-- A value that may be absent, by its bytes; without one there are none.
abbrev pub value_or : Option (List ℕ) → List ℕ
value_or None = []
value_or (Some value) = value

-- The thresholds of a molecule; no field 01 is none.
abbrev pub thresholds_of : MoleculeParts → List ℕ
thresholds_of m = words32 (value_or m.thresholds)

-- An annotation's value is its pattern byte and then the evidence.
abbrev pub annotation_in : Option (List ℕ) → Option ConversionPattern
annotation_in value = encoded_annotation (is_some value) (get_or (value_or value) 0 0)

-- A strand of a molecule.
abbrev pub strand_in : Option StrandParts → StrandBytes
strand_in None = strand_bytes false None [] [] [] [] []
strand_in (Some s) = strand_bytes true (annotation_in s.annotation) s.bases s.quals s.depths s.errors (drop 1 (value_or s.annotation))

-- The text for the strands of a molecule and its reads.
unfoldable pub read_text : List ℕ → MoleculeParts → List ℕ
read_text thresholds m = strands_text thresholds (strand_in m.a) (strand_in m.b) (is_some m.reads) (value_or m.reads)

-- A refusal of the thresholds ends the run before the strands are looked at.
abbrev pub text_unless : Option Refusal → List ℕ → List ℕ
text_unless None text = text
text_unless (Some refusal) text = refused_text (number_of refusal)

unfoldable pub molecule_text : MoleculeParts → List ℕ
molecule_text m = text_unless (refused (thresholds_of m)) (read_text (thresholds_of m) m)

-- The text for some bytes: where they are no molecule, the refusal's.
abbrev pub decoded_text : Result MoleculeParts Refusal → List ℕ
decoded_text (Err refusal) = refused_text (number_of refusal)
decoded_text (Ok m) = molecule_text m

unfoldable pub text_of : List ℕ → List ℕ
text_of bytes = decoded_text (decoded bytes)

-- What a text is returned in: its length, and its bytes at the front of an array of zeros.
pub record TextIn (text : List ℕ) (r : Line) : Type 0 where
  pub size : r.length ≡ length text
  pub bytes : r.bytes ≡ put text (replicate 12288 0)
  pub most : r.length ≤ 12288
  pub within : r.length ≤ length r.bytes

-- A molecule as the code has it.
abbrev pub parts_of : Molecule → MoleculeParts
parts_of m = record { thresholds = value_in m.thresholds; a = parts_in m.a; b = parts_in m.b; reads = value_in m.reads }
