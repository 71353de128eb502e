-- The reads of a run, document 01: the tray's and the viewer's read list. Claims about `reads_of` and `is_run`, told from the side of a
-- writer: a run is the encoding of fields that are reads; and about `next_read`, told from that of a reader. Proved in proofs/Claims.antt.
use Rattle.std.specs.Prelude.{◌≡◌, ℕ, ◌+◌, ◌*◌, ◌≤◌, true, false, Some, None, Ok, Err, List, [], ◌∷◌, map, length, drop, get_or}
use Rattle.refusals.specs.declared.Refusal.{Refusal}
use Rattle.lists.specs.Part.{part}
use Rattle.fields.specs.Encoding.{Field, Short, IsBytes, Encodes, encoded, whole_fields}
use Rattle.molecule_fields.specs.Widths.{is_run}
use Rattle.source_reads.specs.Reads.{any_leaves}
use Rattle.source_reads.specs.declared.SourceRead.{SourceRead}
use Rattle.molecule_reads.specs.Run.{reads_from, reads_of, next_read}

-- Fields that are reads: the tag 30, and two bytes of flags before the bases.
abbrev pub AllReads : List Field → Type 0
AllReads [] = Unit {0}
AllReads (f ∷ fs) = ((f.tag ≡ 0x30) × (2 ≤ length f.value)) × AllReads fs

-- What such a field says: its flags, low byte first, and its bases.
abbrev pub said : Field → ℕ × List ℕ
said f = (get_or f.value 0 0 + 256 * get_or f.value 1 0, drop 2 f.value)

-- What a read of a run shows: its flags, and its part of the run.
abbrev pub shown : List ℕ → SourceRead → ℕ × List ℕ
shown run read = (read.flags, part read.offset read.length run)

-- The reads of some fields' run are these fields, each with its flags and bases, in order, and there are no others; the run is whole,
-- and no read's part leaves it.
pub record ReadsAre (fs : List Field) : Type 0 where
  pub reads : map (shown (encoded fs)) (reads_of (encoded fs)) ≡ map said fs
  pub whole : is_run (encoded fs) ≡ true
  pub stay : any_leaves (length (encoded fs)) (reads_of (encoded fs)) ≡ false

-- What the format says is a run is one, with the reads that it says.
abbrev pub EachRead : Type 0
EachRead = (fs : List Field) → Short fs → AllReads fs → ReadsAre fs

-- What is a run is what the format says: the encoding of fields that are reads.
abbrev pub OnlyReads : Type 0
OnlyReads = (run : List ℕ) → IsBytes run → is_run run ≡ true → Encodes run (whole_fields run) × AllReads (whole_fields run)

-- The reads of a run from a place on. From its begin on they are all its reads.
abbrev pub reads_at : List ℕ → ℕ → List SourceRead
reads_at run at = reads_from at (whole_fields (drop at run))

-- The read that begins at a place is the first from there on, and the next one begins at its offset plus its length. Where none begins,
-- none is left.
pub record NextReads : Type 0 where
  pub from_begin : (run : List ℕ) → reads_of run ≡ reads_at run 0
  pub further : (run : List ℕ) (at : ℕ) (read : SourceRead) → next_read run at ≡ Ok (Some read) → reads_at run at ≡ read ∷ reads_at run (read.offset + read.length)
  pub at_end : (run : List ℕ) (at : ℕ) → next_read run at ≡ Ok None → reads_at run at ≡ []
  pub at_break : (run : List ℕ) (at : ℕ) (refusal : Refusal) → next_read run at ≡ Err refusal → reads_at run at ≡ []
