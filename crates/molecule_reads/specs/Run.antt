-- The reads of a run of encoded reads, document 01: the tray and the viewer's read list. What a read and a run are is in molecule_fields.
use Rattle.std.specs.Prelude.{ℕ, ◌+◌, ◌-◌, cond, not, Option, Some, None, Result, Ok, Err, List, [], ◌∷◌, length}
use Rattle.refusals.specs.declared.Refusal.{Refusal}
use Rattle.refusals.specs.declared.Refusal.TheVariants.{Broken}
use Rattle.fields.specs.Encoding.{Field, whole_fields, next_field, field_at}
use Rattle.fields.specs.Encoding.{FieldAt}
use Rattle.molecule_fields.specs.Widths.{is_read, flags_of, is_run}
use Rattle.refusals.specs.Outcome.{refused_if}
use Rattle.source_reads.specs.declared.SourceRead.{SourceRead}
use Rattle.molecule_reads.specs.declared.ReadCount.{ReadCount}

-- A field as a read, whose value is at a place of the run: its bases follow its flags.
abbrev pub read_of : ℕ → Field → SourceRead
read_of offset f = record { flags = flags_of f; offset = offset + 2; length = length f.value - 2 }

-- The reads of some fields whose bytes begin at a place, up to the first field that is none.
unfoldable pub reads_from : ℕ → List Field → List SourceRead
reads_from at [] = []
reads_from at (f ∷ fs) = cond (is_read f) (read_of (at + 3) f ∷ reads_from (at + 3 + length f.value) fs) []

unfoldable pub reads_of : List ℕ → List SourceRead
reads_of run = reads_from 0 (whole_fields run)

-- What begins at a place of a run, by the field that begins there.
abbrev pub read_at : List ℕ → Result (Option FieldAt) Refusal → Result (Option SourceRead) Refusal
read_at run (Ok None) = Ok None
read_at run (Ok (Some f)) = cond (is_read (field_at run f)) (Ok (Some (read_of f.offset (field_at run f)))) (Err Broken)
read_at run (Err refusal) = Err refusal

unfoldable pub next_read : List ℕ → ℕ → Result (Option SourceRead) Refusal
next_read run at = read_at run (next_field run at)

-- How many reads a run has, up to its end or to where it is broken, which is refused.
abbrev pub counted : List ℕ → ReadCount
counted run = record { count = length (reads_of run); whole = refused_if (not (is_run run)) Broken }
