-- What the reads of a molecule count for, document 01: at each position those fields 30 that reach it and whose base there is an error,
-- each once, and no others. Proved in proofs/Counted.antt.
use Rattle.std.specs.Prelude.{◌≡◌, ℕ, min, Bool, ◌&&◌, List, ltb, length, get_or}
use Rattle.lists.specs.Count.{count_of}
use Rattle.flags.specs.Flags.{is_set}
use Rattle.duplex_molecule.specs.Molecule.{is_error, ct_input}
use Rattle.source_reads.specs.Reads.{expected_at}
use Rattle.duplex_consensus.specs.Consensus.{bases_of}
use Rattle.fields.specs.Encoding.{Field, Short, encoded}
use Rattle.molecule_reads.specs.Claims.{AllReads, said}
use Rattle.duplex_kind.specs.Kind.{Strand}
use Rattle.molecule_errors.specs.Run.{run_errors}

-- A field 30 is an error at position i: it has a base there, and that is an error against what the read should show, which `expected`
-- gives for a read without flag 0x80 and for one with it.
abbrev pub field_error : (Bool → ℕ) → ℕ → Field → Bool
field_error expected i f = ltb i (length (said f).1) && is_error (get_or (said f).1 i 0) (expected (is_set (said f).0 0x80))

-- What a read should show at position i, by the bases and qualities of both strands.
abbrev pub expected_of : Strand → Strand → ℕ → Bool → ℕ
expected_of a b i = expected_at (ct_input a.annotation b.annotation) (bases_of a.arrays) (bases_of b.arrays) i

-- The errors of a record's position, held to 32,767.
abbrev pub EachCounted : Type 0
EachCounted = (a b : Strand) (fs : List Field) (i : ℕ) → Short fs → AllReads fs → run_errors a b (encoded fs) i ≡ min (count_of (field_error (expected_of a b i) i) fs) 32767
