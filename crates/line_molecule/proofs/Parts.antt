-- A molecule's strands and reads. Assumes nothing.
use mathlib.Core.Path.{◌≡◌}
use mathlib.Core.List.{List}
use Prim.Native.Nat.{ℕ}
use denote.Ref.{Bor}
use Rattle.std.proofs.Common.{Option, None, Some}
use Rattle.std.specs.Prelude.{is_some}
use Rattle.molecule_errors.specs.Run.{run_in}
use Rattle.molecule_encoding.specs.Parts.{value_in, parts_in}
use Rattle.molecule_encoding.specs.declared.Molecule.{Molecule}
use Rattle.molecule_strand.specs.Strand.{StrandBytes}
use Rattle.line_record.specs.Line.{Holds}
use Rattle.line_record.specs.declared.Line.{Line}
use Rattle.line_strands.specs.Strands.{strands_text}
use Rattle.line_molecule.specs.Line.{value_or, strand_in, parts_of, read_text}

-- The text for a molecule's strands and reads, from those of the code.
pub read_is :
    (thresholds : List ℕ) (m : Molecule) {a b : StrandBytes} {r : Line}
    → a ≡ strand_in (parts_in m.a)
    → b ≡ strand_in (parts_in m.b)
    → Holds (strands_text thresholds a b (is_some m.reads) (run_in m.reads)) r
    → Holds (read_text thresholds (parts_of m)) r
unfolding read_text
read_is thresholds m {a} {b} {r} ea eb h = rw (← ea, ← eb) (go m.reads h)
  where
    go : (run : Option (Bor (List ℕ))) → Holds (strands_text thresholds a b (is_some run) (run_in run)) r → Holds (strands_text thresholds a b (is_some (value_in run)) (value_or (value_in run))) r
    go None h = h
    go (Some run) h = h
