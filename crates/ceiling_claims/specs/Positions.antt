-- One position of two strands, at any ceiling and at two of them. Proved in proofs/Positions.antt.
use Rattle.std.specs.Prelude.{◌≡◌, ℕ, ◌≤◌, min}
use Rattle.phred.specs.Phred.{max_phred, capped_quality}
use Rattle.duplex_molecule.specs.declared.CtInput.{CtInput}
use Rattle.duplex_position.specs.Combination.{masked}
use Rattle.duplex_position.specs.declared.Position.{Position}
use Rattle.duplex_call.specs.Annotated.{combined}

-- Two ceilings that a lab may choose, of which one is not above the other.
pub record Ceilings (lower higher : ℕ) : Type 0 where
  pub least : 3 ≤ lower
  pub order : lower ≤ higher
  pub most : higher ≤ max_phred

-- A position before its quality is held: a base, and a quality that may be any number. Neither takes a ceiling. At every ceiling, one that
-- a lab may choose or not, the position is that base with that quality, held to 2 and the ceiling, and then masked.
pub record Unheld (ct : CtInput) (a qa ma b qb mb : ℕ) : Type 0 where
  pub base : ℕ
  pub qual : ℕ
  pub held : (ceiling : ℕ) → combined ceiling ct a qa ma b qb mb ≡ masked a b base (capped_quality ceiling qual)

-- So the ceiling stands in one place of a position's definition.
abbrev pub InOnePlace : Type 0
InOnePlace = (ct : CtInput) (a qa ma b qb mb : ℕ) → Unheld ct a qa ma b qb mb

-- A position at the lower of two ceilings, and the same at the higher: the same base, and of the quality there what the lower lets pass.
pub record Lowered (ceiling : ℕ) (lower higher : Position) : Type 0 where
  pub base : lower.base ≡ higher.base
  pub qual : lower.qual ≡ min ceiling higher.qual

-- Whatever the strands show, at a call or not.
abbrev pub AtAPosition : Type 0
AtAPosition =
    (lower higher : ℕ) (ct : CtInput) (a qa ma b qb mb : ℕ)
    → Ceilings lower higher
    → Lowered lower (combined lower ct a qa ma b qb mb) (combined higher ct a qa ma b qb mb)
