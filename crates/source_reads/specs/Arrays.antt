-- The arrays that say what reads should show, document 01, as lists.
use Rattle.std.specs.Prelude.{ℕ, List}
use Rattle.duplex_molecule.specs.declared.CtInput.{CtInput}
use Rattle.source_reads.specs.declared.CombinedBases.{CombinedBases}
use Rattle.source_reads.specs.declared.ShownBases.{ShownBases}
use Rattle.source_reads.specs.declared.StrandBases.{StrandBases}

-- A strand's bases and qualities.
pub record BaseArrays : Type 0 where
  pub bases : List ℕ
  pub quals : List ℕ

-- Those of strands A and B, which of them is the C-to-T one, and how many positions are asked for.
pub record CombinedArrays : Type 0 where
  pub ct : CtInput
  pub positions : ℕ
  pub a : BaseArrays
  pub b : BaseArrays

-- What reads without flag 0x80 should show and those with it, and how many positions are asked for.
pub record ShownArrays : Type 0 where
  pub positions : ℕ
  pub first : List ℕ
  pub last : List ℕ

-- Those that are lent.
abbrev pub bases_in : StrandBases → BaseArrays
bases_in s = record { bases = s.bases.now; quals = s.quals.now }

abbrev pub combined_in : CombinedBases → CombinedArrays
combined_in s = record { ct = s.ct; positions = s.positions; a = bases_in s.a; b = bases_in s.b }

abbrev pub shown_in : ShownBases → ShownArrays
shown_in s = record { positions = s.positions; first = s.first.now; last = s.last.now }

-- The same strands, of which other positions are asked for.
abbrev pub asked : ℕ → CombinedArrays → CombinedArrays
asked n s = record { ct = s.ct; positions = n; a = s.a; b = s.b }
