-- Nothing of a strand that is not present, or of a list that is not there, is looked at, nor evidence without an annotation. Proved in
-- proofs/Absent.antt.
use Rattle.std.specs.Prelude.{◌≡◌, Option, Bool, false, ℕ}
use Rattle.methylation.specs.declared.ConversionPattern.{ConversionPattern}
use Rattle.vanilla_caller.specs.Strand.{Arrays, arrays_seen}
use Rattle.duplex_kind.specs.Kind.{Strand, strand, record_kind}

-- An absent strand of this annotation and these arrays.
abbrev pub absent : Option ConversionPattern → Arrays → Strand
absent annotation arrays = strand false annotation arrays

-- A strand as far as its evidence is looked at.
abbrev pub seen_of : Strand → Strand
seen_of s = strand s.present s.annotation (arrays_seen s.annotation s.arrays)

pub record NotLookedAt : Type 0 where
  pub first :
      (m n : Option ConversionPattern) (x y : Arrays) (b : Strand) (listed : Bool) (count : ℕ) (leaving : Bool)
      → record_kind (absent m x) b listed count leaving ≡ record_kind (absent n y) b listed count leaving
  pub second :
      (a : Strand) (m n : Option ConversionPattern) (x y : Arrays) (listed : Bool) (count : ℕ) (leaving : Bool)
      → record_kind a (absent m x) listed count leaving ≡ record_kind a (absent n y) listed count leaving
  pub list :
      (a b : Strand) (count other : ℕ) (leaving leaves : Bool)
      → record_kind a b false count leaving ≡ record_kind a b false other leaves
  pub evidence :
      (a b : Strand) (listed : Bool) (count : ℕ) (leaving : Bool)
      → record_kind (seen_of a) (seen_of b) listed count leaving ≡ record_kind a b listed count leaving
