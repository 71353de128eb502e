-- The position at a call of a pattern, by which strand is of pattern C to T.
use Rattle.std.specs.Prelude.{ℕ, Bool, true, false, cond, not, ◌&&◌, eqb}
use Rattle.dna.specs.Dna.{same_letter}
use Rattle.methylation.specs.Methylation.{pattern_bases}
use Rattle.methylation.specs.declared.ConversionPattern.{ConversionPattern}
use Rattle.methylation.specs.declared.ConversionPattern.TheVariants.{CToT, GToA}
use Rattle.duplex_molecule.specs.declared.CtInput.{CtInput}
use Rattle.duplex_molecule.specs.declared.CtInput.TheVariants.{Neither, IsA, IsB}
use Rattle.duplex_position.specs.Combination.{called}
use Rattle.duplex_position.specs.declared.Position.{Position}

-- The strand of pattern C to T is B.
abbrev pub is_b : CtInput → Bool
is_b Neither = false
is_b IsA = false
is_b IsB = true

-- B is the informative strand of a call of this pattern.
abbrev pub by_b : ConversionPattern → CtInput → Bool
by_b CToT ct = is_b ct
by_b GToA ct = not (is_b ct)

unfoldable pub at_call : ℕ → ConversionPattern → CtInput → ℕ → ℕ → ℕ → ℕ → ℕ → ℕ → Position
at_call ceiling pattern ct a qa ma b qb mb =
    let from_b = by_b pattern ct in
    called ceiling a qa b qb (pattern_bases pattern).reference
    (same_letter (cond from_b b a) (pattern_bases pattern).converted && eqb (cond from_b mb ma) 0)
    (cond from_b qa qb)
