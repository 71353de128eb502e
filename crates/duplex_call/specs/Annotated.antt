-- One position of two strands that may be annotated, document 01: base and quality, the errors' estimate, and what a source read
-- should show.
use Rattle.std.specs.Prelude.{ℕ, Bool, false, cond, ◌&&◌, Option, None, Some, eqb, ltb}
use Rattle.dna.specs.Dna.{same_letter}
use Rattle.methylation.specs.Methylation.{pattern_bases}
use Rattle.methylation.specs.declared.ConversionPattern.{ConversionPattern}
use Rattle.methylation.specs.declared.ConversionPattern.TheVariants.{CToT, GToA}
use Rattle.duplex_molecule.specs.Molecule.{call_at, is_call, same_pattern}
use Rattle.duplex_molecule.specs.declared.CtInput.{CtInput}
use Rattle.duplex_molecule.specs.declared.CtInput.TheVariants.{Neither, IsA, IsB}
use Rattle.duplex_molecule.specs.declared.MoleculeCall.{MoleculeCall}
use Rattle.duplex_position.specs.Combination.{unmasked, uncalled, called}
use Rattle.duplex_position.specs.declared.Position.{Position}
use Rattle.duplex_errors.specs.Errors.{agreeing, disagreeing}

-- Strand A is the informative one of a call of this pattern.
abbrev pub carried_by_a : CtInput → ConversionPattern → Bool
carried_by_a Neither pattern = false
carried_by_a IsA pattern = same_pattern pattern CToT
carried_by_a IsB pattern = same_pattern pattern GToA

-- Base and quality, under the lab's ceiling, of bases a and b with qualities qa and qb and informative marks ma and mb. Where the informative strand
-- shows the converted base and has no mark, the confirming strand's quality counts alone.
abbrev pub by_call : ℕ → CtInput → ℕ → ℕ → ℕ → ℕ → ℕ → ℕ → Option MoleculeCall → Position
by_call ceiling ct a qa ma b qb mb None = uncalled ceiling a qa b qb
by_call ceiling ct a qa ma b qb mb (Some c) =
    let from_a = carried_by_a ct c.pattern in
    called ceiling a qa b qb c.confirmed (same_letter c.call (pattern_bases c.pattern).converted && eqb (cond from_a ma mb) 0) (cond from_a qb qa)

unfoldable pub combined : ℕ → CtInput → ℕ → ℕ → ℕ → ℕ → ℕ → ℕ → Position
combined ceiling ct a qa ma b qb mb = by_call ceiling ct a qa ma b qb mb (call_at ct a b)

-- The errors' estimate, with depths da and db and errors ea and eb. Without a call: equal bases add the errors; else the winner's
-- and the loser's count, where A wins at equal qualities.
unfoldable pub estimated_uncalled : ℕ → ℕ → ℕ → ℕ → ℕ → ℕ → ℕ → ℕ → ℕ
estimated_uncalled a qa da ea b qb db eb =
    cond (eqb a b) (agreeing ea eb)
    (cond (ltb qa qb) (disagreeing eb da ea) (disagreeing ea db eb))

-- At a call the errors are added.
unfoldable pub estimated : CtInput → ℕ → ℕ → ℕ → ℕ → ℕ → ℕ → ℕ → ℕ → ℕ
estimated ct a qa da ea b qb db eb = cond (is_call (call_at ct a b)) (agreeing ea eb) (estimated_uncalled a qa da ea b qb db eb)

-- What a source read should show: without a call the unmasked base; at a call the informative strand's own byte where the read
-- is of the call's pattern, else the called base. `last` says that the read has the flag 0x80, which is pattern G to A.
abbrev pub shown : Bool → ℕ → Option MoleculeCall → ℕ
shown last unmasked None = unmasked
shown last unmasked (Some c) = cond (same_pattern c.pattern (cond last GToA CToT)) c.call c.confirmed

unfoldable pub expected : CtInput → ℕ → ℕ → ℕ → ℕ → Bool → ℕ
expected ct a qa b qb last = shown last (unmasked a qa b qb) (call_at ct a b)
