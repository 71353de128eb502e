-- The outputs lent for a strand, as arrays, and the strand with the annotation that it keeps.
use Rattle.std.specs.Prelude.{◌≡◌, ℕ, cond, eqb, Option, length}
use Rattle.methylation.specs.Arrays.{EvidenceArrays}
use Rattle.methylation.specs.declared.EvidenceLengths.{EvidenceLengths}
use Rattle.vanilla_caller.specs.Strand.{Arrays, plain}
use Rattle.vanilla_caller.specs.declared.Lengths.{Lengths}
use Rattle.vanilla_caller.specs.declared.VanillaConsensusRead.{VanillaConsensusRead}
use Rattle.vanilla_padded.specs.declared.StrandOutputs.{StrandOutputs}

-- What stands in them, beside what stands in those for its evidence.
abbrev pub strand_out : StrandOutputs → EvidenceArrays → Arrays
strand_out out evidence = record {
  bases = out.bases.now;
  quals = out.quals.now;
  depths = out.depths.now;
  errors = out.errors.now;
  evidence = evidence;
}

abbrev pub lengths_beside : StrandOutputs → Option EvidenceLengths → Lengths
lengths_beside out evidence = record {
  bases = length out.bases.now;
  quals = length out.quals.now;
  depths = length out.depths.now;
  errors = length out.errors.now;
  evidence = evidence;
}

-- A strand that is padded to n positions: it keeps its annotation where it has as many.
abbrev pub kept_of : VanillaConsensusRead → ℕ → VanillaConsensusRead
kept_of s n = cond (eqb (length s.bases.now) n) s (plain s)

-- A call that was lent them left each slice where it was, so that who lent them knows what it holds.
pub record SameStrand (before now : StrandOutputs) : Type 0 where
  pub bases : now.bases.ghost_name ≡ before.bases.ghost_name
  pub quals : now.quals.ghost_name ≡ before.quals.ghost_name
  pub depths : now.depths.ghost_name ≡ before.depths.ghost_name
  pub errors : now.errors.ghost_name ≡ before.errors.ghost_name
