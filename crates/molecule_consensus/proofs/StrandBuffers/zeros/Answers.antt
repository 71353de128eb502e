-- `molecule_consensus::StrandBuffers::zeros` meets its contract: all arrays are zeros, those for evidence too. Assumes nothing.
use mathlib.Core.Path.{ap}
use lib.ListN.{replicate}
use Rattle.methylation.specs.Arrays.{EvidenceArrays}
use Rattle.molecule_strand.specs.Strand.{numbers}
use Rattle.molecule_consensus.proofs.StrandBuffers.zeros.Goals as goal

pub returns : goal.returns
returns c = ap (λ (e : EvidenceArrays). numbers (replicate 1024 0) (replicate 1024 0) e.marks e.unconverted e.converted) c.zeros.ensures
