-- A call's own arrays for a strand's numbers.
use Rattle.std.specs.Prelude.{replicate}
use Rattle.methylation.specs.Arrays.{evidence_arrays}
use Rattle.duplex_kind.specs.Kind.{Strand}
use Rattle.molecule_strand.specs.Strand.{StrandBytes, Numbers, numbers, numbers_strand}
use Rattle.molecule_consensus.specs.declared.StrandBuffers.{StrandBuffers}

-- As the code has them.
abbrev pub numbers_in : StrandBuffers → Numbers
numbers_in b = numbers b.depths b.errors b.evidence.marks b.evidence.unconverted b.evidence.converted

-- Of 1,024 places each, as a call begins with them.
abbrev pub zero_numbers : Numbers
zero_numbers = numbers (replicate 1024 0) (replicate 1024 0) (replicate 1024 0) (replicate 1024 0) (replicate 1024 0)

-- The strand whose numbers are at their front.
abbrev pub strand_read : StrandBytes → Numbers → Strand
strand_read s n = numbers_strand s n.depths n.errors (evidence_arrays n.marks n.unconverted n.converted)
