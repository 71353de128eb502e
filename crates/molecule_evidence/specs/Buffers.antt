-- A call's own arrays for a strand's evidence.
use Rattle.std.specs.Prelude.{replicate}
use Rattle.methylation.specs.Arrays.{EvidenceArrays, evidence_arrays}
use Rattle.molecule_evidence.specs.declared.EvidenceBuffers.{EvidenceBuffers}

-- Of 1,024 places each, as a call begins with them.
abbrev pub zero_evidence : EvidenceArrays
zero_evidence = evidence_arrays (replicate 1024 0) (replicate 1024 0) (replicate 1024 0)

-- As the code has them.
abbrev pub buffers_in : EvidenceBuffers → EvidenceArrays
buffers_in b = evidence_arrays b.marks b.unconverted b.converted
