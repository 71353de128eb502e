-- The outputs lent for an annotation's evidence, as arrays.
use Rattle.std.specs.Prelude.{◌≡◌, []}
use Rattle.methylation.specs.Arrays.{EvidenceArrays, evidence_arrays}
use Rattle.methylation.specs.declared.EvidenceOutputs.{EvidenceOutputs}

-- What stands in them.
abbrev pub evidence_out : EvidenceOutputs → EvidenceArrays
evidence_out out = evidence_arrays out.marks.now out.unconverted.now out.converted.now

-- What stands in none.
abbrev pub no_evidence : EvidenceArrays
no_evidence = evidence_arrays [] [] []

-- A call that was lent them left each slice where it was, so that who lent them knows what it holds.
pub record SameEvidence (before now : EvidenceOutputs) : Type 0 where
  pub marks : now.marks.ghost_name ≡ before.marks.ghost_name
  pub unconverted : now.unconverted.ghost_name ≡ before.unconverted.ghost_name
  pub converted : now.converted.ghost_name ≡ before.converted.ghost_name
