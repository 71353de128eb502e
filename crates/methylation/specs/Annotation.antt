-- An annotation: a pattern, and the evidence that it holds. Without one there is neither.
use Rattle.std.specs.Prelude.{Option, Some, None}
use Rattle.methylation.specs.Arrays.{EvidenceArrays, evidence_in}
use Rattle.methylation.specs.Outputs.{no_evidence}
use Rattle.methylation.specs.declared.ConversionPattern.{ConversionPattern}
use Rattle.methylation.specs.declared.MethylationAnnotation.{MethylationAnnotation}

abbrev pub pattern_held : Option MethylationAnnotation → Option ConversionPattern
pattern_held None = None
pattern_held (Some m) = Some m.pattern

abbrev pub evidence_held : Option MethylationAnnotation → EvidenceArrays
evidence_held None = no_evidence
evidence_held (Some m) = evidence_in m.evidence

-- Evidence that is lent beside a pattern, or beside none, as far as it is looked at.
abbrev pub evidence_seen : Option ConversionPattern → EvidenceArrays → EvidenceArrays
evidence_seen None e = no_evidence
evidence_seen (Some pattern) e = e
