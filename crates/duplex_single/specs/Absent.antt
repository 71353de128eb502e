-- Evidence without an annotation is not looked at. Proved in proofs/Absent.antt.
use Rattle.std.specs.Prelude.{Option, Result, ℕ}
use Rattle.refusals.specs.declared.Refusal.{Refusal}
use Rattle.methylation.specs.declared.ConversionPattern.{ConversionPattern}
use Rattle.vanilla_caller.specs.Strand.{Arrays, arrays_seen}
use Rattle.duplex_outputs.specs.Outputs.{RecordArrays}
use Rattle.duplex_single.specs.Single.{SingleAs}

-- Of a strand of this annotation.
abbrev pub NotLookedAt : Type 0
NotLookedAt =
    (annotation : Option ConversionPattern) (s : Arrays) (before now : RecordArrays) (r : Result ℕ Refusal)
    → SingleAs annotation (arrays_seen annotation s) before now r
    → SingleAs annotation s before now r
