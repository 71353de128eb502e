-- Evidence without an annotation is not looked at. Proved in proofs/Absent.antt.
use Rattle.std.specs.Prelude.{Option, Result}
use Rattle.refusals.specs.declared.Refusal.{Refusal}
use Rattle.methylation.specs.declared.ConversionPattern.{ConversionPattern}
use Rattle.vanilla_caller.specs.Strand.{Arrays, arrays_seen}
use Rattle.vanilla_padded.specs.Padding.{Padding, PaddedAs}

-- Of a strand of this annotation.
abbrev pub NotLookedAt : Type 0
NotLookedAt =
    (annotation : Option ConversionPattern) (s : Arrays) (p : Padding) (before now : Arrays) (r : Result (Option ConversionPattern) Refusal)
    → PaddedAs annotation (arrays_seen annotation s) p before now r
    → PaddedAs annotation s p before now r
