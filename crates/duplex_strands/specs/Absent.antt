-- Evidence without an annotation is not looked at. Proved in proofs/Absent.antt.
use Rattle.std.specs.Prelude.{Option, Result, ℕ, Bool}
use Rattle.refusals.specs.declared.Refusal.{Refusal}
use Rattle.settings.specs.declared.GivenSettings.{GivenSettings}
use Rattle.methylation.specs.declared.ConversionPattern.{ConversionPattern}
use Rattle.vanilla_caller.specs.Strand.{Arrays, arrays_seen}
use Rattle.duplex_molecule.specs.Molecule.{ct_input}
use Rattle.duplex_outputs.specs.Outputs.{RecordArrays}
use Rattle.duplex_strands.specs.Combine.{CombinedAs}

-- Of strands of these annotations.
abbrev pub NotLookedAt : Type 0
NotLookedAt =
    (lab : GivenSettings) (ma : Option ConversionPattern) (a : Arrays) (mb : Option ConversionPattern) (b : Arrays) (listed : Bool) (before now : RecordArrays) (r : Result ℕ Refusal)
    → CombinedAs lab (ct_input ma mb) ma (arrays_seen ma a) mb (arrays_seen mb b) listed before now r
    → CombinedAs lab (ct_input ma mb) ma a mb b listed before now r
