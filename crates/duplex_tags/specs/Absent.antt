-- Evidence without an annotation is not looked at. Proved in proofs/Absent.antt.
use Rattle.std.specs.Prelude.{List, Result, ℕ}
use Rattle.refusals.specs.declared.Refusal.{Refusal}
use Rattle.methylation.specs.declared.MethylationMode.{MethylationMode}
use Rattle.duplex_texts.specs.Texts.{StrandAnnotation, TextArrays, seen_of}
use Rattle.duplex_texts.specs.declared.TextLengths.{TextLengths}
use Rattle.duplex_tags.specs.Tags.{CountArrays}
use Rattle.duplex_tags.specs.Outputs.{DuplexTaggedAs}

abbrev pub NotLookedAt : Type 0
NotLookedAt =
    (mode : MethylationMode) (bases : List ℕ) (a b : StrandAnnotation) (texts : TextArrays) (counts : CountArrays) (texts_now : TextArrays) (counts_now : CountArrays) (r : Result TextLengths Refusal)
    → DuplexTaggedAs mode bases (seen_of a) (seen_of b) texts counts texts_now counts_now r
    → DuplexTaggedAs mode bases a b texts counts texts_now counts_now r
