-- Evidence without an annotation is not looked at. Proved in proofs/Absent.antt.
use Rattle.std.specs.Prelude.{◌≡◌, ℕ, List}
use Rattle.methylation.specs.declared.MethylationMode.{MethylationMode}
use Rattle.duplex_texts.specs.Texts.{StrandAnnotation, seen_of, duplex_texts}
use Rattle.duplex_texts.specs.Outputs.{strand_lengths}

pub record NotLookedAt : Type 0 where
  pub texts : (mode : MethylationMode) (bases : List ℕ) (a b : StrandAnnotation) → duplex_texts mode bases (seen_of a) (seen_of b) ≡ duplex_texts mode bases a b
  pub lengths : (s : StrandAnnotation) → strand_lengths (seen_of s) ≡ strand_lengths s
