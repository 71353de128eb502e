-- The claim of specs/Choices.antt. Assumes nothing.
use mathlib.Core.Path.{refl}
use Rattle.methylation.specs.declared.ConversionPattern.TheVariants.{CToT, GToA}
use Rattle.methylation.specs.Choices.{PatternBack}

pub pattern_back : PatternBack
pattern_back CToT = refl
pattern_back GToA = refl
