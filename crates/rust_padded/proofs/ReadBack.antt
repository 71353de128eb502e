-- The claims of `specs/ReadBack.antt`. Assumes nothing.
use mathlib.Core.Path.{◌≡◌, refl}
use Rattle.std.proofs.Common.{None, Some, Option, Ok}
use Rattle.methylation.specs.Choices.{annotation_of}
use Rattle.methylation.specs.declared.ConversionPattern.{ConversionPattern}
use Rattle.methylation.specs.declared.ConversionPattern.TheVariants.{CToT, GToA}
use Rattle.rust_padded.specs.Answers.{padded_number}
use Rattle.rust_padded.specs.ReadBack.{ReadBack}

annotation_back : (x : Option ConversionPattern) → annotation_of (padded_number (Ok x)).number ≡ x
annotation_back None = refl
annotation_back (Some CToT) = refl
annotation_back (Some GToA) = refl

pub read_back : ReadBack
read_back = record { refusals = λ row. refl; passes = λ x. refl; answers = annotation_back }
