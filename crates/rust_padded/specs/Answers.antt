-- The answer of padding as numbers: the annotation that the strand keeps.
use Rattle.std.specs.Prelude.{None, Some, Option, Result, Ok, Err, ℕ}
use Rattle.refusals.specs.declared.Refusal.{Refusal}
use Rattle.refusals.specs.Refusal.{number_of}
use Rattle.methylation.specs.Choices.{pattern_number}
use Rattle.methylation.specs.declared.ConversionPattern.{ConversionPattern}
use Rattle.replies.specs.Replies.{no_number, numbered}
use Rattle.replies.specs.declared.Number.{Number}

abbrev pub annotation_number : Option ConversionPattern → ℕ
annotation_number None = 0
annotation_number (Some pattern) = pattern_number pattern

abbrev pub padded_number : Result (Option ConversionPattern) Refusal → Number
padded_number (Ok annotation) = numbered (annotation_number annotation)
padded_number (Err refusal) = no_number (number_of refusal)
