-- Where a program says whether something is there, and what two numbers stand for.
use Rattle.std.specs.Prelude.{ℕ, Bool, cond, not, ◌||◌, eqb, Option, Result, Ok, Err}
use Rattle.refusals.specs.declared.Refusal.{Refusal}
use Rattle.refusals.specs.declared.Refusal.TheVariants.{Broken}
use Rattle.methylation.specs.declared.ConversionPattern.{ConversionPattern}
use Rattle.methylation.specs.Choices.{annotation_of, wrong_annotation}

-- Whether something is there: 0 is no, any other number yes.
abbrev pub yes : ℕ → Bool
yes number = not (eqb number 0)

-- The annotations of two strands, each of which is tested.
abbrev pub annotations_in : ℕ → ℕ → Result (Option ConversionPattern × Option ConversionPattern) Refusal
annotations_in a b = cond (wrong_annotation a || wrong_annotation b) (Err Broken) (Ok (annotation_of a, annotation_of b))
