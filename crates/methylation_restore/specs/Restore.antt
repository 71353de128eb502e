-- Restoring a sequence by a strand's annotation, document 01: informative T to C, or A to G, any case.
use Rattle.std.specs.Prelude.{None, Some, Option, ℕ, Bool, cond, ◌&&◌, ◌||◌, List, [], ◌∷◌, length, get_or}
use Rattle.lists.specs.Table.{tabulate}
use Rattle.refusals.specs.declared.Refusal.{Refusal}
use Rattle.refusals.specs.declared.Refusal.TheVariants.{TooLong, Ragged, OutputTooShort}
use Rattle.refusals.specs.Refusal.{Fault, ◌if◌, too_long, ragged, too_short, refused}
use Rattle.dna.specs.Dna.{same_letter}
use Rattle.methylation.specs.Methylation.{pattern_bases, is_annotated}
use Rattle.methylation.specs.declared.ConversionPattern.{ConversionPattern}
use Rattle.methylation.specs.declared.PatternBases.{PatternBases}
use Rattle.methylation.specs.Arrays.{informative}

-- At an informative position the converted base, in any case, becomes the unconverted letter. Every other base stays.
abbrev pub restored_base : PatternBases → ℕ → ℕ → ℕ
restored_base letters mark base = cond (informative mark && same_letter base letters.converted) letters.unconverted base

-- The base at a position, by its mark.
abbrev pub restored_at : PatternBases → List ℕ → List ℕ → ℕ → ℕ
restored_at letters marks bases i = restored_base letters (get_or marks i 0) (get_or bases i 0)

-- The first n positions.
abbrev pub restored_to : ℕ → PatternBases → List ℕ → List ℕ → List ℕ
restored_to n letters marks bases = tabulate n (restored_at letters marks bases)

-- The whole sequence.
abbrev pub restored : ConversionPattern → List ℕ → List ℕ → List ℕ
restored pattern marks bases = restored_to (length bases) (pattern_bases pattern) marks bases

-- By how many bases and how many marks there are.
abbrev pub restore_faults : ℕ → ℕ → List Fault
restore_faults bases marks =
    (TooLong if too_long (bases ∷ marks ∷ []))
    ∷ (Ragged if ragged (bases ∷ marks ∷ []))
    ∷ []

abbrev pub restore_refused : List ℕ → List ℕ → Option Refusal
restore_refused bases marks = refused (restore_faults (length bases) (length marks))

-- A strand's bases as its tag shows them: restored by its annotation; without one, as they are.
abbrev pub strand_bases : Option ConversionPattern → List ℕ → List ℕ → List ℕ
strand_bases None marks bases = bases
strand_bases (Some pattern) marks bases = restored pattern marks bases

-- The marks count where there is an annotation.
abbrev pub strand_faults : Bool → ℕ → ℕ → ℕ → List Fault
strand_faults annotated bases marks out =
    (TooLong if (too_long (bases ∷ []) || (annotated && too_long (marks ∷ []))))
    ∷ (Ragged if (annotated && ragged (bases ∷ marks ∷ [])))
    ∷ (OutputTooShort if too_short bases (out ∷ []))
    ∷ []

abbrev pub strand_refused : Option ConversionPattern → List ℕ → List ℕ → List ℕ → Option Refusal
strand_refused annotation bases marks out = refused (strand_faults (is_annotated annotation) (length bases) (length marks) (length out))
