-- An annotation's evidence as arrays, document 01: per position an informative mark (0 no, any other byte yes) and two counts.
use Rattle.std.specs.Prelude.{ℕ, ◌≡◌, ◌≤◌, Bool, not, cond, Option, Some, List, [], ◌∷◌, eqb, length, take}
use Rattle.std.specs.Option.{option_and}
use Rattle.lists.specs.Output.{put}
use Rattle.lists.specs.Part.{only_if}
use Rattle.lists.specs.Table.{tabulate}
use Rattle.refusals.specs.declared.Refusal.{Refusal}
use Rattle.refusals.specs.Refusal.{over, ragged, too_short}
use Rattle.refusals.specs.Outcome.{after}
use Rattle.methylation.specs.Methylation.{is_annotated}
use Rattle.methylation.specs.declared.ConversionPattern.{ConversionPattern}
use Rattle.methylation.specs.declared.Evidence.{Evidence}
use Rattle.methylation.specs.declared.EvidenceLengths.{EvidenceLengths}
use Rattle.methylation.specs.declared.EvidenceSlices.{EvidenceSlices}

-- The arrays of an annotation, or those lent for one.
pub record EvidenceArrays : Type 0 where
  pub marks : List ℕ
  pub unconverted : List ℕ
  pub converted : List ℕ

abbrev pub evidence_arrays : List ℕ → List ℕ → List ℕ → EvidenceArrays
evidence_arrays m u c = record { marks = m; unconverted = u; converted = c }

-- Those that are lent.
abbrev pub evidence_in : EvidenceSlices → EvidenceArrays
evidence_in e = evidence_arrays e.marks.now e.unconverted.now e.converted.now

-- Evidence by position, of n positions.
abbrev pub evidence_table : ℕ → (ℕ → Evidence) → EvidenceArrays
evidence_table n of = evidence_arrays (tabulate n (λ i. (of i).mark)) (tabulate n (λ i. (of i).unconverted)) (tabulate n (λ i. (of i).converted))

-- Evidence is written of every position, or of none.
abbrev pub evidence_only_if : Bool → EvidenceArrays → EvidenceArrays
evidence_only_if there e = evidence_arrays (only_if there e.marks) (only_if there e.unconverted) (only_if there e.converted)

abbrev pub evidence_places : Option ConversionPattern → ℕ → ℕ
evidence_places annotation n = cond (is_annotated annotation) n 0

-- The first n places of each array.
abbrev pub evidence_fronts : ℕ → EvidenceArrays → EvidenceArrays
evidence_fronts n e = evidence_arrays (take n e.marks) (take n e.unconverted) (take n e.converted)

-- Each array has n places, or more.
abbrev pub HasPlaces : ℕ → EvidenceArrays → Type 0
HasPlaces n e = (n ≤ length e.marks) × (n ≤ length e.unconverted) × (n ≤ length e.converted)

-- How long each is.
abbrev pub evidence_lengths : EvidenceArrays → EvidenceLengths
evidence_lengths e = record { marks = length e.marks; unconverted = length e.unconverted; converted = length e.converted }

-- The same where there is an annotation; else the arrays are not looked at.
abbrev pub annotated_lengths : Option ConversionPattern → EvidenceArrays → Option EvidenceLengths
annotated_lengths annotation e = option_and annotation (Some (evidence_lengths e))

-- Three arrays of so many places each.
abbrev pub evidence_of_length : ℕ → EvidenceLengths
evidence_of_length places = record { marks = places; unconverted = places; converted = places }

-- A mark says that its position is informative.
abbrev pub informative : ℕ → Bool
informative mark = not (eqb mark 0)

-- Those lengths, as the table's conditions take them.
abbrev pub three : EvidenceLengths → List ℕ
three e = e.marks ∷ e.unconverted ∷ e.converted ∷ []

-- Row 19's condition for an annotation, by a limit; and row 7's.
abbrev pub evidence_over : ℕ → EvidenceLengths → Bool
evidence_over limit e = over limit (three e)

abbrev pub evidence_too_long : EvidenceLengths → Bool
evidence_too_long e = evidence_over 1024 e

-- Row 8's, for the arrays among themselves, and beside n bases.
abbrev pub evidence_ragged : EvidenceLengths → Bool
evidence_ragged e = ragged (three e)

abbrev pub evidence_uneven : ℕ → EvidenceLengths → Bool
evidence_uneven n e = ragged (n ∷ three e)

-- Row 12's, for outputs to which n positions go.
abbrev pub evidence_too_short : ℕ → EvidenceLengths → Bool
evidence_too_short n out = too_short n (three out)

-- Every array has its own written to its front.
pub record PutsEvidence (written before now : EvidenceArrays) : Type 0 where
  pub marks : now.marks ≡ put written.marks before.marks
  pub unconverted : now.unconverted ≡ put written.unconverted before.unconverted
  pub converted : now.converted ≡ put written.converted before.converted

-- What a call leaves in the arrays lent for evidence, where it was refused or else writes these.
pub record LeavesEvidence (refused : Option Refusal) (written before now : EvidenceArrays) : Type 0 where
  pub marks : now.marks ≡ after refused written.marks before.marks
  pub unconverted : now.unconverted ≡ after refused written.unconverted before.unconverted
  pub converted : now.converted ≡ after refused written.converted before.converted
