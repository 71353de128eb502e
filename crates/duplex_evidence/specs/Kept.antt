-- A strand's evidence in a two-strand record, document 01: at a call the strand of its pattern is marked and keeps its counts;
-- all other evidence becomes clear.
use Rattle.std.specs.Prelude.{Option, ℕ, ◌≡◌, Bool, false, not, List, [], ◌∷◌, eqb, length, get_or}
use Rattle.lists.specs.Output.{put}
use Rattle.lists.specs.Part.{only_if}
use Rattle.lists.specs.Table.{tabulate}
use Rattle.methylation.specs.Arrays.{EvidenceArrays}
use Rattle.methylation.specs.Methylation.{is_annotated, evidence_if}
use Rattle.methylation.specs.declared.Evidence.{Evidence}
use Rattle.vanilla_caller.specs.Strand.{Arrays}
use Rattle.duplex_molecule.specs.Molecule.{call_at, is_call_of}
use Rattle.duplex_molecule.specs.declared.CtInput.{CtInput}
use Rattle.duplex_molecule.specs.declared.MoleculeCall.{MoleculeCall}
use Rattle.duplex_arrays.specs.Positions.{arrays_short, unless_short}
use Rattle.methylation.specs.declared.ConversionPattern.{ConversionPattern}

-- The call at position i of strands A and B.
abbrev pub call_of : CtInput → Arrays → Arrays → ℕ → Option MoleculeCall
call_of ct a b i = call_at ct (get_or a.bases i 0) (get_or b.bases i 0)

-- The evidence there of a strand s of this annotation: kept where it is the informative one of a call, clear where not.
abbrev pub evidence_of : CtInput → Arrays → Arrays → Option ConversionPattern → Arrays → ℕ → Evidence
evidence_of ct a b annotation s i =
    evidence_if (is_call_of annotation (call_of ct a b i)) (get_or s.evidence.unconverted i 0) (get_or s.evidence.converted i 0)

-- Its mark there, and its evidence by the mark: where that is not 0, the counts are kept.
abbrev pub mark_of : CtInput → Option ConversionPattern → List ℕ → List ℕ → ℕ → ℕ
mark_of ct annotation a b i = (evidence_if (is_call_of annotation (call_at ct (get_or a i 0) (get_or b i 0))) 0 0).mark

abbrev pub marked_at : List ℕ → List ℕ → List ℕ → ℕ → Evidence
marked_at marks unconverted converted i = evidence_if (not (eqb (get_or marks i 0) 0)) (get_or unconverted i 0) (get_or converted i 0)

-- The first n positions. Without an annotation there is none.
unfoldable pub kept_marks : ℕ → CtInput → Arrays → Arrays → Option ConversionPattern → Arrays → List ℕ
kept_marks n ct a b annotation s = only_if (is_annotated annotation) (tabulate n (λ i. (evidence_of ct a b annotation s i).mark))

unfoldable pub kept_unconverted : ℕ → CtInput → Arrays → Arrays → Option ConversionPattern → Arrays → List ℕ
kept_unconverted n ct a b annotation s = only_if (is_annotated annotation) (tabulate n (λ i. (evidence_of ct a b annotation s i).unconverted))

unfoldable pub kept_converted : ℕ → CtInput → Arrays → Arrays → Option ConversionPattern → Arrays → List ℕ
kept_converted n ct a b annotation s = only_if (is_annotated annotation) (tabulate n (λ i. (evidence_of ct a b annotation s i).converted))

-- What is too short for the marks of n positions.
abbrev pub marks_short : ℕ → List ℕ → List ℕ → List ℕ → Bool
marks_short n a b marks = arrays_short n false [] (length a ∷ length b ∷ length marks ∷ [])

-- What is too short for the evidence of n positions.
abbrev pub evidence_short : ℕ → Arrays → Arrays → Arrays → EvidenceArrays → Bool
evidence_short n a b s out =
    arrays_short n false []
    (length a.bases ∷ length b.bases ∷ length s.evidence.unconverted ∷ length s.evidence.converted
    ∷ length out.marks ∷ length out.unconverted ∷ length out.converted ∷ [])

-- What a call leaves in its outputs.
pub record EvidenceAs (n : ℕ) (ct : CtInput) (a b : Arrays) (annotation : Option ConversionPattern) (s : Arrays) (before now : EvidenceArrays) : Type 0 where
  pub marks : now.marks ≡ put (unless_short (evidence_short n a b s before) (kept_marks n ct a b annotation s)) before.marks
  pub unconverted : now.unconverted ≡ put (unless_short (evidence_short n a b s before) (kept_unconverted n ct a b annotation s)) before.unconverted
  pub converted : now.converted ≡ put (unless_short (evidence_short n a b s before) (kept_converted n ct a b annotation s)) before.converted
