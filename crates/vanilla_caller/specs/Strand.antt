-- A strand, document 01: bases, qualities, depths and errors, and perhaps an annotation.
use Rattle.std.specs.Prelude.{ℕ, ◌≡◌, Bool, false, cond, ◌||◌, Option, None, List, [], ◌∷◌, eqb, length}
use Rattle.std.specs.Option.{option_map_or}
use Rattle.refusals.specs.declared.Refusal.{Refusal}
use Rattle.refusals.specs.Refusal.{over, ragged, too_short}
use Rattle.refusals.specs.Outcome.{after}
use Rattle.methylation.specs.Annotation.{pattern_held, evidence_held, evidence_seen}
use Rattle.methylation.specs.Arrays.{EvidenceArrays, evidence_arrays, annotated_lengths, evidence_over, evidence_uneven, evidence_too_short, LeavesEvidence}
use Rattle.methylation.specs.declared.ConversionPattern.{ConversionPattern}
use Rattle.vanilla_caller.specs.declared.Lengths.{Lengths}
use Rattle.vanilla_caller.specs.declared.VanillaConsensusRead.{VanillaConsensusRead}

-- The arrays of a strand, or those lent for one.
pub record Arrays : Type 0 where
  pub bases : List ℕ
  pub quals : List ℕ
  pub depths : List ℕ
  pub errors : List ℕ
  pub evidence : EvidenceArrays

abbrev pub arrays : List ℕ → List ℕ → List ℕ → List ℕ → List ℕ → List ℕ → List ℕ → Arrays
arrays b q d e m u c = record { bases = b; quals = q; depths = d; errors = e; evidence = evidence_arrays m u c }

-- Of a strand that is lent its annotation, and its arrays: evidence is that of its annotation.
abbrev pub annotation_in : VanillaConsensusRead → Option ConversionPattern
annotation_in r = pattern_held r.methylation

abbrev pub arrays_in : VanillaConsensusRead → Arrays
arrays_in r = record { bases = r.bases.now; quals = r.quals.now; depths = r.depths.now; errors = r.errors.now; evidence = evidence_held r.methylation }

-- Without its annotation.
abbrev pub plain : VanillaConsensusRead → VanillaConsensusRead
plain r = record { bases = r.bases; quals = r.quals; depths = r.depths; errors = r.errors; methylation = None }

-- The arrays of a strand beside this evidence.
abbrev pub with_evidence : Arrays → EvidenceArrays → Arrays
with_evidence a e = record { bases = a.bases; quals = a.quals; depths = a.depths; errors = a.errors; evidence = e }

-- What is looked at of the arrays that are lent beside an annotation, or beside none.
abbrev pub arrays_seen : Option ConversionPattern → Arrays → Arrays
arrays_seen annotation a = with_evidence a (evidence_seen annotation a.evidence)

-- How long they are, with this annotation or none.
abbrev pub lengths : Option ConversionPattern → Arrays → Lengths
lengths annotation a = record {
  bases = length a.bases;
  quals = length a.quals;
  depths = length a.depths;
  errors = length a.errors;
  evidence = annotated_lengths annotation a.evidence;
}

-- The arrays that every strand has.
abbrev pub four : Lengths → List ℕ
four a = a.bases ∷ a.quals ∷ a.depths ∷ a.errors ∷ []

-- Row 19's condition for a strand, by a limit; and row 7's. Evidence counts where there is an annotation.
abbrev pub strand_over : ℕ → Lengths → Bool
strand_over limit s = over limit (four s) || option_map_or (evidence_over limit) s.evidence false

abbrev pub strand_too_long : Lengths → Bool
strand_too_long s = strand_over 1024 s

-- Row 8's.
abbrev pub strand_ragged : Lengths → Bool
strand_ragged s = ragged (four s) || option_map_or (evidence_uneven s.bases) s.evidence false

-- Row 12's, for outputs to which a strand of n positions goes.
abbrev pub outputs_too_short : ℕ → Lengths → Bool
outputs_too_short n out = too_short n (four out) || option_map_or (evidence_too_short n) out.evidence false

-- An informative mark as it is written.
abbrev pub mark : ℕ → ℕ
mark x = cond (eqb x 0) 0 1

-- What a call leaves in its lent outputs, where it was refused or else writes these arrays.
pub record Leaves (refused : Option Refusal) (written before now : Arrays) : Type 0 where
  pub bases : now.bases ≡ after refused written.bases before.bases
  pub quals : now.quals ≡ after refused written.quals before.quals
  pub depths : now.depths ≡ after refused written.depths before.depths
  pub errors : now.errors ≡ after refused written.errors before.errors
  pub evidence : LeavesEvidence refused written.evidence before.evidence now.evidence
