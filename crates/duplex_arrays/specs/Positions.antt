-- The arrays of a two-strand record, position by position, document 01: bases, qualities and errors.
use Rattle.std.specs.Prelude.{ℕ, Bool, false, cond, ◌&&◌, ◌||◌, ◌≡◌, List, [], ◌∷◌, length, get_or}
use Rattle.lists.specs.Output.{put}
use Rattle.lists.specs.Table.{tabulate}
use Rattle.refusals.specs.Refusal.{too_short}
use Rattle.vanilla_caller.specs.Strand.{Arrays}
use Rattle.duplex_molecule.specs.Molecule.{can_call}
use Rattle.duplex_molecule.specs.declared.CtInput.{CtInput}
use Rattle.duplex_position.specs.declared.Position.{Position}
use Rattle.duplex_call.specs.Annotated.{combined, estimated}
use Rattle.duplex_arrays.specs.declared.PositionOutputs.{PositionOutputs}

-- Base and quality at position i of strands A and B, under the lab's ceiling.
abbrev pub position_of : ℕ → CtInput → Arrays → Arrays → ℕ → Position
position_of ceiling ct a b i =
    combined ceiling ct (get_or a.bases i 0) (get_or a.quals i 0) (get_or a.evidence.marks i 0)
    (get_or b.bases i 0) (get_or b.quals i 0) (get_or b.evidence.marks i 0)

-- The errors' estimate there.
abbrev pub estimate_of : CtInput → Arrays → Arrays → ℕ → ℕ
estimate_of ct a b i =
    estimated ct (get_or a.bases i 0) (get_or a.quals i 0) (get_or a.depths i 0) (get_or a.errors i 0)
    (get_or b.bases i 0) (get_or b.quals i 0) (get_or b.depths i 0) (get_or b.errors i 0)

-- The first n positions.
unfoldable pub combined_bases : ℕ → ℕ → CtInput → Arrays → Arrays → List ℕ
combined_bases ceiling n ct a b = tabulate n (λ i. (position_of ceiling ct a b i).base)

unfoldable pub combined_quals : ℕ → ℕ → CtInput → Arrays → Arrays → List ℕ
combined_quals ceiling n ct a b = tabulate n (λ i. (position_of ceiling ct a b i).qual)

unfoldable pub estimates : ℕ → CtInput → Arrays → Arrays → List ℕ
estimates n ct a b = tabulate n (estimate_of ct a b)

-- The errors: with a list of reads what was counted of them at each position, without one the estimate.
unfoldable pub combined_errors : Bool → (ℕ → ℕ) → ℕ → CtInput → Arrays → Arrays → List ℕ
combined_errors listed counted n ct a b = cond listed (tabulate n counted) (estimates n ct a b)

-- Before any read is counted.
abbrev pub uncounted : ℕ → ℕ
uncounted i = 0

-- Some array has fewer than n elements, by their lengths. Marks count where there may be calls.
unfoldable pub arrays_short : ℕ → Bool → List ℕ → List ℕ → Bool
arrays_short n calls marks others = (calls && too_short n marks) || too_short n others

module _ {A : Type 0} where
  -- Nothing is written where some array is too short.
  unfoldable pub unless_short : Bool → List A → List A
  unless_short short xs = cond short [] xs

-- What is too short for base and quality of n positions, and for their errors.
abbrev pub positions_short : ℕ → CtInput → Arrays → Arrays → List ℕ → List ℕ → Bool
positions_short n ct a b bases quals =
    arrays_short n (can_call ct) (length a.evidence.marks ∷ length b.evidence.marks ∷ [])
    (length a.bases ∷ length a.quals ∷ length b.bases ∷ length b.quals ∷ length bases ∷ length quals ∷ [])

abbrev pub errors_short : ℕ → Arrays → Arrays → List ℕ → Bool
errors_short n a b errors =
    arrays_short n false []
    (length a.bases ∷ length a.quals ∷ length a.depths ∷ length a.errors
    ∷ length b.bases ∷ length b.quals ∷ length b.depths ∷ length b.errors ∷ length errors ∷ [])

-- What a call leaves in its outputs.
pub record PositionsAs (ceiling n : ℕ) (ct : CtInput) (a b : Arrays) (bases quals bases_now_is quals_now_is : List ℕ) : Type 0 where
  pub bases_now : bases_now_is ≡ put (unless_short (positions_short n ct a b bases quals) (combined_bases ceiling n ct a b)) bases
  pub quals_now : quals_now_is ≡ put (unless_short (positions_short n ct a b bases quals) (combined_quals ceiling n ct a b)) quals

abbrev pub ErrorsAs : Bool → ℕ → CtInput → Arrays → Arrays → List ℕ → List ℕ → Type 0
ErrorsAs listed n ct a b errors errors_now = errors_now ≡ put (unless_short (errors_short n a b errors) (combined_errors listed uncounted n ct a b)) errors

-- A call that was lent the outputs for base and quality left each slice where it was, so that who lent them knows what it holds.
pub record SamePositions (before now : PositionOutputs) : Type 0 where
  pub bases : now.bases.ghost_name ≡ before.bases.ghost_name
  pub quals : now.quals.ghost_name ≡ before.quals.ghost_name
