-- One position of a molecule, document 01.
use Rattle.std.specs.Prelude.{None, Some, Option, is_some, ℕ, Bool, true, false, cond, not, ◌&&◌, ◌||◌, eqb}
use Rattle.dna.specs.Dna.{letter_a, letter_c, letter_g, letter_n, letter_t, upper}
use Rattle.methylation.specs.declared.ConversionPattern.{ConversionPattern}
use Rattle.methylation.specs.declared.ConversionPattern.TheVariants.{CToT, GToA}
use Rattle.duplex_molecule.specs.declared.CtInput.{CtInput}
use Rattle.duplex_molecule.specs.declared.CtInput.TheVariants.{Neither, IsA, IsB}
use Rattle.duplex_molecule.specs.declared.MoleculeCall.{MoleculeCall}

-- A read's base is an error against a base: neither is N, and they differ. Case counts.
unfoldable pub is_error : ℕ → ℕ → Bool
is_error source consensus = not (eqb source letter_n) && (not (eqb consensus letter_n) && not (eqb source consensus))

abbrev pub call_as : ConversionPattern → ℕ → ℕ → MoleculeCall
call_as pattern call confirmed = record { pattern = pattern; call = call; confirmed = confirmed }

-- The methylation call of the C-to-T strand's base and the G-to-A strand's. By their capitals: ga is C and ct is C or T, a
-- C-to-T call with base C; ct is G and ga is G or A, a G-to-A call with base G; otherwise none.
unfoldable pub molecule_call : ℕ → ℕ → Option MoleculeCall
molecule_call ct ga =
    cond (eqb (upper ga) letter_c && (eqb (upper ct) letter_c || eqb (upper ct) letter_t)) (Some (call_as CToT ct letter_c))
    (cond (eqb (upper ct) letter_g && (eqb (upper ga) letter_g || eqb (upper ga) letter_a)) (Some (call_as GToA ga letter_g))
    None)

-- Which strand is of pattern C to T where both are annotated, with different patterns. Without that there is no call.
unfoldable pub ct_input : Option ConversionPattern → Option ConversionPattern → CtInput
ct_input None b = Neither
ct_input (Some p) None = Neither
ct_input (Some CToT) (Some CToT) = Neither
ct_input (Some CToT) (Some GToA) = IsA
ct_input (Some GToA) (Some CToT) = IsB
ct_input (Some GToA) (Some GToA) = Neither

-- There may be calls: both strands are annotated, with different patterns.
abbrev pub can_call : CtInput → Bool
can_call Neither = false
can_call IsA = true
can_call IsB = true

-- The call of strand A's base and strand B's.
unfoldable pub call_at : CtInput → ℕ → ℕ → Option MoleculeCall
call_at Neither a b = None
call_at IsA a b = molecule_call a b
call_at IsB a b = molecule_call b a

abbrev pub is_call : Option MoleculeCall → Bool
is_call call = is_some call

abbrev pub same_pattern : ConversionPattern → ConversionPattern → Bool
same_pattern CToT CToT = true
same_pattern CToT GToA = false
same_pattern GToA CToT = false
same_pattern GToA GToA = true

-- A strand of this annotation is the informative one of a call: that of the call's pattern.
unfoldable pub is_call_of : Option ConversionPattern → Option MoleculeCall → Bool
is_call_of None call = false
is_call_of (Some pattern) None = false
is_call_of (Some pattern) (Some call) = same_pattern pattern call.pattern
