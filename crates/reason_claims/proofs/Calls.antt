-- A methylation call by the strands' annotations and bases, and by which strand is of pattern C to T.
--     same_calls     the claim
-- Assumes nothing.
use mathlib.Core.Path.{◌≡◌, refl, ap₂, ◌∙◌}
use mathlib.Core.Bool.{Bool, true, false, ◌||◌}
use Prim.Native.Nat.{ℕ}
use Rattle.std.proofs.Common.{None, Some, Option}
use Rattle.methylation.specs.declared.ConversionPattern.{ConversionPattern}
use Rattle.methylation.specs.declared.ConversionPattern.TheVariants.{CToT, GToA}
use Rattle.duplex_molecule.specs.Molecule.{ct_input, call_at, is_call, is_call_of}
use Rattle.duplex_molecule.specs.declared.CtInput.TheVariants.{IsA, IsB}
use Rattle.duplex_call.proofs.Calls.{c_to_t, g_to_a, either}
use Rattle.duplex_reason.specs.Reason.{called_by}
use Rattle.reason_claims.specs.Reasons.{SameCalls}

from_a : (p q : Option ConversionPattern) (a b : ℕ) → called_by p q a b ≡ is_call_of p (call_at (ct_input p q) a b)
unfolding called_by ct_input call_at is_call_of
from_a None q a b = refl
from_a (Some p) None a b = refl
from_a (Some CToT) (Some CToT) a b = refl
from_a (Some CToT) (Some GToA) a b = c_to_t IsA a b
from_a (Some GToA) (Some CToT) a b = g_to_a IsB a b
from_a (Some GToA) (Some GToA) a b = refl

from_b : (p q : Option ConversionPattern) (a b : ℕ) → called_by q p b a ≡ is_call_of q (call_at (ct_input p q) a b)
unfolding called_by ct_input call_at is_call_of
from_b None None a b = refl
from_b None (Some q) a b = refl
from_b (Some p) None a b = refl
from_b (Some CToT) (Some CToT) a b = refl
from_b (Some CToT) (Some GToA) a b = g_to_a IsA a b
from_b (Some GToA) (Some CToT) a b = c_to_t IsB a b
from_b (Some GToA) (Some GToA) a b = refl

-- In either order.
turned : (x y : Bool) → (x || y) ≡ (y || x)
turned true true = refl
turned true false = refl
turned false true = refl
turned false false = refl

from_either : (p q : Option ConversionPattern) (a b : ℕ) → (called_by p q a b || called_by q p b a) ≡ is_call (call_at (ct_input p q) a b)
unfolding called_by ct_input call_at
from_either None None a b = refl
from_either None (Some q) a b = refl
from_either (Some p) None a b = refl
from_either (Some CToT) (Some CToT) a b = refl
from_either (Some CToT) (Some GToA) a b = ap₂ ◌||◌ (c_to_t IsA a b) (g_to_a IsA a b) ∙ either (call_at IsA a b)
from_either (Some GToA) (Some CToT) a b = turned (called_by (Some GToA) (Some CToT) a b) (called_by (Some CToT) (Some GToA) b a) ∙ ap₂ ◌||◌ (c_to_t IsB a b) (g_to_a IsB a b) ∙ either (call_at IsB a b)
from_either (Some GToA) (Some GToA) a b = refl

pub same_calls : SameCalls
same_calls = record {
  from_a = λ a b. from_a a.annotation b.annotation a.base b.base;
  from_b = λ a b. from_b a.annotation b.annotation a.base b.base;
  from_either = λ a b. from_either a.annotation b.annotation a.base b.base;
}
