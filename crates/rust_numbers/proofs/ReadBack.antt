-- The claims of `specs/ReadBack.antt`. Assumes nothing.
use mathlib.Core.Path.{◌≡◌, refl}
use mathlib.Core.Bool.{Bool, true, false}
use Prim.Native.Nat.{ℕ}
use lib.Dec.{eqb}
use Rattle.methylation.specs.declared.ConversionPattern.{ConversionPattern}
use Rattle.methylation.specs.declared.ConversionPattern.TheVariants.{CToT, GToA}
use Rattle.duplex_molecule.specs.Molecule.{call_as}
use Rattle.duplex_molecule.specs.declared.MoleculeCall.{MoleculeCall}
use Rattle.std.proofs.Common.{None, Some, Option}
use Rattle.methylation.specs.Choices.{pattern_number, pattern_of, wrong_pattern}
use Rattle.rust_numbers.specs.Replies.{bit, call_reply}
use Rattle.rust_numbers.specs.ReadBack.{call_back, ReadBack}

bit_back : (met : Bool) → eqb (bit met) 1 ≡ met
bit_back true = refl
bit_back false = refl

pattern_back : (x : ConversionPattern) → (wrong_pattern (pattern_number x) ≡ false) × (pattern_of (pattern_number x) ≡ x)
pattern_back CToT = (refl, refl)
pattern_back GToA = (refl, refl)

call_back_lem : (x : Option MoleculeCall) → call_back (call_reply x) ≡ x
call_back_lem None = refl
call_back_lem (Some call) = go call.pattern call.call call.confirmed
  where
    go : (pattern : ConversionPattern) (call confirmed : ℕ) → call_back (call_reply (Some (call_as pattern call confirmed))) ≡ Some (call_as pattern call confirmed)
    go CToT call confirmed = refl
    go GToA call confirmed = refl

pub read_back : ReadBack
read_back = record {
  quality = record { refusals = λ row. refl; passes = λ x. refl; answers = λ x. refl };
  bits = bit_back;
  enabled = λ met. (refl, bit_back met);
  rates = record { refusals = λ row. refl; passes = λ rate. refl; answers = λ rate. refl };
  name = record { refusals = λ row. refl; passes = λ n. refl; answers = λ n. refl };
  pattern = pattern_back;
  bases = λ x. refl;
  letters = record { refusals = λ row. refl; passes = λ x. refl; answers = λ x. refl };
  call = call_back_lem;
}
