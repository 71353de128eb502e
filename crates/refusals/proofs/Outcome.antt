-- What an answer says of the call's refusal.
--     refused_by          an error is the row that refuses
--     passed_by           where there is no error, no row refuses, and what is answered
--     is_met, not_met     the same of one test
-- Assumes nothing.
use mathlib.Core.Path.{◌≡◌, refl}
use mathlib.Core.Bool.{Bool, true, false}
use Rattle.std.proofs.Common.{Option, Some, None, Ok, Err}
use Rattle.refusals.specs.declared.Refusal.{Refusal}
use Rattle.refusals.specs.Outcome.{answer, refused_if}

module _ {A : Type 0} where
  pub refused_by : (row : Option Refusal) (x : A) {e : Refusal} → answer row x ≡ Err e → row ≡ Some e
  refused_by None x h = absurd cc
  refused_by (Some row) x h = cc

  pub passed_by : (row : Option Refusal) (x : A) {y : A} → answer row x ≡ Ok y → (row ≡ None) × (x ≡ y)
  passed_by None x h = (refl, cc)
  passed_by (Some row) x h = absurd cc

pub is_met : (met : Bool) (row : Refusal) {e : Refusal} → refused_if met row ≡ Err e → (met ≡ true) × (row ≡ e)
is_met true row h = (refl, cc)
is_met false row h = absurd cc

pub not_met : (met : Bool) (row : Refusal) {u : Unit {0}} → refused_if met row ≡ Ok u → met ≡ false
not_met true row h = absurd cc
not_met false row h = refl
