-- What a test of the settings says of them, and which refusal an entry has that is told more beside them and tests more after them. Assumes
-- nothing.
--     passed        those that passed are those that were given, which nothing refuses
--     turned_down   else they are refused as the test says
--     told_broken   an entry is refused by 13 before all others
--     told_outside  where all else that it is told is right, as the settings are
--     told_passed   and where nothing refuses these, by the rest, whose rows come later in the table
use mathlib.Core.Path.{◌≡◌, refl, sym, ap, ◌∙◌}
use mathlib.Core.Bool.{Bool, true, false}
use mathlib.Core.List.{List, ◌++◌}
use Rattle.std.proofs.Common.{Option, Some, None, Result, Ok, Err}
use Rattle.refusals.specs.declared.Refusal.{Refusal}
use Rattle.refusals.specs.declared.Refusal.TheVariants.{Broken}
use Rattle.refusals.specs.Refusal.{Fault, order, sorted, refused}
use Rattle.refusals.specs.Outcome.{answer, or_later}
use Rattle.refusals.proofs.InOrder.{and_then}
use Rattle.settings.specs.Settings.{given_of, settings_faults, told_faults, told_by}
use Rattle.settings.specs.declared.GivenSettings.{GivenSettings}
use Rattle.settings.specs.declared.Settings.{Settings}

module _ (lab : GivenSettings) where
  by_refusal : (row : Option Refusal) (s : Settings) → Ok (given_of s) ≡ answer row lab → (row ≡ None) × (given_of s ≡ lab)
  by_refusal None s h = (refl, cc)
  by_refusal (Some row) s h = absurd cc

  by_answer : (row : Option Refusal) {refusal : Refusal} → Err refusal ≡ answer row lab → row ≡ Some refusal
  by_answer None h = absurd cc
  by_answer (Some row) h = cc

  module _ (tested : Result Settings Refusal) (h : told_by tested ≡ answer (refused (settings_faults lab)) lab) where
    pub passed : (s : Settings) → tested ≡ Ok s → (refused (settings_faults lab) ≡ None) × (given_of s ≡ lab)
    passed s is = by_refusal (refused (settings_faults lab)) s (sym (ap told_by is) ∙ h)

    pub turned_down : {refusal : Refusal} → tested ≡ Err refusal → refused (settings_faults lab) ≡ Some refusal
    turned_down is = by_answer (refused (settings_faults lab)) (sym (ap told_by is) ∙ h)

-- The rest may be any faults. That their rows are later than the settings' is `refl` at written-out rows.
module _ (lab : GivenSettings) (rest : List Fault) (later : sorted order (settings_faults lab ++ rest) ≡ sorted order (settings_faults lab) ++ sorted order rest) {wrong : Bool} where
  pub told_broken : wrong ≡ true → refused (told_faults wrong lab ++ rest) ≡ Some Broken
  told_broken h = ap (λ (w : Bool). refused (told_faults w lab ++ rest)) h

  told_right : wrong ≡ false → refused (told_faults wrong lab ++ rest) ≡ or_later (refused (settings_faults lab)) (refused rest)
  told_right h = ap (λ (w : Bool). refused (told_faults w lab ++ rest)) h ∙ and_then (settings_faults lab) rest later

  pub told_outside : wrong ≡ false → {row : Refusal} → refused (settings_faults lab) ≡ Some row → refused (told_faults wrong lab ++ rest) ≡ Some row
  told_outside h is = told_right h ∙ ap (λ (first : Option Refusal). or_later first (refused rest)) is

  pub told_passed : wrong ≡ false → refused (settings_faults lab) ≡ None → refused (told_faults wrong lab ++ rest) ≡ refused rest
  told_passed h is = told_right h ∙ ap (λ (first : Option Refusal). or_later first (refused rest)) is
