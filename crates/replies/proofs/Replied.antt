-- What an entry promises, by its own refusal and the answer of the library's call. Assumes nothing.
--     refused_by      a row of the entry's own refuses
--     not_refused     none does
use mathlib.Core.Path.{◌≡◌, refl, sym, subst, ◌∙◌}
use Rattle.std.proofs.Common.{Option, Some, None, Result, Err}
use Rattle.refusals.specs.declared.Refusal.{Refusal}
use Rattle.replies.specs.Replies.{RefusedOr}

module _ {Told Numbers Outputs : Type 0} {refusal : Option Refusal} {reply : Result Told Refusal → Numbers} {As : Outputs → Outputs → Result Told Refusal → Type 0} {before : Outputs} where
  pub refused_by : {r : Numbers} (row : Refusal) → refusal ≡ Some row → r ≡ reply (Err row) → RefusedOr refusal reply As before before r
  refused_by {r} row h e = record {
    turned = λ other met. let same : row ≡ other = cc in record { answered = subst (λ (x : Refusal). r ≡ reply (Err x)) same e; outputs = refl };
    passed = λ no. let none : ◌≡◌ {A = Option Refusal} (Some row) None = sym h ∙ no in absurd cc;
  }

  pub not_refused : {now : Outputs} {r : Numbers} (told : Result Told Refusal) → refusal ≡ None → r ≡ reply told → As before now told → RefusedOr refusal reply As before now r
  not_refused told h e x = record {
    turned = λ row met. let none : ◌≡◌ {A = Option Refusal} (Some row) None = sym met ∙ h in absurd cc;
    passed = λ _. record { told = told; answered = e; outputs = x };
  }
