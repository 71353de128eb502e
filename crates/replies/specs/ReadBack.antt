-- That an answer can be read back from its numbers: no two answers are told alike, and no member stands for another.
use Rattle.std.specs.Prelude.{ℕ, ◌≡◌, Result, Ok, Err}
use Rattle.refusals.specs.declared.Refusal.{Refusal}
use Rattle.refusals.specs.Refusal.{number_of}

-- A refusal by its row's number; any other answer, whose number is 0, by `back`.
pub record AnswersBack {Told Numbers : Type 0} (reply : Result Told Refusal → Numbers) (number : Numbers → ℕ) (back : Numbers → Told) : Type 0 where
  pub refusals : (row : Refusal) → number (reply (Err row)) ≡ number_of row
  pub passes : (x : Told) → number (reply (Ok x)) ≡ 0
  pub answers : (x : Told) → back (reply (Ok x)) ≡ x

-- One answer that is no refusal, read back whole: for answers of several cases.
pub record TellsBack {Answer Numbers : Type 0} (reply : Answer → Numbers) (number : Numbers → ℕ) (back : Numbers → Answer) (x : Answer) : Type 0 where
  pub passes : number (reply x) ≡ 0
  pub answers : back (reply x) ≡ x
