-- An answer as numbers, and what an entry promises by the library's call.
use Rattle.std.specs.Prelude.{ℕ, ◌≡◌, Bool, true, false, cond, Option, Some, None, Result, Ok, Err}
use Rattle.refusals.specs.declared.Refusal.{Refusal}
use Rattle.refusals.specs.Refusal.{number_of}
use Rattle.refusals.specs.Outcome.{by_number}
use Rattle.replies.specs.declared.Count.{Count}
use Rattle.replies.specs.declared.Number.{Number}

-- Refused with a number; or so many elements written.
abbrev pub not_counted : ℕ → Count
not_counted number = record { refused = number; count = 0 }

abbrev pub counted : ℕ → Count
counted n = record { refused = 0; count = n }

-- Refused with a number; or the number that was asked for.
abbrev pub no_number : ℕ → Number
no_number number = record { refused = number; number = 0 }

abbrev pub numbered : ℕ → Number
numbered n = record { refused = 0; number = n }

-- An answer as numbers whose refusal is told by its number, which is handed on, a row's or not.
abbrev pub count_told : Result ℕ ℕ → Count
count_told (Ok n) = counted n
count_told (Err number) = not_counted number

-- An answer as numbers: its refusal, or what was asked for; of a yes or no, 1 is yes.
abbrev pub count_reply : Result ℕ Refusal → Count
count_reply answer = count_told (by_number answer)

abbrev pub number_reply : Result ℕ Refusal → Number
number_reply (Ok n) = numbered n
number_reply (Err refusal) = no_number (number_of refusal)

abbrev pub bit_reply : Result Bool Refusal → Number
bit_reply (Ok b) = numbered (cond b 1 0)
bit_reply (Err refusal) = no_number (number_of refusal)

-- What an entry answers and leaves where it is refused before the library's call: the refusal, and every output as it was.
pub record TurnedDown {Numbers Outputs : Type 0} (refused : Numbers) (before now : Outputs) (r : Numbers) : Type 0 where
  pub answered : r ≡ refused
  pub outputs : now ≡ before

-- And where it is not: as the library's call, with its answer as numbers.
pub record PassedOn {Answer Numbers Outputs : Type 0} (reply : Answer → Numbers) (As : Outputs → Outputs → Answer → Type 0) (before now : Outputs) (r : Numbers) : Type 0 where
  pub told : Answer
  pub answered : r ≡ reply told
  pub outputs : As before now told

-- Both, where 13 is all that an entry refuses by before that call: by whether some number stands for nothing.
pub record RepliedAs {Answer Numbers Outputs : Type 0} (wrong : Bool) (broken : Numbers) (reply : Answer → Numbers) (As : Outputs → Outputs → Answer → Type 0) (before now : Outputs) (r : Numbers) : Type 0 where
  pub turned : wrong ≡ true → TurnedDown broken before now r
  pub passed : wrong ≡ false → PassedOn reply As before now r

-- Both, where it has other rows of its own than 13 alone: by the first that refuses. RepliedAs is not made of it: there the test itself is
-- the condition, and the answer may be of any type.
pub record RefusedOr {Told Numbers Outputs : Type 0} (refusal : Option Refusal) (reply : Result Told Refusal → Numbers) (As : Outputs → Outputs → Result Told Refusal → Type 0) (before now : Outputs) (r : Numbers) : Type 0 where
  pub turned : (row : Refusal) → refusal ≡ Some row → TurnedDown (reply (Err row)) before now r
  pub passed : refusal ≡ None → PassedOn reply As before now r
