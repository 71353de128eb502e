-- What a call answers, and what it leaves in a lent output, by its refusal, which of two refusals it answers, and what an array of its own
-- begins as.
use Rattle.std.specs.Prelude.{ℕ, Bool, cond, Option, Some, None, Result, Ok, Err, List, replicate}
use Rattle.lists.specs.Output.{put}
use Rattle.refusals.specs.declared.Refusal.{Refusal}
use Rattle.refusals.specs.Refusal.{number_of}

module _ {A : Type 0} where
  -- The answer of a call: its refusal, or x.
  abbrev pub answer : Option Refusal → A → Result A Refusal
  answer None x = Ok x
  answer (Some row) x = Err row

  -- A lent output after a call that would write xs. A refusal writes nothing.
  abbrev pub after : Option Refusal → List A → List A → List A
  after None xs out = put xs out
  after (Some row) xs out = out

  -- An answer whose refusal is told by its row's number.
  abbrev pub by_number : Result A Refusal → Result A ℕ
  by_number (Ok x) = Ok x
  by_number (Err row) = Err (number_of row)

-- Of two refusals the first that there is.
abbrev pub or_later : {Row : Type 0} → Option Row → Option Row → Option Row
or_later None later = later
or_later (Some row) later = Some row

-- One test of a call.
abbrev pub refused_if : Bool → Refusal → Result (Unit {0}) Refusal
refused_if met row = cond met (Err row) (Ok tt)

-- An array of a call's own, for as many positions as row 7 lets pass, as it begins.
abbrev pub zeros : List ℕ
zeros = replicate 1024 0
