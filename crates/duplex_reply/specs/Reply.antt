-- The answer of a combination as numbers.
use Rattle.std.specs.Prelude.{ℕ, Option, Some, None, Result, Ok, Err}
use Rattle.refusals.specs.declared.Refusal.{Refusal}
use Rattle.refusals.specs.Outcome.{by_number}
use Rattle.duplex_kind.specs.declared.DuplexConsensus.{DuplexConsensus}
use Rattle.duplex_kind.specs.declared.DuplexConsensus.TheVariants.{Ab, Ba, Both}
use Rattle.duplex_reply.specs.declared.DuplexRecord.{DuplexRecord}

-- Kind 0: none; 1: A alone; 2: B alone; 3: both.
abbrev pub made : ℕ → ℕ → DuplexRecord
made kind n = record { refused = 0; kind = kind; positions = n }

abbrev pub no_record : ℕ → DuplexRecord
no_record number = record { refused = number; kind = 0; positions = 0 }

-- A refusal told by its number is handed on, a row's number or not.
abbrev pub record_told : Result (Option DuplexConsensus) ℕ → DuplexRecord
record_told (Err number) = no_record number
record_told (Ok None) = made 0 0
record_told (Ok (Some (Ab n))) = made 1 n
record_told (Ok (Some (Ba n))) = made 2 n
record_told (Ok (Some (Both n))) = made 3 n

abbrev pub record_for : Result (Option DuplexConsensus) Refusal → DuplexRecord
record_for answer = record_told (by_number answer)
