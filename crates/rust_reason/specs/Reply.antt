-- Why a position shows N, document 02's #101, as numbers; and what an entry point says of it.
use Rattle.std.specs.Prelude.{ℕ, Bool, cond, Result, Ok, Err}
use Rattle.refusals.specs.declared.Refusal.{Refusal}
use Rattle.refusals.specs.declared.Refusal.TheVariants.{Broken}
use Rattle.refusals.specs.Outcome.{by_number}
use Rattle.duplex_kind.specs.Kind.{Strand}
use Rattle.duplex_reason.specs.Record.{reason_of}
use Rattle.duplex_reason.specs.declared.NoCallReason.{NoCallReason}
use Rattle.duplex_reason.specs.declared.NoCallReason.TheVariants.{Outside, SingleStrand, Called, ANoCall, BNoCall, BothNoCall, EqualQualities, CloseQualities, LowSum, LowConfirming}
use Rattle.rust_reason.specs.declared.Reason.{Reason}

abbrev pub reason_number : NoCallReason → ℕ
reason_number Outside = 1
reason_number SingleStrand = 2
reason_number Called = 3
reason_number ANoCall = 4
reason_number BNoCall = 5
reason_number BothNoCall = 6
reason_number EqualQualities = 7
reason_number CloseQualities = 8
reason_number LowSum = 9
reason_number LowConfirming = 10

-- A refusal told by its number is handed on, a row's number or not.
abbrev pub reason_told : Result NoCallReason ℕ → Reason
reason_told (Ok reason) = record { refused = 0; reason = reason_number reason }
reason_told (Err number) = record { refused = number; reason = 0 }

abbrev pub reason_for : Result NoCallReason Refusal → Reason
reason_for answer = reason_told (by_number answer)

-- What is said of position i between two strands, each of which may be refused.
abbrev pub reason_between : Result Strand Refusal → Result Strand Refusal → ℕ → Result NoCallReason Refusal
reason_between (Err refusal) b i = Err refusal
reason_between (Ok a) (Err refusal) i = Err refusal
reason_between (Ok a) (Ok b) i = reason_of a b i

-- What an entry says of position i: 13 before all else, where what it is given is wrong.
abbrev pub entry_reason : Bool → Strand → Strand → ℕ → Result NoCallReason Refusal
entry_reason wrong a b i = cond wrong (Err Broken) (reason_of a b i)
