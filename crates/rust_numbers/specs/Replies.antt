-- The library's answers as numbers.
use Rattle.std.specs.Prelude.{Result, Ok, Err, Float, ℕ, Bool, cond, Option, None, Some}
use Rattle.std.specs.Float.{binary32}
use Rattle.std.specs.Float.Ieee.{to_bits}
use Rattle.methylation.specs.Choices.{pattern_number}
use Rattle.methylation.specs.declared.PatternBases.{PatternBases}
use Rattle.duplex_molecule.specs.declared.MoleculeCall.{MoleculeCall}
use Rattle.replies.specs.Replies.{no_number, numbered}
use Rattle.refusals.specs.declared.Refusal.{Refusal}
use Rattle.refusals.specs.Refusal.{number_of}
use Rattle.replies.specs.declared.Number.{Number}
use Rattle.rust_numbers.specs.declared.Bases.{Bases}
use Rattle.rust_numbers.specs.declared.Call.{Call}

-- 0: no; 1: yes.
abbrev pub bit : Bool → ℕ
bit met = cond met 1 0

-- The rate's bits.
abbrev pub rate_reply : Result Float Refusal → Number
rate_reply (Ok rate) = numbered (to_bits binary32 rate)
rate_reply (Err refusal) = no_number (number_of refusal)

abbrev pub no_bases : ℕ → Bases
no_bases number = record { refused = number; reference = 0; unconverted = 0; converted = 0 }

abbrev pub bases_reply : PatternBases → Bases
bases_reply b = record { refused = 0; reference = b.reference; unconverted = b.unconverted; converted = b.converted }

abbrev pub letters_reply : Result PatternBases Refusal → Bases
letters_reply (Ok letters) = bases_reply letters
letters_reply (Err refusal) = no_bases (number_of refusal)

-- Without a call all are 0.
abbrev pub call_reply : Option MoleculeCall → Call
call_reply None = record { pattern = 0; call = 0; confirmed = 0 }
call_reply (Some made) = record { pattern = pattern_number made.pattern; call = made.call; confirmed = made.confirmed }
