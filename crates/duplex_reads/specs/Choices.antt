-- What a number stands for where a program chooses a read type: 0 is a fragment, 1 R1, 2 R2. Any other is refused as 13.
use Rattle.std.specs.Prelude.{ℕ, Bool, cond, Result, Ok, Err, eqb, ltb}
use Rattle.refusals.specs.declared.Refusal.{Refusal}
use Rattle.refusals.specs.declared.Refusal.TheVariants.{Broken}
use Rattle.duplex_reads.specs.declared.ReadType.{ReadType}
use Rattle.duplex_reads.specs.declared.ReadType.TheVariants.{Fragment, R1, R2}

abbrev pub read_type_of : ℕ → ReadType
read_type_of number = cond (eqb number 0) Fragment (cond (eqb number 1) R1 R2)

abbrev pub wrong_read_type : ℕ → Bool
wrong_read_type number = ltb 2 number

abbrev pub read_type_in : ℕ → Result ReadType Refusal
read_type_in number = cond (wrong_read_type number) (Err Broken) (Ok (read_type_of number))
