-- Each answer can be read back from its numbers, so that a number which stands for another answer breaks this, in the code and its
-- definition alike.
use Rattle.std.specs.Prelude.{ℕ, Option, Some, None, ◌≡◌, cond, false, eqb, Ok, Err}
use Rattle.refusals.specs.declared.Refusal.{Refusal}
use Rattle.refusals.specs.Refusal.{number_of}
use Rattle.duplex_reason.specs.declared.NoCallReason.{NoCallReason}
use Rattle.duplex_reason.specs.declared.NoCallReason.TheVariants.{Outside, SingleStrand, Called, ANoCall, BNoCall, BothNoCall, EqualQualities, CloseQualities, LowSum, LowConfirming}
use Rattle.rust_reason.specs.Reply.{reason_told, reason_for}

-- What a program takes from an answer that is no refusal; any other number stands for none.
abbrev pub named : ℕ → Option NoCallReason
named number =
    cond (eqb number 1) (Some Outside)
    (cond (eqb number 2) (Some SingleStrand)
    (cond (eqb number 3) (Some Called)
    (cond (eqb number 4) (Some ANoCall)
    (cond (eqb number 5) (Some BNoCall)
    (cond (eqb number 6) (Some BothNoCall)
    (cond (eqb number 7) (Some EqualQualities)
    (cond (eqb number 8) (Some CloseQualities)
    (cond (eqb number 9) (Some LowSum)
    (cond (eqb number 10) (Some LowConfirming) None)))))))))

pub record ReadBack : Type 0 where
  pub handed_on : (number : ℕ) → reason_told (Err number) ≡ record { refused = number; reason = 0 }
  pub refusals : (row : Refusal) → reason_for (Err row) ≡ record { refused = number_of row; reason = 0 }
  pub passes : (x : NoCallReason) → (reason_for (Ok x)).refused ≡ 0
  pub answers : (x : NoCallReason) → named (reason_for (Ok x)).reason ≡ Some x

-- A refusal has reason 0, an answer that is none has another.
pub record ReasonBack : Type 0 where
  pub refused : (row : Refusal) → (reason_for (Err row)).reason ≡ 0
  pub answered : (reason : NoCallReason) → eqb (reason_for (Ok reason)).reason 0 ≡ false
