-- Each answer can be read back from its numbers, so that a kind which stands for another breaks this, in the code and its definition
-- alike.
use Rattle.std.specs.Prelude.{ℕ, ◌≡◌, cond, eqb, Option, Some, None, Result, Ok, Err}
use Rattle.refusals.specs.declared.Refusal.{Refusal}
use Rattle.refusals.specs.Refusal.{number_of}
use Rattle.duplex_kind.specs.declared.DuplexConsensus.{DuplexConsensus}
use Rattle.duplex_kind.specs.declared.DuplexConsensus.TheVariants.{Ab, Ba, Both}
use Rattle.replies.specs.ReadBack.{TellsBack}
use Rattle.duplex_reply.specs.Reply.{record_told, record_for}
use Rattle.duplex_reply.specs.declared.DuplexRecord.{DuplexRecord}

-- What a program takes from an answer that is no refusal.
abbrev pub record_back : DuplexRecord → Result (Option DuplexConsensus) Refusal
record_back r =
    Ok
    (cond (eqb r.kind 1) (Some (Ab r.positions)) (cond (eqb r.kind 2) (Some (Ba r.positions)) (cond (eqb r.kind 3) (Some (Both r.positions)) None)))

abbrev pub Told : Option DuplexConsensus → Type 0
Told made = TellsBack record_for (λ (r : DuplexRecord). r.refused) record_back (Ok made)

pub record ReadBack : Type 0 where
  pub handed_on : (number : ℕ) → (record_told (Err number)).refused ≡ number
  pub refusals : (row : Refusal) → (record_for (Err row)).refused ≡ number_of row
  pub none : Told None
  pub ab : (n : ℕ) → Told (Some (Ab n))
  pub ba : (n : ℕ) → Told (Some (Ba n))
  pub both : (n : ℕ) → Told (Some (Both n))
