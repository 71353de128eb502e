-- Each plain answer can be read back from its numbers, so that a member which stands for another breaks this, in the code and its
-- definition alike.
use Rattle.std.specs.Prelude.{ℕ, ◌≡◌, eqb, Err}
use Rattle.replies.specs.ReadBack.{AnswersBack}
use Rattle.replies.specs.Replies.{count_told, count_reply, number_reply, bit_reply}
use Rattle.replies.specs.declared.Count.{Count}
use Rattle.replies.specs.declared.Number.{Number}

pub record NumbersBack : Type 0 where
  pub handed_on : (number : ℕ) → (count_told (Err number)).refused ≡ number
  pub counts : AnswersBack count_reply (λ (r : Count). r.refused) (λ (r : Count). r.count)
  pub numbers : AnswersBack number_reply (λ (r : Number). r.refused) (λ (r : Number). r.number)
  pub bits : AnswersBack bit_reply (λ (r : Number). r.refused) (λ (r : Number). eqb r.number 1)
