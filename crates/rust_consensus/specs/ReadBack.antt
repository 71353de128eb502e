-- Each answer can be read back from its numbers, so that a member which stands for another breaks this, in the code and its definition
-- alike. Of two strands combined and of a strand alone the answer is how many positions are written.
use Rattle.replies.specs.ReadBack.{AnswersBack}
use Rattle.replies.specs.Replies.{count_reply}
use Rattle.replies.specs.declared.Count.{Count}

pub record ReadBack : Type 0 where
  pub written : AnswersBack count_reply (λ (r : Count). r.refused) (λ (r : Count). r.count)
