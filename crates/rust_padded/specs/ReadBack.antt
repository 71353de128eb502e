-- Each answer can be read back from its numbers, so that a member which stands for another breaks this, in the code and its definition
-- alike.
use Rattle.methylation.specs.Choices.{annotation_of}
use Rattle.replies.specs.ReadBack.{AnswersBack}
use Rattle.replies.specs.declared.Number.{Number}
use Rattle.rust_padded.specs.Answers.{padded_number}

-- The number stands for the annotation as a program chooses one.
abbrev pub ReadBack : Type 0
ReadBack = AnswersBack padded_number (λ (r : Number). r.refused) (λ (r : Number). annotation_of r.number)
