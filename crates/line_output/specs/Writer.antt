-- What a writer of texts leaves.
use Rattle.std.specs.Prelude.{ℕ, ◌≡◌, List, length, take}
use Rattle.std.specs.Borrow.{MutBor}
use Rattle.std.specs.Fn.{Once, FnOnceReturnsAtMut}
use Rattle.lists.specs.Output.{put}
use Rattle.line_output.specs.Text.{Appended}
use Rattle.line_output.specs.declared.Writer.{Writer}

-- After a writer was told to write a text: the text from its place on, and its place behind that. The output is where it was, so that
-- who lent it knows what it holds.
pub record Writes (text : List ℕ) (before now : Writer) : Type 0 where
  pub same_reference : now.out.ghost_name ≡ before.out.ghost_name
  pub appended : Appended text before.at before.out.now now.out.now now.at

-- The same of a function that is called on the part of the output from the place on: any text of which it leaves as much as there is
-- room for, and whose length it answers.
pub record WritesBy {F : Type 0} (g : Once F (MutBor (List ℕ) × Unit {0}) (ℕ × (MutBor (List ℕ) × Unit {0}))) (write : F) (before now : Writer) : Type 0 where
  pub room : List ℕ
  pub left : List ℕ
  pub answer : ℕ
  pub called : FnOnceReturnsAtMut g write room answer left
  pub writes : (text : List ℕ) → answer ≡ length text → left ≡ put (take (length room) text) room → Writes text before now
