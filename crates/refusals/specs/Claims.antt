-- No row of the table can be lost, tests in its order refuse as it says, and what a refused call and one that is not refused leave.
-- These are the claims; proofs/Claims.antt proves them.
use Rattle.std.specs.Prelude.{◌≡◌, cond, false, None, Some, Result, Ok, Err, List, [], ◌∷◌, ℕ, suc, eqb}
use Rattle.lists.specs.Output.{put}
use Rattle.refusals.specs.declared.Refusal.{Refusal}
use Rattle.refusals.specs.Outcome.{answer, after, refused_if}
use Rattle.refusals.specs.Refusal.{Fault, code, number_of, order, sorted, refused, number_or_0}

-- How often a row stands in a list of rows.
abbrev pub times : Refusal → List Refusal → ℕ
times row [] = 0
times row (r ∷ rows) = cond (eqb (code r) (code row)) (suc (times row rows)) (times row rows)

-- The order has each row of the table once.
abbrev pub EachOnce : Type 0
EachOnce = (row : Refusal) → times row order ≡ 1

-- No row answers 0, which says that a call is not refused.
abbrev pub NumberedFrom1 : Type 0
NumberedFrom1 = (row : Refusal) → eqb (number_of row) 0 ≡ false

-- No condition is met: a pair for each fault.
abbrev pub Clear : List Fault → Type 0
Clear [] = Unit {0}
Clear (f ∷ fs) = (f.met ≡ false) × Clear fs

-- A call that is not refused meets none of its conditions, whatever rows it tests, in whatever order it lists them.
abbrev pub NoneLost : Type 0
NoneLost = (fs : List Fault) → refused fs ≡ None → Clear fs

-- The same by the number that C sees.
abbrev pub NoneLostByNumber : Type 0
NoneLostByNumber = (fs : List Fault) → number_or_0 (refused fs) ≡ 0 → Clear fs

-- The tests of the code one after another, each `refuse(..)?`: the first that refuses ends it.
abbrev pub then : Result (Unit {0}) Refusal → Result (Unit {0}) Refusal → Result (Unit {0}) Refusal
then (Ok passed) rest = rest
then (Err row) rest = Err row

abbrev pub chain : List Fault → Result (Unit {0}) Refusal
chain [] = Ok tt
chain (f ∷ fs) = then (refused_if f.met f.row) (chain fs)

-- Tests in the table's order answer the refusal of their faults, in whatever order a definition lists these.
abbrev pub InOrder : Type 0
InOrder = (fs : List Fault) → chain (sorted order fs) ≡ answer (refused fs) tt

-- The same of faults that are listed in the table's order.
abbrev pub ListedInOrder : Type 0
ListedInOrder = (fs : List Fault) → sorted order fs ≡ fs → chain fs ≡ answer (refused fs) tt

-- A refused call answers its refusal and nothing else, and leaves an output as it was.
pub record NothingWritten (A : Type 0) : Type 0 where
  pub answer_refused : (row : Refusal) (x : A) → answer (Some row) x ≡ Err row
  pub after_refused : (row : Refusal) (xs out : List A) → after (Some row) xs out ≡ out

-- A call that is not refused answers what it made, and has it at the front of an output.
pub record AllWritten (A : Type 0) : Type 0 where
  pub answer_passed : (x : A) → answer None x ≡ Ok x
  pub after_passed : (xs out : List A) → after None xs out ≡ put xs out
