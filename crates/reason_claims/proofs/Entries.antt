-- The claim of specs/Entries.antt.
--     same_reason       the answer is by what is looked at
--     says              an answer is said by its numbers
--     same_answer       the claim
-- Assumes nothing.
use mathlib.Core.Path.{◌≡◌, refl, sym, ap₂, ◌∙◌}
use mathlib.Core.Bool.{Bool, true, false}
use Prim.Native.Nat.{ℕ}
use Rattle.std.proofs.Common.{Option, None, Result, Ok, Err}
use Rattle.refusals.specs.declared.Refusal.{Refusal}
use Rattle.methylation.specs.declared.ConversionPattern.{ConversionPattern}
use Rattle.vanilla_caller.specs.Strand.{Arrays, arrays_seen}
use Rattle.duplex_kind.specs.Absent.{seen_of}
use Rattle.duplex_kind.specs.Kind.{Strand, strand, given_of}
use Rattle.duplex_reason.specs.Record.{reason_of}
use Rattle.duplex_reason.specs.declared.NoCallReason.{NoCallReason}
use Rattle.duplex_reason.proofs.Absent as reason
use Rattle.rust_reason.specs.Reply.{reason_for}
use Rattle.rust_reason.specs.declared.Reason.{Reason}
use Rattle.rust_reason.proofs.ReadBack.{read_back}
use Rattle.reason_claims.specs.Entries.{looked_at, Asked, Says, SameAnswer}

first_looked_at : (p : Bool) (m : Option ConversionPattern) (x : Arrays) (b : Strand) (i : ℕ) → reason_of (looked_at (strand p m x)) b i ≡ reason_of (seen_of (strand p m x)) b i
first_looked_at true m x b i = refl
first_looked_at false m x b i = reason.not_looked_at.first None m (given_of None).arrays (arrays_seen m x) b i

second_looked_at : (a : Strand) (p : Bool) (m : Option ConversionPattern) (x : Arrays) (i : ℕ) → reason_of a (looked_at (strand p m x)) i ≡ reason_of a (seen_of (strand p m x)) i
second_looked_at a true m x i = refl
second_looked_at a false m x i = reason.not_looked_at.second a None m (given_of None).arrays (arrays_seen m x) i

same_reason : (a b : Strand) (i : ℕ) → reason_of (looked_at a) (looked_at b) i ≡ reason_of a b i
same_reason a b i =
    first_looked_at a.present a.annotation a.arrays (looked_at b) i
    ∙ second_looked_at (seen_of a) b.present b.annotation b.arrays i
    ∙ reason.not_looked_at.evidence a b i

answered : (a b : Strand) (i : ℕ) {answer : Result NoCallReason Refusal} → Asked a b i answer → answer ≡ reason_of a b i
answered a b i asked = asked.call ∙ ap₂ (λ (s t : Strand). reason_of s t i) (sym asked.same_a) (sym asked.same_b) ∙ same_reason a b i

says : (answer : Result NoCallReason Refusal) → Says (reason_for answer) answer
says (Err row) = (refl, refl)
says (Ok reason) = (refl, read_back.answers reason)

said : (reply : Reason) {answer told : Result NoCallReason Refusal} → reply ≡ reason_for told → answer ≡ told → Says reply answer
said reply {told = told} e f = rw (e, f) (says told)

pub same_answer : SameAnswer
same_answer = record {
  from_bytes = λ wrong a b i reply answer e passes asked. said reply (rw passes at e) (answered _ _ i asked);
  from_numbers = λ wrong a b i reply answer e passes asked. said reply (rw passes at e) (answered a b i asked);
  broken_bytes = λ wrong a b i reply e met. rw met at e;
  wrong_numbers = λ wrong a b i reply e met. rw met at e;
}
