-- What is said between two strands as numbers tell of them: 13 where an annotation is wrong, and nothing of an absent strand is looked
-- at, nor evidence without an annotation. Assumes nothing.
use mathlib.Core.Path.{◌≡◌, refl, ap, ◌∙◌}
use mathlib.Core.Bool.{Bool, true, false, cond, ◌&&◌, ◌||◌}
use mathlib.Core.List.{[]}
use Prim.Native.Nat.{ℕ}
use Rattle.std.proofs.Common.{Option, None, Result, Ok, Err}
use Rattle.refusals.specs.declared.Refusal.{Refusal}
use Rattle.refusals.specs.declared.Refusal.TheVariants.{Broken}
use Rattle.methylation.specs.declared.ConversionPattern.{ConversionPattern}
use Rattle.methylation.specs.Choices.{annotation_of, wrong_annotation}
use Rattle.replies.specs.Choices.{yes}
use Rattle.vanilla_caller.specs.Strand.{Arrays, arrays, arrays_seen}
use Rattle.duplex_kind.specs.Kind.{Strand, strand, given_of}
use Rattle.duplex_reply.specs.Strand.{strand_by, wrong_strand}
use Rattle.duplex_reason.specs.declared.NoCallReason.{NoCallReason}
use Rattle.duplex_reason.proofs.Absent.{not_looked_at}
use Rattle.rust_reason.specs.Reply.{entry_reason, reason_between}

module _ (m n : Option ConversionPattern) (x y : Arrays) (i : ℕ) where
  abbrev by : Bool → Bool → Option ConversionPattern → Arrays → Result Strand Refusal
  by present wrong annotation arrays = cond present (cond wrong (Err Broken) (Ok (strand true annotation arrays))) (Ok (given_of None))

  by_cases :
      (p v q w : Bool)
      → reason_between (by p v m x) (by q w n y) i ≡ entry_reason ((p && v) || (q && w)) (strand p m x) (strand q n y) i
  by_cases true true q w = refl
  by_cases true false true true = refl
  by_cases true false true false = refl
  by_cases true false false w = not_looked_at.second (strand true m x) None n (arrays [] [] [] [] [] [] []) y i
  by_cases false v true true = refl
  by_cases false v true false = not_looked_at.first None m (arrays [] [] [] [] [] [] []) x (strand true n y) i
  by_cases false v false w = refl

between :
    (p m q n : ℕ) (x y : Arrays) (i : ℕ)
    → reason_between (strand_by p m x) (strand_by q n y) i
    ≡ entry_reason (wrong_strand p m || wrong_strand q n) (strand (yes p) (annotation_of m) x) (strand (yes q) (annotation_of n) y) i
between p m q n x y i =
    by_cases (annotation_of m) (annotation_of n) x y i (yes p) (wrong_annotation m) (yes q) (wrong_annotation n)

pub told :
    (p m q n : ℕ) (x y : Arrays) (i : ℕ) {s t : Result Strand Refusal} {r : Result NoCallReason Refusal}
    → s ≡ strand_by p m (arrays_seen (annotation_of m) x)
    → t ≡ strand_by q n (arrays_seen (annotation_of n) y)
    → r ≡ reason_between s t i
    → r ≡ entry_reason (wrong_strand p m || wrong_strand q n) (strand (yes p) (annotation_of m) x) (strand (yes q) (annotation_of n) y) i
told p m q n x y i {r = r} e f h =
    let by_numbers : r ≡ reason_between (strand_by p m (arrays_seen (annotation_of m) x)) (strand_by q n (arrays_seen (annotation_of n) y)) i = rw (e, f) at h in
    by_numbers
    ∙ between p m q n (arrays_seen (annotation_of m) x) (arrays_seen (annotation_of n) y) i
    ∙ ap (λ (said : Result NoCallReason Refusal). cond (wrong_strand p m || wrong_strand q n) (Err Broken) said) (not_looked_at.evidence (strand (yes p) (annotation_of m) x) (strand (yes q) (annotation_of n) y) i)
