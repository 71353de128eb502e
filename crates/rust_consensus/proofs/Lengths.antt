-- What the call that tests two strands by a lab's limit answers, by the arrays that were lent for them. Assumes nothing.
use mathlib.Core.Path.{◌≡◌, ap, ◌∙◌}
use Prim.Native.Nat.{ℕ}
use Rattle.std.proofs.Common.{Option, Some, Result}
use Rattle.refusals.specs.declared.Refusal.{Refusal}
use Rattle.refusals.specs.Refusal.{refused}
use Rattle.refusals.specs.Outcome.{answer}
use Rattle.methylation.specs.declared.ConversionPattern.{ConversionPattern}
use Rattle.vanilla_caller.specs.Strand.{Arrays, annotation_in, arrays_in, arrays_seen, lengths}
use Rattle.vanilla_caller.specs.declared.Lengths.{Lengths}
use Rattle.vanilla_caller.specs.declared.VanillaConsensusRead.{VanillaConsensusRead}
use Rattle.vanilla_caller.proofs.Strand.{lengths_seen}
use Rattle.duplex_kind.specs.Limit.{length_faults}
use Rattle.duplex_kind.proofs.Limit.{same_lengths}

-- A strand s of this annotation that was lent these arrays, the evidence beside them.
pub record Lent (s : VanillaConsensusRead) (annotation : Option ConversionPattern) (x : Arrays) : Type 0 where
  pub annotation_is : annotation_in s ≡ annotation
  pub arrays_are : arrays_in s ≡ arrays_seen annotation x

as_long : {s : VanillaConsensusRead} {annotation : Option ConversionPattern} {x : Arrays} {l : Lengths} → Lent s annotation x → l ≡ lengths (annotation_in s) (arrays_in s) → l ≡ lengths annotation x
as_long {s} {annotation} {x} {l} lent h =
    h
    ∙ ap (λ (m : Option ConversionPattern). lengths m (arrays_in s)) lent.annotation_is
    ∙ ap (λ (y : Arrays). lengths annotation y) lent.arrays_are
    ∙ lengths_seen annotation x

pub limit_tested :
    {limit other : ℕ} {a b : VanillaConsensusRead} {m n : Option ConversionPattern} {x y : Arrays} {k l : Lengths} {r : Result (Unit {0}) Refusal}
    → Lent a m x
    → Lent b n y
    → k ≡ lengths (annotation_in a) (arrays_in a)
    → l ≡ lengths (annotation_in b) (arrays_in b)
    → limit ≡ other
    → r ≡ answer (refused (length_faults limit (Some k) (Some l))) tt
    → r ≡ answer (refused (length_faults other (Some (lengths m x)) (Some (lengths n y)))) tt
limit_tested lent_a lent_b e f g h = same_lengths _ _ _ h g (ap Some (as_long lent_a e)) (ap Some (as_long lent_b f))
