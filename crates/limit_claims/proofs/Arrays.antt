-- The claims of specs/Arrays.antt.
--     within_more, over_less     a strand within a limit is within a higher one; one over it is over a lower one
--     each_array, not_looked_at, in_positions, later     the claims
-- Assumes nothing.
use mathlib.Core.Path.{◌≡◌, refl, sym, ap, ◌∙◌}
use mathlib.Core.Bool.{Bool, true, false, cond, ◌||◌, or-true, true≢false}
use mathlib.Core.List.{[], ◌∷◌}
use Prim.Native.Nat.{ℕ, ◌≤◌, ◌<◌}
use native.Mathlib.Omega.{arith}
use lib.ListN.{length}
use borrow.Author.Tests.{le-ltb}
use Rattle.std.proofs.Common.{Option, Some, None}
use Rattle.refusals.specs.declared.Refusal.TheVariants.{Broken, NoThresholds, TooManyThresholds, XyAboveTotal, YxAboveXy, CeilingOutside, Ragged, TooManyReads, PartOutside, BelowLength, OutputTooShort, NoMi, NoStrand}
use Rattle.refusals.proofs.Condition.{neither}
use Rattle.methylation.specs.declared.ConversionPattern.{ConversionPattern}
use Rattle.methylation.specs.Arrays.{evidence_lengths}
use Rattle.vanilla_caller.specs.Strand.{Arrays, lengths}
use Rattle.vanilla_caller.specs.declared.Lengths.{Lengths}
use Rattle.duplex_kind.specs.Kind.{Given}
use Rattle.duplex_kind.specs.Limit.{over_in}
use Rattle.duplex_kind.proofs.Limit.{over_more, no_array, no_evidence}
use Rattle.molecule_strand.proofs.Kind.{same_given}
use Rattle.limit_claims.specs.Arrays.{Over, Within, UpTo, present_over, EachArray, NotLookedAt, InPositions, Later}

module _ (limit other : ℕ) (more : limit ≤ other) (a b : Option Lengths) where
  pub within_more : Within limit a b → Within other a b
  within_more w =
      let (first, second) = neither (over_in limit a) (over_in limit b) w in
      rw (over_more limit other more a first, over_more limit other more b second)

  pub over_less : Over other a b → Over limit a b
  over_less e = go (over_in limit a || over_in limit b) refl
    where
      go : (met : Bool) → (over_in limit a || over_in limit b) ≡ met → Over limit a b
      go true h = h
      go false h = absurd (true≢false (sym e ∙ within_more h))

met : (t : Bool) → (t ≡ false → ⊥) → t ≡ true
met true h = refl
met false h = absurd (h refl)

-- Of a strand that is not over the limit no array is.
module _ (limit : ℕ) (annotation : Option ConversionPattern) (x : Arrays) where
  by_own : (n : ℕ) → (present_over limit annotation x ≡ false → n ≤ limit) → limit < n → present_over limit annotation x ≡ true
  by_own n fits h = met (present_over limit annotation x) (λ e. let less = fits e in omega arith)

pub each_array : EachArray
each_array limit = record {
  bases = λ annotation x h. by_own limit annotation x (length x.bases) (λ e. (no_array limit (lengths annotation x) e).0) h;
  quals = λ annotation x h. by_own limit annotation x (length x.quals) (λ e. (no_array limit (lengths annotation x) e).1.0) h;
  depths = λ annotation x h. by_own limit annotation x (length x.depths) (λ e. (no_array limit (lengths annotation x) e).1.1.0) h;
  errors = λ annotation x h. by_own limit annotation x (length x.errors) (λ e. (no_array limit (lengths annotation x) e).1.1.1.0) h;
  marks = λ pattern x h.
      by_own limit (Some pattern) x (length x.evidence.marks) (λ e. (no_evidence limit (lengths (Some pattern) x) e (evidence_lengths x.evidence) refl).0) h;
  unconverted = λ pattern x h.
      by_own limit (Some pattern) x (length x.evidence.unconverted) (λ e. (no_evidence limit (lengths (Some pattern) x) e (evidence_lengths x.evidence) refl).1.0) h;
  converted = λ pattern x h.
      by_own limit (Some pattern) x (length x.evidence.converted) (λ e. (no_evidence limit (lengths (Some pattern) x) e (evidence_lengths x.evidence) refl).1.1.0) h;
  taken = λ annotation x h. within annotation x h;
  first = λ a b h. rw h;
  second = λ a b h. rw (h, or-true (over_in limit a));
}
  where
    within : (annotation : Option ConversionPattern) (x : Arrays) → UpTo limit x → present_over limit annotation x ≡ false
    within None x h = rw (le-ltb limit (length x.bases) h.bases, le-ltb limit (length x.quals) h.quals, le-ltb limit (length x.depths) h.depths, le-ltb limit (length x.errors) h.errors)
    within (Some pattern) x h =
        rw
        (le-ltb limit (length x.bases) h.bases, le-ltb limit (length x.quals) h.quals, le-ltb limit (length x.depths) h.depths, le-ltb limit (length x.errors) h.errors, le-ltb limit (length x.evidence.marks) h.marks, le-ltb limit (length x.evidence.unconverted) h.unconverted, le-ltb limit (length x.evidence.converted) h.converted)

pub not_looked_at : NotLookedAt
not_looked_at = record { evidence = λ present x e. refl; absent_strand = λ limit annotation x. refl }

pub in_positions : InPositions
in_positions s = ap (λ (g : Given). cond g.present (Some g.lengths) None) (sym (same_given s))

pub later : Later
later = record {
  earlier = Broken ∷ NoThresholds ∷ TooManyThresholds ∷ XyAboveTotal ∷ YxAboveXy ∷ CeilingOutside ∷ [];
  later = Ragged ∷ TooManyReads ∷ PartOutside ∷ BelowLength ∷ OutputTooShort ∷ NoMi ∷ NoStrand ∷ [];
  split = refl;
}
