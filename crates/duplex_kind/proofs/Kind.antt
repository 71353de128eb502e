-- What a record's kind says of what was given.
--     few_record                it has no more than 1,024 positions where neither strand has
--     taken                     the answer of `record_kind` where no row refuses
--     is_refused, is_none       what such an answer says: the row, or that there is none and the kind
--     is_ab, is_ba, is_both     the same with the record's length, and that the strands that count pass rows 7 and 8
-- Assumes nothing.
use mathlib.Core.Path.{◌≡◌, refl, sym, ap, subst, ◌∙◌}
use mathlib.Core.Bool.{Bool, true, false, cond, ◌&&◌, true≢false}
use Prim.Native.Nat.{ℕ, ◌≤◌, min}
use native.Mathlib.Omega.{arith}
use Rattle.std.proofs.Common.{Option, Some, None, Ok, Err}
use Rattle.refusals.specs.declared.Refusal.{Refusal}
use Rattle.refusals.specs.Refusal.{refused}
use Rattle.refusals.specs.Outcome.{answer}
use Rattle.refusals.proofs.Claims.{none_lost}
use Rattle.refusals.proofs.Condition.{both_hold, neither}
use Rattle.refusals.proofs.Outcome.{refused_by, passed_by}
use Rattle.vanilla_caller.specs.Strand.{lengths, strand_too_long, strand_ragged}
use Rattle.duplex_kind.specs.Kind.{Strand, given, positions, record_length, covered, kind_of, long, uneven, strand_faults, record_kind}
use Rattle.duplex_kind.specs.declared.DuplexConsensus.{DuplexConsensus}
use Rattle.duplex_kind.specs.declared.DuplexConsensus.TheVariants.{Ab, Ba, Both}

abbrev kind : ℕ → ℕ → ℕ → Bool → Bool → Option DuplexConsensus
kind n a b in_a in_b = cond in_a (cond in_b (Some (Both n)) (Some (Ab a))) (cond in_b (Some (Ba b)) None)

-- What each kind says of the two tests.
abbrev Says : ℕ → ℕ → ℕ → Bool → Bool → Option DuplexConsensus → Type 0
Says n a b in_a in_b None = Unit {0}
Says n a b in_a in_b (Some (Ab m)) = (in_a ≡ true) × (m ≡ a)
Says n a b in_a in_b (Some (Ba m)) = (in_b ≡ true) × (m ≡ b)
Says n a b in_a in_b (Some (Both m)) = (in_a ≡ true) × (in_b ≡ true) × (m ≡ n)

says : (n a b : ℕ) (in_a in_b : Bool) → Says n a b in_a in_b (kind n a b in_a in_b)
says n a b true true = (refl, refl, refl)
says n a b true false = (refl, refl)
says n a b false true = (refl, refl)
says n a b false false = tt

-- A condition on a strand that is present.
where_present : (present met : Bool) → (present && met) ≡ false → present ≡ true → met ≡ false
where_present true met e h = e
where_present false met e h = absurd (true≢false (sym h))

-- A strand passes rows 7 and 8.
pub record Passes (s : Strand) : Type 0 where
  pub not_long : strand_too_long (lengths s.annotation s.arrays) ≡ false
  pub not_uneven : strand_ragged (lengths s.annotation s.arrays) ≡ false

pub few_record : (a b : Strand) → positions a ≤ 1024 → positions b ≤ 1024 → record_length a b ≤ 1024
few_record a b ha hb = go a.present b.present
  where
    go : (pa pb : Bool) → cond pa (cond pb (min (positions a) (positions b)) (positions a)) (cond pb (positions b) 0) ≤ 1024
    go true true = omega arith
    go true false = ha
    go false true = hb
    go false false = omega arith

module _ (a b : Strand) where
  abbrev says_of : Option DuplexConsensus → Type 0
  says_of = Says (record_length a b) (positions a) (positions b) (covered (record_length a b) a) (covered (record_length a b) b)

  of_kind : {r : Option DuplexConsensus} → kind_of a b ≡ r → says_of r
  of_kind e = subst says_of e (says (record_length a b) (positions a) (positions b) (covered (record_length a b) a) (covered (record_length a b) b))

  -- A strand that counts is present.
  there : (s : Strand) → covered (record_length a b) s ≡ true → s.present ≡ true
  there s h = (both_hold s.present _ h).0

  module _ (listed : Bool) (count : ℕ) (leaving : Bool) where
    -- The row that refuses, of those that are tested over all that is given.
    abbrev pub refused_given : Option Refusal
    refused_given = refused (strand_faults a b listed count leaving)

    -- What the code answers where no row refuses.
    pub taken : refused_given ≡ None → Ok (kind_of a b) ≡ record_kind a b listed count leaving
    taken z = ap (λ (row : Option Refusal). answer row (kind_of a b)) (sym z)

    strands_pass : refused_given ≡ None → (a.present ≡ true → Passes a) × (b.present ≡ true → Passes b)
    strands_pass z =
        let clear = none_lost (strand_faults a b listed count leaving) z in
        let (long_a, long_b) = neither (long (given a)) (long (given b)) clear.0 in
        let (uneven_a, uneven_b) = neither (uneven (given a)) (uneven (given b)) clear.1.0 in (
          λ h. record { not_long = where_present a.present _ long_a h; not_uneven = where_present a.present _ uneven_a h },
          λ h. record { not_long = where_present b.present _ long_b h; not_uneven = where_present b.present _ uneven_b h },
        )

    pub is_refused : {m : Refusal} → record_kind a b listed count leaving ≡ Err m → refused_given ≡ Some m
    is_refused e = refused_by refused_given (kind_of a b) e

    module _ {m : ℕ} where
      pub is_ab : record_kind a b listed count leaving ≡ Ok (Some (Ab m)) → (refused_given ≡ None) × (kind_of a b ≡ Some (Ab (positions a))) × Passes a
      is_ab e =
          let (z, k) = passed_by refused_given (kind_of a b) e in
          let (here, length) = of_kind k in
          (z, rw length at k, (strands_pass z).0 (there a here))

      pub is_ba : record_kind a b listed count leaving ≡ Ok (Some (Ba m)) → (refused_given ≡ None) × (kind_of a b ≡ Some (Ba (positions b))) × Passes b
      is_ba e =
          let (z, k) = passed_by refused_given (kind_of a b) e in
          let (here, length) = of_kind k in
          (z, rw length at k, (strands_pass z).1 (there b here))

      pub is_both : record_kind a b listed count leaving ≡ Ok (Some (Both m)) → (refused_given ≡ None) × (kind_of a b ≡ Some (Both (min (positions a) (positions b)))) × Passes a × Passes b
      is_both e =
          let (z, k) = passed_by refused_given (kind_of a b) e in
          let (here, other, length) = of_kind k in
          let in_a = there a here in
          let in_b = there b other in
          let shorter : record_length a b ≡ min (positions a) (positions b) = rw (in_a, in_b) in
          (z, subst (λ (n : ℕ). kind_of a b ≡ Some (Both n)) (length ∙ shorter) k, (strands_pass z).0 in_a, (strands_pass z).1 in_b)

    pub is_none : record_kind a b listed count leaving ≡ Ok None → (refused_given ≡ None) × (kind_of a b ≡ None)
    is_none e = passed_by refused_given (kind_of a b) e
