-- The claims about a record's positions.
--     kind_again              what the combination made is what the answer goes by
--     own_ab, own_ba          a record of one strand is as long as that strand
--     n_exactly_when_a_reason, elsewhere, worked      the claims
-- Assumes nothing.
use mathlib.Core.Path.{◌≡◌, refl, sym, ap, ◌∙◌}
use Rattle.std.proofs.Common.{Option, Some, None, Result, Ok}
use mathlib.Core.Logic.{◌↔◌}
use mathlib.Core.Bool.{Bool, true, false, cond}
use mathlib.Core.List.{List}
use Prim.Native.Nat.{ℕ, ◌≤◌, ◌<◌}
use lib.Dec.{eqb}
use lib.ListN.{get_or}
use borrow.Author.Tests.{eqb-true, eqb-false, eq-eqb, ne_eqb, lt-ltb, le-ltb}
use Rattle.lists.specs.Output.{put}
use Rattle.lists.proofs.Written.{table_front}
use Rattle.refusals.specs.declared.Refusal.{Refusal}
use Rattle.refusals.specs.Refusal.{refused}
use Rattle.refusals.proofs.Claims.{none_lost}
use Rattle.refusals.proofs.Outcome.{passed_by}
use Rattle.settings.specs.declared.GivenSettings.{GivenSettings}
use Rattle.dna.specs.Dna.{letter_n, upper, same_letter}
use Rattle.duplex_molecule.specs.Molecule.{ct_input}
use Rattle.duplex_arrays.specs.Positions.{position_of, combined_bases}
use Rattle.duplex_outputs.specs.Outputs.{RecordArrays}
use Rattle.duplex_kind.specs.Kind.{Strand, strand_faults, covered, record_length, kind_of, record_kind}
use Rattle.duplex_kind.specs.declared.DuplexConsensus.{DuplexConsensus}
use Rattle.duplex_kind.specs.declared.DuplexConsensus.TheVariants.{Ab, Ba, Both}
use Rattle.duplex_kind.proofs.Kind.{taken}
use Rattle.duplex_record.specs.Record.{record_arrays, duplex_faults, duplex_refused}
use Rattle.duplex_reason.specs.Reason.{called_by, holds, reason_at}
use Rattle.duplex_reason.specs.Record.{shown_at, reason_in, reason_told, reason_of}
use Rattle.duplex_reason.specs.declared.NoCallReason.TheVariants.{Called}
use Rattle.reason_claims.specs.Reasons.{Made, tells_reason, NExactlyWhenAReason, Elsewhere, Worked}
use Rattle.reason_claims.proofs.Conditions.{only_reasons}
use Rattle.reason_claims.proofs.Quality.{shows_n}

module _ (lab : GivenSettings) (a b : Strand) (before now : RecordArrays) {kind : Option DuplexConsensus} (made : Made lab a b before now kind) where
  abbrev row : Option Refusal
  row = duplex_refused a b made.listed made.count made.leaving before

  not_refused : (row ≡ None) × (kind_of a b ≡ kind)
  not_refused = passed_by row (kind_of a b) (sym made.call.answered)

  -- Rows 7 and 8 do not refuse the strands, whatever the reads.
  strands_pass : refused (strand_faults a b false 0 false) ≡ None
  strands_pass =
      let clear = none_lost (duplex_faults a b made.listed made.count made.leaving before) not_refused.0 in
      rw (clear.0, clear.1.0)

  kind_again : record_kind a b false 0 false ≡ Ok kind
  kind_again = sym (taken a b false 0 false strands_pass) ∙ ap Ok not_refused.1

  answered : (i : ℕ) → reason_of a b i ≡ Ok (reason_in kind (shown_at a i) (shown_at b i) i)
  answered i = ap (λ (k : Result (Option DuplexConsensus) Refusal). reason_told k (shown_at a i) (shown_at b i) i) kind_again

-- A record of one strand, by which of the strands count.
own_ab : (p q : Bool) (k x y : ℕ) {n : ℕ} → cond p (cond q (Some (Both k)) (Some (Ab x))) (cond q (Some (Ba y)) None) ≡ Some (Ab n) → n ≡ x
own_ab true true k x y e = absurd cc
own_ab true false k x y e = cc
own_ab false true k x y e = absurd cc
own_ab false false k x y e = absurd cc

own_ba : (p q : Bool) (k x y : ℕ) {n : ℕ} → cond p (cond q (Some (Both k)) (Some (Ab x))) (cond q (Some (Ba y)) None) ≡ Some (Ba n) → n ≡ y
own_ba true true k x y e = absurd cc
own_ba true false k x y e = absurd cc
own_ba false true k x y e = cc
own_ba false false k x y e = absurd cc

pub elsewhere : Elsewhere
elsewhere = record {
  past_both = λ lab a b before now n i made h. answered lab a b before now made i ∙ rw (le-ltb i n h);
  past_ab = λ lab a b before now n i made h. answered lab a b before now made i ∙ rw (le-ltb i n h);
  past_ba = λ lab a b before now n i made h. answered lab a b before now made i ∙ rw (le-ltb i n h);
  none = λ lab a b before now i made. answered lab a b before now made i;
  in_ab = λ lab a b before now n i made h. answered lab a b before now made i ∙ rw (lt-ltb i n h);
  in_ba = λ lab a b before now n i made h. answered lab a b before now made i ∙ rw (lt-ltb i n h);
  own_ab = λ lab a b before now n made. own_ab (covered (record_length a b) a) (covered (record_length a b) b) _ _ _ (not_refused lab a b before now made).1;
  own_ba = λ lab a b before now n made. own_ba (covered (record_length a b) a) (covered (record_length a b) b) _ _ _ (not_refused lab a b before now made).1;
}

module _ (lab : GivenSettings) (a b : Strand) (before now : RecordArrays) (n i : ℕ) (least : 3 ≤ lab.ceiling) (made : Made lab a b before now (Some (Both n))) (h : i < n) where
  -- The base that was written.
  base_is_lem : get_or now.bases i 0 ≡ (position_of lab.ceiling (ct_input a.annotation b.annotation) a.arrays b.arrays i).base
  unfolding combined_bases
  base_is_lem =
      let (passes, kind) = not_refused lab a b before now made in
      let left : now.bases ≡ put (record_arrays lab a b made.listed made.counted (kind_of a b)).bases before.bases = rw passes at made.call.outputs.bases in
      ap (λ (xs : List ℕ). get_or xs i 0) (rw kind at left) ∙ table_front 0 n _ before.bases i h

  answer_is : reason_of a b i ≡ Ok (reason_at (shown_at a i) (shown_at b i))
  answer_is = answered lab a b before now made i ∙ rw (lt-ltb i n h)

  same : eqb (get_or now.bases i 0) letter_n ≡ tells_reason (reason_of a b i)
  same = ap (λ (x : ℕ). eqb x letter_n) base_is_lem ∙ shows_n lab.ceiling (shown_at a i) (shown_at b i) least ∙ sym (ap tells_reason answer_is)

  exactly : (get_or now.bases i 0 ≡ letter_n ↔ tells_reason (reason_of a b i) ≡ true) × ((get_or now.bases i 0 ≡ letter_n → ⊥) ↔ reason_of a b i ≡ Ok Called)
  exactly =
      let base = get_or now.bases i 0 in (
        (λ e. sym same ∙ eq-eqb base letter_n e, λ e. eqb-true base letter_n (same ∙ e)),
        (
          λ e. answer_is ∙ ap Ok (only_reasons (shown_at a i) (shown_at b i) (sym (ap tells_reason answer_is) ∙ sym same ∙ ne_eqb base letter_n e)),
          λ e. eqb-false base letter_n (same ∙ ap tells_reason e),
        ),
      )

pub n_exactly_when_a_reason : NExactlyWhenAReason
n_exactly_when_a_reason = exactly

-- Each row is computed.
pub worked : Worked
unfolding reason_at holds called_by upper same_letter
worked = record {
  b_alone = refl;
  a_alone = refl;
  both = refl;
  n_before = refl;
  equal = refl;
  by_2 = refl;
  by_1 = refl;
  by_3 = refl;
  sum = refl;
  sum_of_3 = refl;
  lower_n_is = refl;
  alone = refl;
  marked = refl;
  alone_from_b = refl;
  call_sum = refl;
  one_pattern = refl;
}
