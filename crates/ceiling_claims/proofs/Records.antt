-- The claims of specs/Records.antt.
--     same_evidence, same_errors, left_same       what is left of errors and evidence, twice
--     Lowering, lowered_put, lowered_after        qualities that are written, at two ceilings
--     Written, lowered_record, of_kind            a record that is written, by its kind
--     of_two_strands, none_above, uncapped, errors_by_any        the claims
-- Assumes nothing.
use mathlib.Core.Path.{◌≡◌, refl, sym, ap, ◌∙◌}
use mathlib.Core.Bool.{Bool, true, false}
use mathlib.Core.List.{List}
use Prim.Native.Nat.{ℕ, ◌+◌, ◌≤◌, min}
use native.Mathlib.Omega.{arith}
use lib.Dec.{ltb}
use lib.ListN.{length, drop, get_or, get_or-eq_default, length-append}
use borrow.Author.Tests.{ltb-true, ltb-false}
use Rattle.std.proofs.Common.{Option, Some, None, Ok}
use Rattle.lists.specs.Output.{put}
use Rattle.lists.specs.Table.{tabulate}
use Rattle.lists.proofs.Table.{length_tabulate, get_d_tabulate, tabulate_equal}
use Rattle.lists.proofs.Written.{get_d_put, get_d_behind}
use Rattle.refusals.specs.declared.Refusal.{Refusal}
use Rattle.refusals.specs.Outcome.{answer, after}
use Rattle.refusals.proofs.Outcome.{passed_by}
use Rattle.settings.specs.declared.GivenSettings.{GivenSettings}
use Rattle.methylation.specs.declared.ConversionPattern.{ConversionPattern}
use Rattle.methylation.specs.Arrays.{EvidenceArrays, evidence_arrays, LeavesEvidence}
use Rattle.vanilla_caller.specs.Strand.{Arrays, lengths}
use Rattle.duplex_molecule.specs.Molecule.{ct_input}
use Rattle.duplex_molecule.specs.declared.CtInput.{CtInput}
use Rattle.duplex_arrays.specs.Positions.{position_of, combined_bases, combined_quals}
use Rattle.duplex_outputs.specs.Outputs.{RecordArrays, LeavesRecord}
use Rattle.duplex_strands.specs.Combine.{uncounted, both_arrays, common_length, combine_refused}
use Rattle.duplex_kind.specs.Kind.{Strand, kind_of}
use Rattle.duplex_kind.specs.declared.DuplexConsensus.{DuplexConsensus}
use Rattle.duplex_kind.specs.declared.DuplexConsensus.TheVariants.{Ab, Ba, Both}
use Rattle.duplex_record.specs.Record.{record_arrays, duplex_refused, DuplexAs}
use Rattle.ceiling_claims.specs.Positions.{Ceilings}
use Rattle.ceiling_claims.specs.Records.{of_two, combined_in, LoweredQuals, LoweredRecord, OfTwoStrands, NoneAbove, Uncapped, SameErrors, ErrorsByAny}
use Rattle.ceiling_claims.proofs.Positions.{at_a_position}

pub same_evidence : (row : Option Refusal) (written before one other : EvidenceArrays) → LeavesEvidence row written before one → LeavesEvidence row written before other → one ≡ other
same_evidence row written before one other l m =
    let marks = l.marks ∙ sym m.marks in
    let unconverted = l.unconverted ∙ sym m.unconverted in
    let converted = l.converted ∙ sym m.converted in
    let whole : evidence_arrays one.marks one.unconverted one.converted ≡ evidence_arrays other.marks other.unconverted other.converted = cc in
    whole

pub same_errors : {x : List ℕ} {a b : EvidenceArrays} {bases quals other_bases other_quals : List ℕ}
    → SameErrors (record { bases = bases; quals = quals; errors = x; a = a; b = b }) (record { bases = other_bases; quals = other_quals; errors = x; a = a; b = b })
same_errors = record { errors = refl; evidence_a = refl; evidence_b = refl }

-- Qualities that are written at two ceilings: of two strands are some of those that are there.
pub record Lowering (ceiling n : ℕ) (lower higher : List ℕ) : Type 0 where
  pub reach : n ≤ length lower
  pub lowered : LoweredQuals ceiling n lower higher

pub same_quals : (ceiling : ℕ) (xs : List ℕ) → Lowering ceiling 0 xs xs
same_quals ceiling xs = record {
  reach = omega arith;
  lowered = record { places = refl; two_strands = λ i h. absurd (omega arith); others = λ i h. refl };
}

whole : (xs out : List ℕ) → length (put xs out) ≡ length xs + length (drop (length xs) out)
unfolding put
whole xs out = length-append xs (drop (length xs) out)

lowered_put : (ceiling n : ℕ) (lower higher out : List ℕ) → Lowering ceiling n lower higher → Lowering ceiling n (put lower out) (put higher out)
lowered_put ceiling n lower higher out l = record {
  reach = omega (arith, l.reach, whole lower out);
  lowered = record {
    places = size;
    two_strands = λ i h. get_d_put lower out i 0 (omega (arith, l.reach)) ∙ l.lowered.two_strands i h ∙ sym (ap (λ (q : ℕ). min ceiling q) (get_d_put higher out i 0 (omega (arith, l.reach, l.lowered.places))));
    others = λ i h. go i h (ltb i (length lower)) refl;
  };
}
  where
    size : length (put lower out) ≡ length (put higher out)
    size = whole lower out ∙ ap (λ (k : ℕ). k + length (drop k out)) l.lowered.places ∙ sym (whole higher out)

    go : (i : ℕ) → n ≤ i → (t : Bool) → ltb i (length lower) ≡ t → get_or (put lower out) i 0 ≡ get_or (put higher out) i 0
    go i h true e =
        let front = ltb-true i (length lower) e in
        get_d_put lower out i 0 front ∙ l.lowered.others i h ∙ sym (get_d_put higher out i 0 (omega (arith, l.lowered.places)))
    go i h false e =
        let behind = ltb-false i (length lower) e in
        get_d_behind lower out i 0 behind ∙ sym (get_d_behind higher out i 0 (omega (arith, l.lowered.places)))

-- So many are written where no row refuses.
abbrev pub written_of : Option Refusal → ℕ → ℕ
written_of None n = n
written_of (Some row) n = 0

pub lowered_after :
    (row : Option Refusal) (ceiling n : ℕ) (lower higher out : List ℕ)
    → Lowering ceiling n lower higher
    → Lowering ceiling (written_of row n) (after row lower out) (after row higher out)
lowered_after None ceiling n lower higher out l = lowered_put ceiling n lower higher out l
lowered_after (Some row) ceiling n lower higher out l = same_quals ceiling out

-- Arrays that two calls would write, of which n positions are of two strands.
pub record Written (ceiling n : ℕ) (lower higher : RecordArrays) : Type 0 where
  pub bases : lower.bases ≡ higher.bases
  pub quals : Lowering ceiling n lower.quals higher.quals
  pub same : SameErrors lower higher

-- What these calls leave.
left_same :
    (row : Option Refusal) {x y before one other : RecordArrays}
    → LeavesRecord row x before one
    → LeavesRecord row y before other
    → SameErrors x y
    → SameErrors one other
left_same row {x} {y} {before} {one} {other} l m same = record {
  errors = l.errors ∙ ap (λ (xs : List ℕ). after row xs before.errors) same.errors ∙ sym m.errors;
  evidence_a = same_evidence row y.a before.a one.a other.a (rw same.evidence_a at l.a) m.a;
  evidence_b = same_evidence row y.b before.b one.b other.b (rw same.evidence_b at l.b) m.b;
}

lowered_record :
    (row : Option Refusal) (ceiling n : ℕ) {x y before lower higher : RecordArrays}
    → LeavesRecord row x before lower
    → LeavesRecord row y before higher
    → Written ceiling n x y
    → LoweredRecord ceiling (written_of row n) lower higher
lowered_record row ceiling n {x} {y} {before} {lower} {higher} l h w =
    let left = left_same row l h w.same in
    let q : Lowering ceiling (written_of row n) lower.quals higher.quals = rw (l.quals, h.quals) (lowered_after row ceiling n x.quals y.quals before.quals w.quals) in
    record {
      bases = l.bases ∙ ap (λ (xs : List ℕ). after row xs before.bases) w.bases ∙ sym h.bases;
      quals = q.lowered;
      errors = left.errors;
      evidence_a = left.evidence_a;
      evidence_b = left.evidence_b;
    }

-- Nothing is written by either.
pub unwritten : (ceiling : ℕ) (before : RecordArrays) → LoweredRecord ceiling 0 before before
unwritten ceiling before = record { bases = refl; quals = (same_quals ceiling before.quals).lowered; errors = refl; evidence_a = refl; evidence_b = refl }

-- Tables of the positions of two strands.
module _ (lower higher : ℕ) (c : Ceilings lower higher) (ct : CtInput) (a b : Arrays) where
  same_bases : (n : ℕ) → combined_bases lower n ct a b ≡ combined_bases higher n ct a b
  unfolding combined_bases
  same_bases n = tabulate_equal n _ _ (λ i h. (at_a_position lower higher ct _ _ _ _ _ _ c).base)

  lowered_quals : (n : ℕ) → Lowering lower n (combined_quals lower n ct a b) (combined_quals higher n ct a b)
  unfolding combined_quals
  lowered_quals n =
      let f = λ (i : ℕ). (position_of lower ct a b i).qual in
      let g = λ (i : ℕ). (position_of higher ct a b i).qual in
      record {
        reach = omega (arith, length_tabulate n f);
        lowered = record {
          places = length_tabulate n f ∙ sym (length_tabulate n g);
          two_strands = λ i h. get_d_tabulate n f i 0 h ∙ (at_a_position lower higher ct _ _ _ _ _ _ c).qual ∙ sym (ap (λ (q : ℕ). min lower q) (get_d_tabulate n g i 0 h));
          others = λ i h. past (tabulate n f) (length_tabulate n f) h ∙ sym (past (tabulate n g) (length_tabulate n g) h);
        };
      }
    where
      past : (xs : List ℕ) {i : ℕ} → length xs ≡ n → n ≤ i → get_or xs i 0 ≡ 0
      past xs {i} e h = get_or-eq_default xs 0 (omega arith)

combined_written : (row : Option Refusal) (n : ℕ) → combined_in (answer row n) ≡ written_of row n
combined_written None n = refl
combined_written (Some row) n = refl

pub made_written : (row : Option Refusal) (kind : Option DuplexConsensus) → of_two (answer row kind) ≡ written_of row (of_two (Ok kind))
made_written None kind = refl
made_written (Some row) kind = refl

-- What is written of two strands, and by the kind of a record.
module _ (lower higher : GivenSettings) (c : Ceilings lower.ceiling higher.ceiling) (listed : Bool) (counted : ℕ → ℕ) where
  of_both :
      (n : ℕ) (ct : CtInput) (ma : Option ConversionPattern) (a : Arrays) (mb : Option ConversionPattern) (b : Arrays)
      → Written lower.ceiling n (both_arrays lower listed counted n ct ma a mb b) (both_arrays higher listed counted n ct ma a mb b)
  of_both n ct ma a mb b = record { bases = same_bases _ _ c ct a b n; quals = lowered_quals _ _ c ct a b n; same = same_errors }

  pub of_kind :
      (a b : Strand) (kind : Option DuplexConsensus)
      → Written lower.ceiling (of_two (Ok kind)) (record_arrays lower a b listed counted kind) (record_arrays higher a b listed counted kind)
  of_kind a b None = record { bases = refl; quals = same_quals _ _; same = same_errors }
  of_kind a b (Some (Ab n)) = record { bases = refl; quals = same_quals _ _; same = same_errors }
  of_kind a b (Some (Ba n)) = record { bases = refl; quals = same_quals _ _; same = same_errors }
  of_kind a b (Some (Both n)) = of_both n (ct_input a.annotation b.annotation) a.annotation a.arrays b.annotation b.arrays

pub of_two_strands : OfTwoStrands
of_two_strands = record {
  written = λ lower higher a b listed counted kind c.
      let w = of_kind lower higher c listed counted a b kind in
      record { bases = w.bases; quals = w.quals.lowered; errors = w.same.errors; evidence_a = w.same.evidence_a; evidence_b = w.same.evidence_b };
  combined = λ lower higher ct ma a mb b listed before at_lower at_higher r s c x y.
      let row = combine_refused ma a mb b before in
      let n = common_length (lengths ma a) (lengths mb b) in
      record {
        answer = x.answered ∙ sym y.answered;
        outputs = rw (x.answered, combined_written row n) (lowered_record row _ n x.outputs y.outputs (of_both lower higher c listed uncounted n ct ma a mb b));
      };
  made = λ lower higher a b listed count leaving counted before at_lower at_higher r s c x y.
      let row = duplex_refused a b listed count leaving before in
      let kind = kind_of a b in
      record {
        answer = x.answered ∙ sym y.answered;
        outputs = rw (x.answered, made_written row kind) (lowered_record row _ (of_two (Ok kind)) x.outputs y.outputs (of_kind lower higher c listed counted a b kind));
      };
}

pub none_above : NoneAbove
none_above lab a b listed count leaving counted before now r i c x h =
    let same = of_two_strands.made lab lab a b listed count leaving counted before now now r r c x x in
    omega (arith, same.outputs.quals.two_strands i h)

-- Of one strand, whatever the ceiling.
module _ (lab : GivenSettings) (a b : Strand) (listed : Bool) (count : ℕ) (leaving : Bool) (counted : ℕ → ℕ) (before now : RecordArrays) where
  own : {kind : Option DuplexConsensus} → DuplexAs lab a b listed count leaving counted before now (Ok kind) → now.quals ≡ put (record_arrays lab a b listed counted kind).quals before.quals
  own {kind} x =
      let (passes, is) = passed_by (duplex_refused a b listed count leaving before) (kind_of a b) (sym x.answered) in
      let left : now.quals ≡ put (record_arrays lab a b listed counted (kind_of a b)).quals before.quals = rw passes at x.outputs.quals in
      rw is at left

pub uncapped : Uncapped
uncapped = record {
  of_a = λ lab a b listed count leaving counted before now n x. own lab a b listed count leaving counted before now x;
  of_b = λ lab a b listed count leaving counted before now n x. own lab a b listed count leaving counted before now x;
}

-- Errors and evidence by the kind of a record.
module _ (lab other : GivenSettings) (a b : Strand) (listed : Bool) (counted : ℕ → ℕ) (row : Option Refusal) (before now also : RecordArrays) where
  unlowered :
      (kind : Option DuplexConsensus)
      → LeavesRecord row (record_arrays lab a b listed counted kind) before now
      → LeavesRecord row (record_arrays other a b listed counted kind) before also
      → SameErrors now also
  unlowered None l m = left_same row l m same_errors
  unlowered (Some (Ab n)) l m = left_same row l m same_errors
  unlowered (Some (Ba n)) l m = left_same row l m same_errors
  unlowered (Some (Both n)) l m = left_same row l m same_errors

pub errors_by_any : ErrorsByAny
errors_by_any lab other a b listed count leaving counted before now also r s x y =
    (x.answered ∙ sym y.answered, unlowered lab other a b listed counted (duplex_refused a b listed count leaving before) before now also (kind_of a b) x.outputs y.outputs)
