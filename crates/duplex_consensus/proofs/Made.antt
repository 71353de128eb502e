-- What the call that makes the record and the count after it leave together.
--     with_errors    a record with other errors
--     counted_as     the record as it is promised, where the errors of a record of two strands with a list were left 0 and then
--                    counted, and all others were left as they were
-- Assumes nothing.
use mathlib.Core.Path.{◌≡◌, refl, sym, ap, ◌∙◌}
use mathlib.Core.Bool.{Bool, true, false, ◌&&◌}
use mathlib.Core.List.{List, [], ◌∷◌}
use Prim.Native.Nat.{ℕ, ◌≤◌, min}
use native.Mathlib.Nat.{min-eq_left}
use native.Mathlib.Omega.{arith}
use borrow.Author.Tests.{ltb-false}
use lib.ListN.{length}
use Rattle.std.proofs.Common.{Option, Some, None, Result, Ok}
use Rattle.lists.specs.Output.{put}
use Rattle.lists.specs.Table.{tabulate}
use Rattle.lists.proofs.Output.{put_equal}
use Rattle.lists.proofs.Table.{tabulate_equal}
use Rattle.refusals.specs.declared.Refusal.{Refusal}
use Rattle.refusals.specs.Refusal.{Fault, ◌if◌, refused as refused_by, too_long}
use Rattle.refusals.specs.declared.Refusal.TheVariants.{TooLong, Ragged, TooManyReads, PartOutside, OutputTooShort}
use Rattle.refusals.specs.Claims.{Clear}
use Rattle.refusals.specs.Outcome.{answer, after}
use Rattle.refusals.proofs.Claims.{none_lost}
use Rattle.refusals.proofs.Condition.{neither, not_too_long}
use Rattle.caller.specs.Short.{short}
use Rattle.settings.specs.declared.GivenSettings.{GivenSettings}
use Rattle.vanilla_caller.specs.Strand.{lengths, four}
use Rattle.vanilla_caller.proofs.Strand.{even}
use Rattle.duplex_molecule.specs.Molecule.{ct_input}
use Rattle.duplex_molecule.specs.declared.CtInput.{CtInput}
use Rattle.duplex_outputs.specs.Outputs.{RecordArrays, record_lengths, record_too_short, LeavesRecord}
use Rattle.duplex_outputs.proofs.Outputs.{roomy}
use Rattle.duplex_strands.specs.Combine.{uncounted, combined_errors}
use Rattle.duplex_kind.specs.Kind.{Strand, positions, kind_of, strand_faults}
use Rattle.duplex_kind.specs.declared.DuplexConsensus.{DuplexConsensus}
use Rattle.duplex_kind.specs.declared.DuplexConsensus.TheVariants.{Ab, Ba, Both}
use Rattle.duplex_kind.proofs.Kind.{Passes, taken, is_both}
use Rattle.duplex_record.specs.Record.{record_arrays, outputs_short, duplex_faults, duplex_refused, DuplexAs}
use Rattle.source_reads.specs.Reads.{any_leaves, read_errors, expected_at, counted_errors}
use Rattle.source_reads.specs.declared.SourceRead.{SourceRead}
use Rattle.source_reads.proofs.Counted.{few_errors}
use Rattle.duplex_consensus.specs.Consensus.{bases_of, combined_of, list_errors, counted_positions, ConsensusAs}
use Rattle.duplex_consensus.proofs.Counting.{none_asked, Reach, from_zeros}

-- Where five rows do not refuse, the first four do not.
first_passed : (long uneven many outside short : Bool)
    → refused_by ((TooLong if long) ∷ (Ragged if uneven) ∷ (TooManyReads if many) ∷ (PartOutside if outside) ∷ (OutputTooShort if short) ∷ []) ≡ None
    → refused_by ((TooLong if long) ∷ (Ragged if uneven) ∷ (TooManyReads if many) ∷ (PartOutside if outside) ∷ []) ≡ None
first_passed true uneven many outside short h = absurd cc
first_passed false true many outside short h = absurd cc
first_passed false false true outside short h = absurd cc
first_passed false false false true short h = absurd cc
first_passed false false false false short h = refl

-- A strand that passes row 8 has as many qualities as bases.
as_many : (s : Strand) → Passes s → length s.arrays.quals ≡ positions s
as_many s p = (even s.annotation s.arrays p.not_uneven).own.0

-- A strand that passes has no more positions than it may have.
no_longer : (s : Strand) → Passes s → positions s ≤ 1024
no_longer s p =
    let own = four (lengths s.annotation s.arrays) in
    (not_too_long own (neither (too_long own) _ p.not_long).0).0

module _ (a b : Strand) (reads : List SourceRead) (bytes : List ℕ) (before : RecordArrays) where
  abbrev outside : Bool
  outside = any_leaves (length bytes) reads

  abbrev ct : CtInput
  ct = ct_input a.annotation b.annotation

  abbrev counted : ℕ → ℕ
  counted = list_errors reads bytes ct a.arrays b.arrays

  abbrev refused : Bool → Bool → Option Refusal
  refused listed leaving = duplex_refused a b listed (length reads) leaving before

  -- Refusal 10 is tested only with a list.
  same_refusal : (listed : Bool) → refused listed (listed && outside) ≡ refused listed outside
  same_refusal true = refl
  same_refusal false = refl

  module _ {n : ℕ} (z : refused true outside ≡ None) (k : kind_of a b ≡ Some (Both n)) where
    abbrev faults : List Fault
    faults = duplex_faults a b true (length reads) outside before

    clear : Clear faults
    clear = none_lost faults z

    few : length reads ≤ 1024
    few = ltb-false 1024 (length reads) clear.1.1.0

    room : n ≤ length before.errors
    room =
        let enough : record_too_short n (record_lengths a.annotation b.annotation before) ≡ false = ap (outputs_short a b before) (sym k) ∙ clear.1.1.1.1.0 in
        (roomy n a.annotation b.annotation before enough).own.1.1.0

    early : refused_by (strand_faults a b true (length reads) outside) ≡ None
    early = first_passed _ _ _ _ _ z

    -- Both strands are there and even, and the record is as long as the shorter.
    reach : Reach reads bytes (combined_of a b n) before.errors
    reach =
        let (_, kind, passes_a, passes_b) = is_both a b true (length reads) outside (sym (taken a b true (length reads) outside early) ∙ ap Ok k) in
        let shorter : n ≡ min (positions a) (positions b) = cc in
        record {
          a = omega arith;
          qa = omega (arith, as_many a passes_a);
          b = omega arith;
          qb = omega (arith, as_many b passes_b);
          own = room;
          few = omega (arith, no_longer a passes_a);
        }

    -- The number of errors is held by itself.
    held : (i : ℕ) → read_errors bytes (expected_at ct (bases_of a.arrays) (bases_of b.arrays) i) i reads ≡ counted i
    unfolding list_errors
    held i = sym (min-eq_left (omega (arith, few, few_errors bytes (expected_at ct (bases_of a.arrays) (bases_of b.arrays) i) i reads)))

  module _ {made us : List ℕ} {p : ℕ} (e : us ≡ counted_errors reads bytes (combined_of a b p) made) where
    -- Nothing is counted.
    as_made : p ≡ 0 → us ≡ made
    as_made q = e ∙ ap (λ (m : ℕ). counted_errors reads bytes (combined_of a b m) made) q ∙ none_asked reads bytes ct (bases_of a.arrays) (bases_of b.arrays) made

    -- All n positions are.
    as_counted : {n : ℕ} → refused true outside ≡ None → kind_of a b ≡ Some (Both n) → made ≡ put (tabulate n uncounted) before.errors → p ≡ n → us ≡ put (tabulate n counted) before.errors
    as_counted {n} z k f q =
        e
        ∙ ap (λ (m : ℕ). counted_errors reads bytes (combined_of a b m) made) q
        ∙ from_zeros reads bytes (combined_of a b n) before.errors (reach z k) (omega (arith, few z k)) f
        ∙ put_equal before.errors (tabulate_equal n _ counted (λ i l. held z k i))

    -- The errors, by the number of the refusal and the record's kind.
    errors : (lab : GivenSettings) (listed : Bool) (row : Option Refusal) (kind : Option DuplexConsensus) {r : Result (Option DuplexConsensus) Refusal}
        → refused listed outside ≡ row
        → kind_of a b ≡ kind
        → r ≡ answer row kind
        → made ≡ after row (record_arrays lab a b listed uncounted kind).errors before.errors
        → p ≡ counted_positions listed r
        → us ≡ after row (record_arrays lab a b listed counted kind).errors before.errors
    unfolding combined_errors
    errors lab listed (Some row) kind z k s f q = as_made (q ∙ ap (counted_positions listed) s) ∙ f
    errors lab listed None None z k s f q = as_made (q ∙ ap (counted_positions listed) s) ∙ f
    errors lab listed None (Some (Ab n)) z k s f q = as_made (q ∙ ap (counted_positions listed) s) ∙ f
    errors lab listed None (Some (Ba n)) z k s f q = as_made (q ∙ ap (counted_positions listed) s) ∙ f
    errors lab true None (Some (Both n)) z k s f q = as_counted z k f (q ∙ ap (counted_positions true) s)
    errors lab false None (Some (Both n)) z k s f q = as_made (q ∙ ap (counted_positions false) s) ∙ f

-- All but the errors is what it was, whatever is counted.
abbrev pub with_errors : List ℕ → RecordArrays → RecordArrays
with_errors us r = record { bases = r.bases; quals = r.quals; errors = us; a = r.a; b = r.b }

only_errors : (lab : GivenSettings) (a b : Strand) (listed : Bool) (f g : ℕ → ℕ) (kind : Option DuplexConsensus) → with_errors (record_arrays lab a b listed g kind).errors (record_arrays lab a b listed f kind) ≡ record_arrays lab a b listed g kind
only_errors lab a b listed f g None = refl
only_errors lab a b listed f g (Some (Ab n)) = refl
only_errors lab a b listed f g (Some (Ba n)) = refl
only_errors lab a b listed f g (Some (Both n)) = refl

leaves_errors : (row : Option Refusal) (w : RecordArrays) {us xs : List ℕ} {before made : RecordArrays}
    → LeavesRecord row w before made
    → us ≡ after row xs before.errors
    → LeavesRecord row (with_errors xs w) before (with_errors us made)
leaves_errors row w l e = record {
  bases = l.bases;
  quals = l.quals;
  errors = e;
  a = l.a;
  b = l.b;
}

pub counted_as :
    (lab : GivenSettings) (a b : Strand) (listed : Bool) (reads : List SourceRead) (bytes : List ℕ) (before made : RecordArrays) {r : Result (Option DuplexConsensus) Refusal} {leaving : Bool} {p : ℕ} {us : List ℕ}
    → leaving ≡ (listed && any_leaves (length bytes) reads)
    → DuplexAs lab a b listed (length reads) leaving uncounted before made r
    → p ≡ counted_positions listed r
    → us ≡ counted_errors reads bytes (combined_of a b p) made.errors
    → ConsensusAs lab a b listed reads bytes before (with_errors us made) r
counted_as lab a b listed reads bytes before made {r} l d q e =
    let f = counted a b reads bytes before in
    let number = refused a b reads bytes before listed (outside a b reads bytes before) in
    let same : duplex_refused a b listed (length reads) _ before ≡ number = ap (λ (x : Bool). duplex_refused a b listed (length reads) x before) l ∙ same_refusal a b reads bytes before listed in
    let answered : r ≡ answer number (kind_of a b) = d.answered ∙ ap (λ (n : Option Refusal). answer n (kind_of a b)) same in
    let left : LeavesRecord number (record_arrays lab a b listed uncounted (kind_of a b)) before made = rw (← same) d.outputs in
    record {
      answered = answered;
      outputs = rw (← only_errors lab a b listed uncounted f (kind_of a b)) (leaves_errors number _ left (errors a b reads bytes before e lab listed number (kind_of a b) refl refl answered left.errors q));
    }
