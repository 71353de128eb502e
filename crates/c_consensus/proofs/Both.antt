-- What is written of a record of two strands, whose marks stand in arrays and whose counts do not.
--     positions_written    bases and qualities
--     errors_written       errors: the estimate, or what was counted of a list's reads
-- Assumes nothing.
use mathlib.Core.Path.{◌≡◌, refl, sym, ap, ◌∙◌}
use mathlib.Core.Bool.{Bool, true, false, cond}
use mathlib.Core.List.{List, [], ◌∷◌}
use Prim.Native.Nat.{ℕ, ◌/◌, ◌≤◌}
use native.Mathlib.Nat.{min-eq_left}
use native.Mathlib.Omega.{arith}
use lib.ListN.{length, take, replicate, length-replicate, get_or-replicate}
use Rattle.std.proofs.Common.{Option, Some, None}
use Rattle.lists.specs.Output.{put}
use Rattle.lists.specs.Table.{tabulate}
use Rattle.lists.proofs.Output.{front_of}
use Rattle.lists.proofs.Table.{length_tabulate, tabulate_equal}
use Rattle.lists.proofs.Written.{put_more}
use Rattle.refusals.proofs.Condition.{Every, neither, not_too_long}
use Rattle.refusals.specs.Refusal.{too_long}
use Rattle.methylation.specs.Methylation.{is_annotated}
use Rattle.methylation.specs.declared.ConversionPattern.{ConversionPattern}
use Rattle.byte_numbers.specs.Bytes.{bytes16, number_of}
use Rattle.byte_numbers.proofs.Groups.{length_by_group}
use Rattle.vanilla_caller.specs.Strand.{Arrays, lengths, four}
use Rattle.molecule_evidence.specs.Evidence.{mark_in}
use Rattle.molecule_strand.specs.Strand.{StrandBytes, strand_of}
use Rattle.molecule_reads.specs.Run.{reads_of}
use Rattle.molecule_errors.specs.Run.{run_errors}
use Rattle.duplex_molecule.specs.Molecule.{ct_input, can_call}
use Rattle.duplex_molecule.specs.declared.CtInput.{CtInput}
use Rattle.duplex_arrays.specs.Positions.{combined_bases, combined_quals, estimates, combined_errors, uncounted, positions_short, errors_short, PositionsAs}
use Rattle.duplex_arrays.proofs.Short.{long_enough, put_all}
use Rattle.duplex_kind.proofs.Kind.{Passes}
use Rattle.duplex_consensus.specs.Consensus.{bases_of, combined_of, list_errors}
use Rattle.duplex_consensus.proofs.Counting.{Reach, from_zeros}
use Rattle.source_reads.specs.Reads.{read_errors, expected_at, counted_errors}
use Rattle.source_reads.proofs.Counted.{few_errors}
use Rattle.c_consensus.specs.Parts.{marked_strand, errors_left}
use Rattle.c_consensus.proofs.Read.{Lengths}
use Rattle.c_consensus.proofs.Written.{put_errors}

-- Where there may be calls both strands are annotated.
both_annotated : (p q : Option ConversionPattern) → can_call (ct_input p q) ≡ true → (is_annotated p ≡ true) × (is_annotated q ≡ true)
unfolding ct_input
both_annotated None q e = absurd cc
both_annotated (Some p) None e = absurd cc
both_annotated (Some p) (Some q) e = (refl, refl)

-- A strand that passes has no more positions than it may have.
pub no_longer : (s : StrandBytes) → Passes (strand_of s) → length s.bases ≤ 1024
unfolding strand_of
no_longer s p =
    let own = four (lengths s.annotation (strand_of s).arrays) in
    (not_too_long own (neither (too_long own) _ p.not_long).0).0

module _ (a b : StrandBytes) (n : ℕ) (of_a : Lengths a) (of_b : Lengths b) (in_a : n ≤ length a.bases) (in_b : n ≤ length b.bases) where
  abbrev ct : CtInput
  ct = ct_input a.annotation b.annotation

  abbrev A : Arrays
  A = (marked_strand a).arrays

  abbrev B : Arrays
  B = (marked_strand b).arrays

  abbrev first : Arrays
  first = (strand_of a).arrays

  abbrev second : Arrays
  second = (strand_of b).arrays

  pub positions_written :
      (ceiling : ℕ) {bases quals bases_now quals_now : List ℕ}
      → n ≤ length bases
      → n ≤ length quals
      → PositionsAs ceiling n ct A B bases quals bases_now quals_now
      → (bases_now ≡ put (combined_bases ceiling n ct first second) bases) × (quals_now ≡ put (combined_quals ceiling n ct first second) quals)
  unfolding strand_of combined_bases combined_quals
  positions_written ceiling {bases} {quals} f g p =
      let marked : can_call ct ≡ true → Every (λ x. n ≤ x) (length A.evidence.marks ∷ length B.evidence.marks ∷ []) =
      λ e.
      (let (p, q) = both_annotated a.annotation b.annotation e in
      (omega (arith, length_by_group 9 mark_in a.evidence, of_a.evidence p), (omega (arith, length_by_group 9 mark_in b.evidence, of_b.evidence q), tt)))
      in
      let enough : positions_short n ct A B bases quals ≡ false = long_enough n (can_call ct) (length A.evidence.marks ∷ length B.evidence.marks ∷ []) (length A.bases ∷ length A.quals ∷ length B.bases ∷ length B.quals ∷ length bases ∷ length quals ∷ []) marked (in_a, (omega (arith, of_a.quals), (in_b, (omega (arith, of_b.quals), (f, (g, tt)))))) in
      (put_all (combined_bases ceiling n ct A B) bases enough p.bases_now, put_all (combined_quals ceiling n ct A B) quals enough p.quals_now)

  -- The estimate, written to the front of an array.
  estimated : (errors : List ℕ) → n ≤ length errors → take n (errors_left ct false n A B errors) ≡ estimates n ct first second
  unfolding strand_of combined_errors estimates
  estimated errors room =
      let enough : errors_short n A B errors ≡ false =
      long_enough n false []
      (length A.bases ∷ length A.quals ∷ length A.depths ∷ length A.errors ∷ length B.bases ∷ length B.quals ∷ length B.depths ∷ length B.errors ∷ length errors ∷ [])
      (λ c. tt)
      (in_a, (omega (arith, of_a.quals), (omega (arith, length_by_group 2 number_of a.depths, of_a.depths), (omega (arith, length_by_group 2 number_of a.errors, of_a.errors), (in_b, (omega (arith, of_b.quals), (omega (arith, length_by_group 2 number_of b.depths, of_b.depths), (omega (arith, length_by_group 2 number_of b.errors, of_b.errors), (room, tt)))))))))
      in
      front_of (estimates n ct A B) errors (put_all (estimates n ct A B) errors enough refl) (sym (length_tabulate n _))

  module _ (run : List ℕ) (places : ℕ) (room : n ≤ places) (few : n ≤ 1024) (few_reads : length (reads_of run) ≤ 1024) where
    abbrev zeros : List ℕ
    zeros = replicate places 0

    abbrev counted : ℕ → ℕ
    counted = run_errors (strand_of a) (strand_of b) run

    reach : Reach (reads_of run) run (combined_of (strand_of a) (strand_of b) n) zeros
    unfolding strand_of
    reach = record {
      a = in_a;
      qa = omega (arith, of_a.quals);
      b = in_b;
      qb = omega (arith, of_b.quals);
      own = omega (arith, room, length-replicate {A = ℕ} places 0);
      few = few;
    }

    cleared : zeros ≡ put (tabulate n uncounted) zeros
    unfolding put tabulate
    cleared = put_more 0 n uncounted zeros 0 (omega arith) (omega (arith, room, length-replicate {A = ℕ} places 0)) (λ i l h. sym (get_or-replicate places i 0 0 (omega arith)))

    -- The number of errors is held by itself.
    held : (i : ℕ) → read_errors run (expected_at ct (bases_of first) (bases_of second) i) i (reads_of run) ≡ counted i
    unfolding list_errors strand_of
    held i = sym (min-eq_left (omega (arith, few_reads, few_errors run (expected_at ct (bases_of first) (bases_of second) i) i (reads_of run))))

    -- What was counted over zeros is at the front.
    counted_front : take n (counted_errors (reads_of run) run (combined_of (strand_of a) (strand_of b) n) zeros) ≡ tabulate n counted
    unfolding strand_of
    counted_front =
        let at = λ (i : ℕ). read_errors run (expected_at ct (bases_of first) (bases_of second) i) i (reads_of run) in
        front_of (tabulate n at) zeros (from_zeros (reads_of run) run (combined_of (strand_of a) (strand_of b) n) zeros reach (omega (arith, few_reads)) cleared) (sym (length_tabulate n at))
        ∙ tabulate_equal n at counted (λ i h. held i)

  -- With a list or without.
  pub errors_written :
      (listed : Bool) (run : List ℕ) (places : ℕ) (errors out : List ℕ)
      → n ≤ places
      → n ≤ 1024
      → (listed ≡ true → length (reads_of run) ≤ 1024)
      → errors ≡ cond listed (counted_errors (reads_of run) run (combined_of (strand_of a) (strand_of b) n) (replicate places 0)) (replicate places 0)
      → n ≤ length out / 2
      → put (bytes16 (take (length out / 2) (take n (errors_left ct listed n A B errors)))) out ≡ put (bytes16 (combined_errors listed (run_errors (strand_of a) (strand_of b) run) n ct first second)) out
  unfolding combined_errors estimates
  errors_written true run places errors out room few reads e fits =
      let size = length_tabulate n (run_errors (strand_of a) (strand_of b) run) in
      put_errors (tabulate n (run_errors (strand_of a) (strand_of b) run)) out n errors (ap (take n) e ∙ counted_front run places room few (reads refl)) (omega (arith, size))
  errors_written false run places errors out room few reads e fits =
      put_errors (estimates n ct first second) out n (errors_left ct false n A B errors) (estimated errors (omega (arith, room, ap length e, length-replicate {A = ℕ} places 0))) (omega (arith, size))
    where
      size : length (estimates n ct first second) ≡ n
      size = length_tabulate n _
