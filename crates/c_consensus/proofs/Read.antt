-- A strand whose depths, errors and marks were read to arrays of n places each.
--     as_long                   how long its bytes are
--     marks_size                how long its array of marks is
--     Whole, whole              where row 7 and row 8 let it pass, all of it was read
-- Assumes nothing.
use mathlib.Core.Path.{◌≡◌, refl, ap, ◌∙◌}
use mathlib.Core.Bool.{true}
use mathlib.Core.List.{List}
use Prim.Native.Nat.{ℕ, ◌/◌, ◌≤◌}
use native.Mathlib.Omega.{arith}
use lib.ListN.{length, take, replicate, length-take, length-replicate}
use lib.Seq.{take-nil}
use Rattle.std.proofs.Common.{Option, Some, None}
use Rattle.lists.specs.Part.{only_if}
use Rattle.lists.proofs.Output.{length_put}
use Rattle.methylation.specs.Methylation.{is_annotated}
use Rattle.methylation.specs.declared.ConversionPattern.{ConversionPattern}
use Rattle.byte_numbers.specs.Bytes.{number_of, words16}
use Rattle.byte_numbers.proofs.Groups.{length_by_group, read_front}
use Rattle.vanilla_caller.proofs.Strand.{even}
use Rattle.molecule_evidence.specs.Evidence.{mark_in, marks_of}
use Rattle.duplex_kind.proofs.Kind.{Passes}
use Rattle.molecule_strand.specs.Strand.{StrandBytes, Numbers, StrandRead, evidence_seen, strand_of}
use Rattle.c_consensus.specs.Parts.{zero_numbers, strand_read, marked_strand}

-- How long the arrays of a strand are that passes.
pub record Lengths (s : StrandBytes) : Type 0 where
  pub quals : length s.quals ≡ length s.bases
  pub depths : length s.depths / 2 ≡ length s.bases
  pub errors : length s.errors / 2 ≡ length s.bases
  pub evidence : is_annotated s.annotation ≡ true → length s.evidence / 9 ≡ length s.bases

pub as_long : (s : StrandBytes) → Passes (strand_of s) → Lengths s
unfolding strand_of
as_long s p =
    let same = even s.annotation (strand_of s).arrays p.not_uneven in
    record {
      quals = same.own.0;
      depths = rw (length_by_group 2 number_of s.depths) at same.own.1.0;
      errors = rw (length_by_group 2 number_of s.errors) at same.own.1.1.0;
      evidence = λ k. rw (length_by_group 9 mark_in s.evidence) at (same.evidence k).0;
    }

module _ (n : ℕ) (s : StrandBytes) {x : Numbers} (h : StrandRead s (zero_numbers n) x) where
  pub marks_size : length x.marks ≡ n
  marks_size =
      let zeros : List ℕ = replicate n 0 in
      let front = take (length zeros) (marks_of (evidence_seen s)) in
      ap length h.marks ∙ length_put front zeros (omega (arith, length-take (length zeros) (marks_of (evidence_seen s)))) ∙ length-replicate {A = ℕ} n 0

  pub depths_read : length s.depths / 2 ≤ n → take (length s.depths / 2) x.depths ≡ words16 s.depths
  depths_read few = read_front 2 number_of s.depths (replicate n 0) (omega (arith, few, length-replicate {A = ℕ} n 0)) h.depths

  -- Without an annotation no evidence is looked at.
  evidence_fits : evidence_seen s ≡ s.evidence → Lengths s → length s.bases ≤ n → length (evidence_seen s) / 9 ≤ n
  unfolding only_if
  evidence_fits seen l few = go s.annotation refl
    where
      go : (m : Option ConversionPattern) → s.annotation ≡ m → length (evidence_seen s) / 9 ≤ n
      go None e = rw e (omega arith)
      go (Some pattern) e = rw seen (omega (arith, l.evidence (rw e refl)))

  -- What is at the front of the arrays.
  pub record Whole : Type 0 where
    pub depths : take (length s.depths / 2) x.depths ≡ words16 s.depths
    pub errors : take (length s.errors / 2) x.errors ≡ words16 s.errors
    pub marks : take (length s.evidence / 9) x.marks ≡ marks_of s.evidence

  pub whole : evidence_seen s ≡ s.evidence → Lengths s → length s.bases ≤ n → Whole
  whole seen l few =
      let size = length-replicate {A = ℕ} n 0 in
      record {
        depths = depths_read (omega (arith, l.depths));
        errors = read_front 2 number_of s.errors (replicate n 0) (omega (arith, l.errors)) h.errors;
        marks = rw seen at (read_front 9 mark_in (evidence_seen s) (replicate n 0) (omega (arith, evidence_fits seen l few)) h.marks);
      }

  pub strand_whole : evidence_seen s ≡ s.evidence → Whole → strand_read s x ≡ marked_strand s
  strand_whole seen w = rw (seen, w.depths, w.errors, w.marks, take-nil (length s.evidence / 9)) refl
