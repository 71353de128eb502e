-- What is written of a strand alone.
--     single_written     its bytes as they are, errors and evidence by what was read
-- Assumes nothing.
use mathlib.Core.Path.{◌≡◌, refl, ◌∙◌}
use mathlib.Core.Bool.{true}
use mathlib.Core.List.{List}
use Prim.Native.Nat.{ℕ, ◌/◌, ◌≤◌}
use native.Mathlib.Omega.{arith}
use lib.ListN.{length, take}
use Rattle.std.proofs.Common.{Option, Some, None}
use Rattle.lists.specs.Output.{put}
use Rattle.lists.specs.Part.{only_if}
use Rattle.lists.proofs.Output.{put_fitting}
use Rattle.methylation.specs.Arrays.{evidence_arrays, evidence_only_if}
use Rattle.methylation.specs.Methylation.{is_annotated}
use Rattle.methylation.specs.declared.ConversionPattern.{ConversionPattern}
use Rattle.methylation_evidence.specs.Gate.{gated}
use Rattle.byte_numbers.specs.Bytes.{bytes16, words16, number_of}
use Rattle.byte_numbers.specs.Groups.{joined}
use Rattle.byte_numbers.proofs.Groups.{length_by_group}
use Rattle.molecule_evidence.specs.Evidence.{marks_of, unconverted_of, converted_of, evidence_bytes, marked_bytes, positions_marked}
use Rattle.molecule_strand.specs.Strand.{StrandBytes, Numbers, StrandRead, evidence_seen, strand_of}
use Rattle.duplex_single.specs.Single.{single_arrays}
use Rattle.c_record.specs.Outputs.{RecordBytes, as_bytes, written}
use Rattle.c_record.proofs.Outputs.{Room}
use Rattle.c_consensus.specs.Parts.{zero_numbers}
use Rattle.c_consensus.proofs.Consensus.{Puts}
use Rattle.c_consensus.proofs.Read.{Lengths, whole}
use Rattle.c_consensus.proofs.Written.{put_errors, gated_left, none_left}

evidence_written :
    (m : Option ConversionPattern) (n : ℕ) (ev out marks : List ℕ)
    → only_if (is_annotated m) ev ≡ ev
    → (is_annotated m ≡ true → (take n marks ≡ marks_of ev) × (length ev / 9 ≡ n) × (n ≤ length out / 9))
    → (let g = evidence_only_if (is_annotated m) (gated n (evidence_arrays (marks_of ev) (unconverted_of ev) (converted_of ev))) in
    put (marked_bytes (positions_marked (take n marks) ev out) (take n marks) ev) out ≡ put (evidence_bytes g.marks g.unconverted g.converted) out)
unfolding only_if evidence_bytes joined put
evidence_written None n ev out marks e h = rw (← e) (none_left (take n marks) out)
evidence_written (Some pattern) n ev out marks e h =
    let (read, size, room) = h refl in
    gated_left n ev out marks read size room

-- What the code says of its outputs.
pub record Copied (s : StrandBytes) (n : ℕ) (counts marks : List ℕ) (before now : RecordBytes) : Type 0 where
  pub bases : now.bases ≡ put (take (length before.bases) s.bases) before.bases
  pub quals : now.quals ≡ put (take (length before.quals) s.quals) before.quals
  pub errors : now.errors ≡ put (bytes16 (take (length before.errors / 2) (take n counts))) before.errors
  pub evidence_a : now.evidence_a ≡ put (marked_bytes (positions_marked (take n marks) s.evidence before.evidence_a) (take n marks) s.evidence) before.evidence_a
  pub evidence_b : now.evidence_b ≡ before.evidence_b

module _ (places : ℕ) (s : StrandBytes) {x : Numbers} (h : StrandRead s (zero_numbers places) x) (seen : evidence_seen s ≡ s.evidence) (l : Lengths s) (few : length s.bases ≤ places) where
  pub single_written :
      {before now : RecordBytes}
      → Room (written (length s.bases) s.annotation None) before
      → Copied s (length s.bases) x.errors x.marks before now
      → Puts (as_bytes (single_arrays s.annotation (strand_of s).arrays)) before now
  unfolding strand_of evidence_bytes joined put
  single_written {before} {now} room c =
      let all = whole places s h seen l few in
      let n = length s.bases in
      record {
        bases = c.bases ∙ put_fitting s.bases before.bases room.bases;
        quals = c.quals ∙ put_fitting s.quals before.quals (omega (arith, l.quals, room.quals));
        errors = c.errors ∙ put_errors (words16 s.errors) before.errors n x.errors (rw l.errors at all.errors) (omega (arith, length_by_group 2 number_of s.errors, l.errors, room.errors));
        evidence_a =
            c.evidence_a
            ∙ evidence_written s.annotation n s.evidence before.evidence_a x.marks seen
            (λ k. (rw (l.evidence k) at all.marks, l.evidence k, rw k at room.evidence_a));
        evidence_b = c.evidence_b;
      }
