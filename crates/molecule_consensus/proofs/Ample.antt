-- Where every output has 1,024 places, row 12 refuses none: a record that row 7 does not refuse has no more positions.
--     Ample            every output has; zeros_ample: as a call begins with local ones
--     inputs_alone     what refuses the call is what refuses its inputs
-- Assumes nothing.
use mathlib.Core.Path.{◌≡◌, refl}
use mathlib.Core.Bool.{Bool, true, false, cond, ◌&&◌, ◌||◌}
use mathlib.Core.List.{List, [], ◌∷◌}
use Prim.Native.Nat.{ℕ, ◌≤◌}
use native.Mathlib.Omega.{arith}
use borrow.Author.Tests.{le-ltb}
use lib.ListN.{length, take, length-replicate}
use Rattle.std.proofs.Common.{Option, Some, None}
use Rattle.refusals.specs.declared.Refusal.{Refusal}
use Rattle.refusals.specs.declared.Refusal.TheVariants.{Broken, TooLong, Ragged, TooManyReads, PartOutside, OutputTooShort}
use Rattle.refusals.specs.Refusal.{too_many}
use Rattle.refusals.specs.Outcome.{zeros}
use Rattle.refusals.proofs.Condition.{nor_where, both_hold}
use Rattle.std.specs.Option.{option_map_or}
use Rattle.methylation.specs.Arrays.{EvidenceArrays, evidence_arrays, evidence_lengths, annotated_lengths, evidence_too_short}
use Rattle.methylation.specs.declared.ConversionPattern.{ConversionPattern}
use Rattle.vanilla_caller.specs.Strand.{lengths}
use Rattle.duplex_outputs.specs.Outputs.{RecordArrays, record_lengths, record_too_short}
use Rattle.duplex_kind.specs.Kind.{Strand, given, positions, record_length, some_depth, covered, kind_of, long, uneven}
use Rattle.duplex_kind.specs.declared.DuplexConsensus.TheVariants.{Ab, Ba, Both}
use Rattle.duplex_record.specs.Record.{outputs_short}
use Rattle.molecule_reads.specs.Run.{reads_of}
use Rattle.molecule_strand.specs.Strand.{StrandBytes, strand_of}
use Rattle.molecule_consensus.specs.Molecule.{zero_buffers}
use Rattle.molecule_consensus.specs.Bytes.{broken, bytes_refused, inputs_refused}
use Rattle.molecule_consensus.proofs.Few.{not_long}

pub record AmpleEvidence (out : EvidenceArrays) : Type 0 where
  pub marks : 1024 ≤ length out.marks
  pub unconverted : 1024 ≤ length out.unconverted
  pub converted : 1024 ≤ length out.converted

pub record Ample (out : RecordArrays) : Type 0 where
  pub bases : 1024 ≤ length out.bases
  pub quals : 1024 ≤ length out.quals
  pub errors : 1024 ≤ length out.errors
  pub a : AmpleEvidence out.a
  pub b : AmpleEvidence out.b

pub zeros_ample : Ample zero_buffers
zeros_ample =
    let h : 1024 ≤ length zeros = omega (arith, length-replicate {A = ℕ} 1024 0) in
    let evidence : AmpleEvidence (evidence_arrays zeros zeros zeros) = record { marks = h; unconverted = h; converted = h } in
    record { bases = h; quals = h; errors = h; a = evidence; b = evidence }

-- Row 12 does not refuse the outputs of a strand's evidence.
evidence_holds : {out : EvidenceArrays} → AmpleEvidence out → (n : ℕ) → n ≤ 1024 → evidence_too_short n (evidence_lengths out) ≡ false
evidence_holds {out} room n h =
    rw
    (le-ltb (length out.marks) n (omega (arith, room.marks)), le-ltb (length out.unconverted) n (omega (arith, room.unconverted)), le-ltb (length out.converted) n (omega (arith, room.converted)))

evidence_fits : (annotation : Option ConversionPattern) {out : EvidenceArrays} → AmpleEvidence out → (n : ℕ) → n ≤ 1024 → option_map_or (evidence_too_short n) (annotated_lengths annotation out) false ≡ false
evidence_fits None room n h = refl
evidence_fits (Some pattern) room n h = evidence_holds room n h

module _ (out : RecordArrays) (room : Ample out) where
  holds : (n : ℕ) (p q : Option ConversionPattern) → n ≤ 1024 → record_too_short n (record_lengths p q out) ≡ false
  holds n p q h =
      rw
      (le-ltb (length out.bases) n (omega (arith, room.bases)), le-ltb (length out.quals) n (omega (arith, room.quals)), le-ltb (length out.errors) n (omega (arith, room.errors)), evidence_fits p room.a n h, evidence_fits q room.b n h)

  module _ (a b : Strand) where
    by_kind :
        (in_a in_b : Bool) (n : ℕ)
        → (in_a ≡ true → positions a ≤ 1024)
        → (in_b ≡ true → positions b ≤ 1024)
        → (in_a ≡ true → in_b ≡ true → n ≤ 1024)
        → outputs_short a b out (cond in_a (cond in_b (Some (Both n)) (Some (Ab (positions a)))) (cond in_b (Some (Ba (positions b))) None)) ≡ false
    by_kind true true n f g h = holds n a.annotation b.annotation (h refl refl)
    by_kind true false n f g h = holds (positions a) a.annotation None (f refl)
    by_kind false true n f g h = holds (positions b) b.annotation None (g refl)
    by_kind false false n f g h = refl

    -- A strand that counts is present, and of at most 1,024 positions where it is not long.
    few : (s : Strand) → long (given s) ≡ false → covered (record_length a b) s ≡ true → positions s ≤ 1024
    few s h in_s =
        let there : s.present ≡ true = (both_hold s.present (some_depth (take (record_length a b) s.arrays.depths)) in_s).0 in
        (not_long (lengths s.annotation s.arrays) (rw there at h)).0.0

    none_short : (long (given a) || long (given b)) ≡ false → outputs_short a b out (kind_of a b) ≡ false
    none_short h =
        let (few_a, few_b) = nor_where (long (given a)) true (long (given b)) h in
        by_kind (covered (record_length a b) a) (covered (record_length a b) b) (record_length a b) (few a few_a) (few b (few_b refl))
        (λ in_a in_b.
        let there_a : a.present ≡ true = (both_hold a.present (some_depth (take (record_length a b) a.arrays.depths)) in_a).0 in
        let there_b : b.present ≡ true = (both_hold b.present (some_depth (take (record_length a b) b.arrays.depths)) in_b).0 in
        rw (there_a, there_b) (omega (arith, few a few_a in_a)))

-- A last row that is not met where the second is not.
abbrev rows : Bool → Bool → Bool → Bool → Bool → Option Refusal → Option Refusal
rows x l u t g rest = cond x (Some Broken) (cond l (Some TooLong) (cond u (Some Ragged) (cond t (Some TooManyReads) (cond g (Some PartOutside) rest))))

abbrev last_row : Bool → Option Refusal
last_row s = cond s (Some OutputTooShort) None

last : (x l u t g s : Bool) → (l ≡ false → s ≡ false) → rows x l u t g (last_row s) ≡ rows x l u t g None
last true l u t g s h = refl
last false true u t g s h = refl
last false false u t g s h = rw (h refl)

pub inputs_alone : (a b : StrandBytes) (listed : Bool) (run : List ℕ) (out : RecordArrays) → Ample out → bytes_refused a b listed run out ≡ inputs_refused a b listed run
inputs_alone a b listed run out room =
    let A = strand_of a in
    let B = strand_of b in
    last (broken a b listed run) (long (given A) || long (given B))
    (uneven (given A) || uneven (given B))
    (listed && too_many (length (reads_of run) ∷ []))
    (listed && false)
    (outputs_short A B out (kind_of A B))
    (none_short out room A B)
