-- Laws of a strand given as bytes.
--     held_seen, held_positions     of no annotation
--     by_lengths                what lengths alone refuse is what the early rows do
--     nothing_read, none_read     of a strand that is absent
--     Room, room                what arrays of 1,024 places each have room for
--     strand_whole, plain_whole     what was read to such arrays is the strand that the bytes stand for
-- Assumes nothing.
use mathlib.Core.Path.{◌≡◌, refl, sym, ◌∙◌}
use mathlib.Core.Bool.{Bool, true, false}
use mathlib.Core.List.{List, []}
use Prim.Native.Nat.{ℕ, ◌/◌, ◌≤◌}
use native.Mathlib.Omega.{arith}
use lib.ListN.{length, take, length-replicate}
use lib.Seq.{take-nil}
use Rattle.std.proofs.Common.{Option, None, Some, option_map, Result}
use Rattle.std.specs.Option.{option_and, option_map_or}
use Rattle.lists.specs.Part.{only_if}
use Rattle.lists.specs.Table.{tabulate}
use Rattle.lists.proofs.Output.{put_none, put_fitting, front_of}
use Rattle.refusals.specs.declared.Refusal.{Refusal}
use Rattle.refusals.specs.Refusal.{refused}
use Rattle.refusals.specs.Outcome.{answer}
use Rattle.refusals.specs.Outcome.{zeros}
use Rattle.methylation.specs.Arrays.{evidence_arrays, evidence_of_length}
use Rattle.methylation.specs.declared.ConversionPattern.{ConversionPattern}
use Rattle.methylation.specs.Methylation.{is_annotated}
use Rattle.molecule_strand.specs.declared.ByteLengths.{ByteLengths}
use Rattle.molecule_strand.specs.declared.EncodedAnnotation.{EncodedAnnotation}
use Rattle.byte_numbers.specs.Bytes.{number_of}
use Rattle.byte_numbers.specs.Groups.{by_group}
use Rattle.byte_numbers.proofs.Groups.{length_by_group}
use Rattle.molecule_evidence.specs.Evidence.{mark_in, count_in}
use Rattle.molecule_strand.specs.Rows.{byte_lengths, misfit_in, is_misfit, long_in, is_long, early_faults, length_faults}
use Rattle.molecule_strand.specs.Strand.{StrandBytes, strand_bytes, pattern_held, bytes_held, strand_of, Narrow, Numbers, numbers, ReadTo, evidence_seen, NumbersRead, StrandRead, numbers_strand}

-- Without an annotation there are no bytes of evidence.
pub held_seen : (m : Option EncodedAnnotation) → only_if (is_annotated (pattern_held m)) (bytes_held m) ≡ bytes_held m
unfolding only_if
held_seen None = refl
held_seen (Some m) = refl

pub held_positions : (m : Option EncodedAnnotation) → option_map (λ k. evidence_of_length (k / 9)) (option_and (pattern_held m) (Some (length (bytes_held m)))) ≡ option_and (pattern_held m) (Some (evidence_of_length (length (bytes_held m) / 9)))
held_positions None = refl
held_positions (Some m) = refl

same_misfit :
    (present : Bool) (annotation : Option ConversionPattern) (bases quals depths errors evidence : List ℕ)
    → (let s = strand_bytes present annotation bases quals depths errors evidence in
    option_map_or is_misfit (byte_lengths s) false ≡ misfit_in s)
same_misfit false annotation bases quals depths errors evidence = refl
same_misfit true None bases quals depths errors evidence = refl
same_misfit true (Some pattern) bases quals depths errors evidence = refl

same_long :
    (present : Bool) (annotation : Option ConversionPattern) (bases quals depths errors evidence : List ℕ)
    → (let s = strand_bytes present annotation bases quals depths errors evidence in
    option_map_or is_long (byte_lengths s) false ≡ long_in s)
same_long false annotation bases quals depths errors evidence = refl
same_long true None bases quals depths errors evidence = refl
same_long true (Some pattern) bases quals depths errors evidence = refl

pub by_lengths :
    (a b : StrandBytes) {x y : Option ByteLengths} {r : Result (Unit {0}) Refusal}
    → x ≡ byte_lengths a
    → y ≡ byte_lengths b
    → r ≡ answer (refused (length_faults x y)) tt
    → r ≡ answer (refused (early_faults a b)) tt
by_lengths a b e f told =
    rw
    (← same_misfit a.present a.annotation a.bases a.quals a.depths a.errors a.evidence, ← same_misfit b.present b.annotation b.bases b.quals b.depths b.errors b.evidence, ← same_long a.present a.annotation a.bases a.quals a.depths a.errors a.evidence, ← same_long b.present b.annotation b.bases b.quals b.depths b.errors b.evidence)
    (rw (e, f) at told)

-- Of no bytes nothing is read.
nothing : (width : ℕ) (f : List ℕ → ℕ) (before : List ℕ) → 0 / width ≡ 0 → ReadTo (by_group width f []) before before
unfolding by_group tabulate
nothing width f before e = rw e (rw (take-nil (length before)) (put_none before))

abbrev absent : StrandBytes
absent = strand_bytes false None [] [] [] [] []

pub nothing_read : (depths errors : List ℕ) → NumbersRead absent depths errors depths errors
nothing_read depths errors = record { depths = nothing 2 number_of depths refl; errors = nothing 2 number_of errors refl }

pub none_read : (x : Numbers) → StrandRead absent x x
unfolding only_if
none_read x = record {
  depths = nothing 2 number_of x.depths refl;
  errors = nothing 2 number_of x.errors refl;
  marks = nothing 9 mark_in x.marks refl;
  unconverted = nothing 9 (count_in 1) x.unconverted refl;
  converted = nothing 9 (count_in 5) x.converted refl;
}

-- What was read of few enough groups of bytes is at the front.
front : (width : ℕ) (f : List ℕ → ℕ) (bytes : List ℕ) {now : List ℕ} → ReadTo (by_group width f bytes) zeros now → length bytes / width ≤ 1024 → take (length bytes / width) now ≡ by_group width f bytes
front width f bytes e few =
    let size = length_by_group width f bytes in
    let room : length zeros ≡ 1024 = length-replicate {A = ℕ} 1024 0 in
    front_of (by_group width f bytes) zeros (e ∙ put_fitting (by_group width f bytes) zeros (omega arith)) (sym size)

-- A strand as far as it is looked at.
abbrev pub looked_at : StrandBytes → StrandBytes
looked_at s = strand_bytes s.present s.annotation s.bases s.quals s.depths s.errors (evidence_seen s)

pub strand_whole : (s : StrandBytes) {now : Numbers} → StrandRead s (numbers zeros zeros zeros zeros zeros) now → Narrow (looked_at s) → numbers_strand s now.depths now.errors (evidence_arrays now.marks now.unconverted now.converted) ≡ strand_of (looked_at s)
unfolding strand_of
strand_whole s h few =
    rw
    (front 2 number_of s.depths h.depths few.depths, front 2 number_of s.errors h.errors few.errors, front 9 mark_in (evidence_seen s) h.marks few.evidence, front 9 (count_in 1) (evidence_seen s) h.unconverted few.evidence, front 9 (count_in 5) (evidence_seen s) h.converted few.evidence)

-- Without an annotation no evidence is looked at.
pub plain_whole :
    (present : Bool) (bases quals depths errors evidence : List ℕ) {depths_now errors_now : List ℕ}
    → (let s = strand_bytes present None bases quals depths errors evidence in
    NumbersRead s zeros zeros depths_now errors_now → Narrow (looked_at s) → numbers_strand s depths_now errors_now (evidence_arrays [] [] []) ≡ strand_of (looked_at s))
unfolding strand_of only_if by_group tabulate
plain_whole present bases quals depths errors evidence h few = rw (front 2 number_of depths h.depths few.depths, front 2 number_of errors h.errors few.errors)
