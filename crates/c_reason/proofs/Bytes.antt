-- What is promised of the entry and of its parts.
--     few                     a strand that row 7 does not refuse has depths that fit an array
--     depths_read             and are read as they are
--     reason_refused          what is said of a position where there is no kind
--     entry_told              what is said of the strands as far as they are looked at
-- Assumes nothing.
use mathlib.Core.Path.{◌≡◌, refl, sym, ap, ◌∙◌}
use mathlib.Core.Bool.{Bool, true, false, cond, ◌||◌, or-false, or_assoc}
use mathlib.Core.List.{List}
use Prim.Native.Nat.{ℕ, ◌/◌, ◌≤◌}
use native.Mathlib.Omega.{arith}
use lib.ListN.{length, take, length-replicate}
use Rattle.std.proofs.Common.{Option, Some, None, Result, Ok, Err}
use Rattle.lists.specs.Part.{only_if}
use Rattle.refusals.specs.declared.Refusal.{Refusal}
use Rattle.refusals.specs.declared.Refusal.TheVariants.{Broken}
use Rattle.refusals.specs.Outcome.{zeros}
use Rattle.methylation.specs.declared.ConversionPattern.{ConversionPattern}
use Rattle.byte_numbers.specs.Bytes.{number_of, words16, odd_count}
use Rattle.byte_numbers.proofs.Groups.{read_front}
use Rattle.molecule_strand.specs.Rows.{misfit_in, long_in, numbers_in, kind_by}
use Rattle.molecule_strand.specs.Strand.{StrandBytes, strand_bytes, encoded_in, strand_of, ReadTo}
use Rattle.molecule_strand.specs.declared.EncodedStrand.{EncodedStrand}
use Rattle.molecule_consensus.specs.Bytes.{seen, misfit}
use Rattle.molecule_consensus.proofs.Few.{not_long}
use Rattle.duplex_kind.specs.declared.DuplexConsensus.{DuplexConsensus}
use Rattle.duplex_reason.specs.Record.{reason_told, shown_at}
use Rattle.duplex_reason.specs.declared.NoCallReason.{NoCallReason}
use Rattle.duplex_reason.specs.declared.Shown.{Shown}
use Rattle.rust_reason.specs.Reply.{entry_reason}
use Rattle.c_reason.specs.Parts.{reason_given, reason_by}
use Rattle.c_reason.specs.Reason.{bytes_reason}

few : (s : Option EncodedStrand) → long_in (encoded_in s) ≡ false → length (encoded_in s).depths / 2 ≤ 1024
few None h = omega arith
few (Some s) h = (not_long (numbers_in (encoded_in (Some s))) h).0.1.1.0

-- Depths that fit are read as they are.
pub depths_read :
    (s : Option EncodedStrand) {bytes now : List ℕ}
    → bytes ≡ (encoded_in s).depths
    → ReadTo (words16 bytes) zeros now
    → long_in (encoded_in s) ≡ false
    → take (length (encoded_in s).depths / 2) now ≡ words16 (encoded_in s).depths
depths_read s e h short = read_front 2 number_of (encoded_in s).depths zeros (omega (arith, few s short, length-replicate {A = ℕ} 1024 0)) (rw e at h)

-- What is said, by the kind.
pub by_kind : (a b : StrandBytes) (i : ℕ) → reason_told (kind_by a b) (shown_at (strand_of a) i) (shown_at (strand_of b) i) i ≡ reason_given a b i
by_kind a b i = go (misfit_in a || misfit_in b) _ _ _
  where
    go : (m : Bool) (made : Result (Option DuplexConsensus) Refusal) (s t : Shown) → reason_told (cond m (Err Broken) made) s t i ≡ cond m (Err Broken) (reason_told made s t i)
    go true made s t = refl
    go false made s t = refl

same_misfit :
    (present : Bool) (annotation : Option ConversionPattern) (bases quals depths errors evidence : List ℕ)
    → (let s = seen (strand_bytes present annotation bases quals depths errors evidence) in
    misfit_in s ≡ misfit s)
unfolding only_if
same_misfit false annotation bases quals depths errors evidence = refl
same_misfit true None bases quals depths errors evidence = or_assoc (odd_count (length depths)) (odd_count (length errors)) false
same_misfit true (Some pattern) bases quals depths errors evidence = or_assoc (odd_count (length depths)) (odd_count (length errors)) _

by_patterns :
    (p q : Bool) (a b : StrandBytes) (i : ℕ)
    → reason_by (cond p (Err Broken) (Ok a)) (cond q (Err Broken) (Ok b)) i
    ≡ entry_reason ((p || q) || (misfit_in a || misfit_in b)) (strand_of a) (strand_of b) i
by_patterns true q a b i = refl
by_patterns false true a b i = refl
by_patterns false false a b i = refl

-- The patterns' tests p and q, and the strands a and b as far as they are looked at.
pub entry_told :
    (p q : Bool) (a b : StrandBytes) (i : ℕ) {x y : Result StrandBytes Refusal} {r : Result NoCallReason Refusal}
    → x ≡ cond p (Err Broken) (Ok (seen a))
    → y ≡ cond q (Err Broken) (Ok (seen b))
    → r ≡ reason_by x y i
    → r ≡ bytes_reason (p || q) (seen a) (seen b) i
entry_told p q a b i {r = r} e f told =
    let told_of : r ≡ reason_by (cond p (Err Broken) (Ok (seen a))) (cond q (Err Broken) (Ok (seen b))) i = rw (e, f) at told in
    let by_counts = told_of ∙ by_patterns p q (seen a) (seen b) i in
    let first = same_misfit a.present a.annotation a.bases a.quals a.depths a.errors a.evidence in
    let second = same_misfit b.present b.annotation b.bases b.quals b.depths b.errors b.evidence in
    let last = ap (λ (t : Bool). misfit (seen a) || t) (sym (or-false (misfit (seen b)))) in
    rw (first, second, last) at by_counts
