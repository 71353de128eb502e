-- Evidence and counts between bytes and arrays of 1,024 places.
--     evidence_read        evidence of at most so many positions is at the front of its arrays, all of it
--     counted, summed      counts that `methylation_evidence` leaves in an array, written as bytes where there is room
-- Assumes nothing.
use mathlib.Core.Path.{◌≡◌, sym, ap, ◌∙◌}
use mathlib.Core.List.{List}
use Prim.Native.Nat.{ℕ, ◌/◌, ◌≤◌}
use native.Mathlib.Omega.{arith}
use borrow.Author.Tests.{le-ltb}
use lib.ListN.{length, take}
use Rattle.std.proofs.Common.{None}
use Rattle.lists.specs.Output.{put}
use Rattle.lists.proofs.Output.{front_of}
use Rattle.refusals.specs.Outcome.{after, zeros}
use Rattle.methylation.specs.Arrays.{EvidenceArrays, evidence_arrays}
use Rattle.byte_numbers.specs.Bytes.{bytes16}
use Rattle.byte_numbers.specs.Groups.{by_group}
use Rattle.byte_numbers.proofs.Groups.{all_fit, read_front}
use Rattle.molecule_evidence.specs.Buffers.{zero_evidence}
use Rattle.molecule_evidence.specs.Evidence.{mark_in, count_in, marks_of, unconverted_of, converted_of}
use Rattle.methylation_evidence.specs.Counts.{tag_counts, counts_refused, summed_counts, summed_refused}
use Rattle.methylation_evidence.proofs.Counts.{counts_length, summed_length}
use Rattle.duplex_tags.specs.Parts.{Countable}

read : (f : List ℕ → ℕ) (bytes : List ℕ) {L : List ℕ} → length bytes / 9 ≤ 1024 → L ≡ put (take (length zeros) (by_group 9 f bytes)) zeros → take (length bytes / 9) L ≡ by_group 9 f bytes
read f bytes few e = read_front 9 f bytes zeros few e

pub evidence_read :
    (bytes : List ℕ) {before : EvidenceArrays} {marks unconverted converted : List ℕ} {places : ℕ} {e : EvidenceArrays}
    → length bytes / 9 ≤ 1024
    → before ≡ zero_evidence
    → marks ≡ put (take (length before.marks) (marks_of bytes)) before.marks
    → unconverted ≡ put (take (length before.unconverted) (unconverted_of bytes)) before.unconverted
    → converted ≡ put (take (length before.converted) (converted_of bytes)) before.converted
    → places ≡ length bytes / 9
    → e ≡ evidence_arrays (take places marks) (take places unconverted) (take places converted)
    → e ≡ evidence_arrays (marks_of bytes) (unconverted_of bytes) (converted_of bytes)
evidence_read bytes few z m u c places_is e =
    let marks_are = rw z at m in
    let unconverted_are = rw z at u in
    let converted_are = rw z at c in
    e ∙ rw (places_is, read mark_in bytes few marks_are, read (count_in 1) bytes few unconverted_are, read (count_in 5) bytes few converted_are)

-- So many numbers at its front, written as bytes where there is room.
as_bytes :
    (xs out : List ℕ) {n : ℕ} {L F now : List ℕ}
    → length xs ≡ n
    → Countable n (length out / 2)
    → L ≡ put xs zeros
    → F ≡ take n L
    → now ≡ put (bytes16 (take (length out / 2) F)) out
    → now ≡ put (bytes16 xs) out
as_bytes xs out size fits held front e =
    let own = front ∙ front_of xs zeros held (sym size) in
    let whole : take (length out / 2) xs ≡ xs = all_fit 2 xs out (omega arith) (omega (arith, size, fits.room)) in
    e ∙ ap (λ (l : List ℕ). put (bytes16 (take (length out / 2) l)) out) own ∙ ap (λ (l : List ℕ). put (bytes16 l) out) whole

counts_fit : (counts : List ℕ) → length counts ≤ 1024 → counts_refused counts zeros ≡ None
counts_fit counts few = rw (le-ltb 1024 (length counts) few)

summed_fit : (n : ℕ) (a b : List ℕ) → n ≤ 1024 → length a ≤ 1024 → length b ≤ 1024 → summed_refused n a b zeros ≡ None
summed_fit n a b few few_a few_b = rw (le-ltb 1024 n few, le-ltb 1024 (length a) few_a, le-ltb 1024 (length b) few_b)

pub counted :
    (counts out : List ℕ) {L F now : List ℕ}
    → Countable (length counts) (length out / 2)
    → L ≡ after (counts_refused counts zeros) (tag_counts counts) zeros
    → F ≡ take (length counts) L
    → now ≡ put (bytes16 (take (length out / 2) F)) out
    → now ≡ put (bytes16 (tag_counts counts)) out
counted counts out fits held = as_bytes (tag_counts counts) out (counts_length counts) fits (rw (counts_fit counts fits.few) at held)

pub summed :
    (n : ℕ) (a b out : List ℕ) {L F now : List ℕ}
    → Countable n (length out / 2)
    → length a ≤ 1024
    → length b ≤ 1024
    → L ≡ after (summed_refused n a b zeros) (summed_counts n a b) zeros
    → F ≡ take n L
    → now ≡ put (bytes16 (take (length out / 2) F)) out
    → now ≡ put (bytes16 (summed_counts n a b)) out
summed n a b out fits few_a few_b held =
    as_bytes (summed_counts n a b) out (summed_length n a b) fits (rw (summed_fit n a b fits.few few_a few_b) at held)
