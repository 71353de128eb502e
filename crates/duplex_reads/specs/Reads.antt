-- What a read's flags say, and the read gate, document 01.
use Rattle.std.specs.Prelude.{ℕ, ◌+◌, ◌≡◌, Bool, true, ◌&&◌, Option, Some, None, Result, Ok, Err, List, [], ◌∷◌, ◌++◌, length, get_or, count_by, fold}
use Rattle.std.specs.Bool.{beq}
use Rattle.std.specs.Result.{IsErrAnd}
use Rattle.refusals.specs.declared.Refusal.{Refusal}
use Rattle.refusals.specs.declared.Refusal.TheVariants.{TooManyReads}
use Rattle.refusals.specs.Refusal.{Fault, ◌if◌, too_many, refused as refused_by}
use Rattle.refusals.specs.Outcome.{answer}
use Rattle.flags.specs.Flags.{paired, unmapped, mate_unmapped, reverse, first_segment, last_segment, is_set}
use Rattle.duplex_min_reads.specs.MinReads.{faults, min_reads, reaches_all, refused}
use Rattle.duplex_min_reads.specs.declared.MinReads.{MinReads}
use Rattle.duplex_reads.specs.declared.ReadType.{ReadType}
use Rattle.duplex_reads.specs.declared.StrandCounts.{StrandCounts}
use Rattle.duplex_reads.specs.declared.ReadType.TheVariants.{Fragment, R1, R2}

abbrev pub is_paired : ℕ → Bool
is_paired flags = is_set flags paired

abbrev pub is_paired_r1 : ℕ → Bool
is_paired_r1 flags = is_paired flags && is_set flags first_segment

abbrev pub is_paired_r2 : ℕ → Bool
is_paired_r2 flags = is_paired flags && is_set flags last_segment

-- A consensus read is unmapped; of a pair, so is its mate. These are 4, 77 and 141.
abbrev pub written_flags : ReadType → ℕ
written_flags Fragment = unmapped
written_flags R1 = paired + unmapped + mate_unmapped + first_segment
written_flags R2 = paired + unmapped + mate_unmapped + last_segment

-- The number of paired first reads.
abbrev pub count_r1 : List ℕ → ℕ
count_r1 reads = count_by is_paired_r1 reads

-- A gate's answer: refused by the thresholds, then by the faults of what is counted, or whether the two strands' counts are enough.
abbrev pub gate : List ℕ → List Fault → ℕ → ℕ → Result Bool Refusal
gate ts own a b = answer (refused_by (faults ts ++ own)) (reaches_all (min_reads ts) a b)

-- The same where the counts are made, or what refuses them, by any refusals that a row of the table becomes: what is answered is a
-- refusal that the thresholds' row gives, then the one that is known, or whether the counts are enough.
abbrev pub AnsweredBy : {E : Type 0} → (Refusal → E → Type 0) → Option Refusal → MinReads → Result StrandCounts E → Result Bool E → Type 0
AnsweredBy gives (Some row) least counts r = IsErrAnd r (gives row)
AnsweredBy gives None least (Err refusal) r = r ≡ Err refusal
AnsweredBy gives None least (Ok counts) r = r ≡ Ok (reaches_all least counts.a counts.b)

abbrev pub GateAnswers : {E : Type 0} → (Refusal → E → Type 0) → List ℕ → Result StrandCounts E → Result Bool E → Type 0
GateAnswers gives ts counts r = AnsweredBy gives (refused ts) (min_reads ts) counts r

abbrev pub read_faults : List ℕ → List ℕ → List Fault
read_faults a b = (TooManyReads if too_many (length a ∷ length b ∷ [])) ∷ []

-- The paired first reads of A and of B.
abbrev pub read_counts : List ℕ → List ℕ → Result StrandCounts Refusal
read_counts a b = answer (refused_by (read_faults a b)) (record { a = count_r1 a; b = count_r1 b })

-- The reads of A and of B, and the thresholds.
abbrev pub read_gate : List ℕ → List ℕ → List ℕ → Result Bool Refusal
read_gate a b ts = gate ts (read_faults a b) (count_r1 a) (count_r1 b)

abbrev pub is_reverse : ℕ → Bool
is_reverse flags = is_set flags reverse

-- Every read is reverse, where r is true, or every read is not.
abbrev pub all_reverse_as : Bool → List ℕ → Bool
all_reverse_as r reads = fold (λ alike flags. alike && beq (is_reverse flags) r) true reads

abbrev pub strand_refused : List ℕ → Option Refusal
strand_refused reads = refused_by ((TooManyReads if too_many (length reads ∷ [])) ∷ [])

-- All reads are oriented as the first is.
abbrev pub same_strand : List ℕ → Result Bool Refusal
same_strand reads = answer (strand_refused reads) (all_reverse_as (is_reverse (get_or reads 0 0)) reads)
