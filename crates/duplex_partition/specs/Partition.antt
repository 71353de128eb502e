-- Reads and their partition, document 01: an MI ends in /A or /B, which names the read's strand; the rest is the base MI.
use Rattle.std.specs.Prelude.{ℕ, ◌-◌, ◌≡◌, Bool, true, false, cond, not, ◌&&◌, Option, Some, None, Result, List, [], ◌∷◌, eqb, leb, length, get_or}
use Rattle.std.specs.List.{list_any}
use Rattle.lists.specs.Indices.{indices}
use Rattle.lists.specs.Part.{leaves, part}
use Rattle.refusals.specs.declared.Refusal.{Refusal}
use Rattle.refusals.specs.declared.Refusal.TheVariants.{TooManyReads, PartOutside, OutputTooShort, NoMi, NoStrand}
use Rattle.refusals.specs.Refusal.{Fault, ◌if◌, too_many, too_short, code, refused}
use Rattle.refusals.specs.Outcome.{answer, after, or_later}
use Rattle.duplex_partition.specs.declared.BaseMi.{BaseMi}
use Rattle.duplex_partition.specs.declared.MiPart.{MiPart}
use Rattle.duplex_partition.specs.declared.MiStrand.{MiStrand}
use Rattle.duplex_partition.specs.declared.MiStrand.TheVariants.{A, B}
use Rattle.duplex_partition.specs.declared.Partition.{Partition}

-- A read has an MI, or none.
abbrev pub has_mi : MiPart → Bool
has_mi read = not (eqb read.present 0)

-- An MI ends in / (47 in ASCII) and this letter.
abbrev pub ends_in : ℕ → List ℕ → Bool
ends_in letter mi = leb 2 (length mi) && (eqb (get_or mi (length mi - 2) 0) 47 && eqb (get_or mi (length mi - 1) 0) letter)

-- The strand that an MI names; the letters A and B are 65 and 66.
abbrev pub strand_of : List ℕ → Option MiStrand
strand_of mi = cond (ends_in 65 mi) (Some A) (cond (ends_in 66 mi) (Some B) None)

-- The strand that a read's MI names.
abbrev pub read_strand : List ℕ → MiPart → Option MiStrand
read_strand bytes read = strand_of (part read.offset read.length bytes)

abbrev pub is_a : Option MiStrand → Bool
is_a (Some A) = true
is_a (Some B) = false
is_a None = false

abbrev pub is_b : Option MiStrand → Bool
is_b (Some A) = false
is_b (Some B) = true
is_b None = false

-- A read is at fault: without an MI, or where its MI names no strand.
abbrev pub offence_of : Option MiStrand → Option Refusal
offence_of (Some strand) = None
offence_of None = Some NoStrand

abbrev pub offence : List ℕ → MiPart → Option Refusal
offence bytes read = cond (has_mi read) (offence_of (read_strand bytes read)) (Some NoMi)

-- The first read at fault decides.
abbrev pub first_offence : List ℕ → List MiPart → Option Refusal
first_offence bytes [] = None
first_offence bytes (read ∷ reads) = or_later (offence bytes read) (first_offence bytes reads)

-- Some read's MI leaves a buffer of n bytes.
abbrev pub mi_leaves : ℕ → MiPart → Bool
mi_leaves n read = has_mi read && leaves read.offset read.length n

abbrev pub any_mi_leaves : ℕ → List MiPart → Bool
any_mi_leaves n reads = list_any (mi_leaves n) reads

-- A refusal is this row. Rows are told apart by their codes.
abbrev pub is_row : Refusal → Option Refusal → Bool
is_row row None = false
is_row row (Some found) = eqb (code found) (code row)

-- n reads, whether an MI leaves the buffer, the places of the two lists, and the first offence. Each list must hold as many
-- places as there are reads.
abbrev pub partition_faults : ℕ → Bool → ℕ → ℕ → Option Refusal → List Fault
partition_faults n leaving a b found =
    (TooManyReads if too_many (n ∷ []))
    ∷ (PartOutside if leaving)
    ∷ (OutputTooShort if too_short n (a ∷ b ∷ []))
    ∷ (NoMi if is_row NoMi found)
    ∷ (NoStrand if is_row NoStrand found)
    ∷ []

-- The reads, the bytes, and the lists of A and of B.
abbrev pub partition_refused : List MiPart → List ℕ → List ℕ → List ℕ → Option Refusal
partition_refused reads bytes a b = refused (partition_faults (length reads) (any_mi_leaves (length bytes) reads) (length a) (length b) (first_offence bytes reads))

-- The read numbers of strand A, and of B, each in arrival order.
abbrev pub on_a : List ℕ → List MiPart → List ℕ
on_a bytes reads = indices (λ read. is_a (read_strand bytes read)) reads

abbrev pub on_b : List ℕ → List MiPart → List ℕ
on_b bytes reads = indices (λ read. is_b (read_strand bytes read)) reads

-- The first read's MI without its last two bytes.
abbrev pub base_mi : List MiPart → Option BaseMi
base_mi [] = None
base_mi (read ∷ reads) = Some (record { offset = read.offset; length = read.length - 2 })

abbrev pub partition : List MiPart → List ℕ → Partition
partition reads bytes = record { a = length (on_a bytes reads); b = length (on_b bytes reads); base_mi = base_mi reads }

-- What a call of `partition_records_by_strand` answers and leaves in its two lists.
pub record PartitionedAs (reads : List MiPart) (bytes a b a_now b_now : List ℕ) (r : Result Partition Refusal) : Type 0 where
  pub answered : r ≡ answer (partition_refused reads bytes a b) (partition reads bytes)
  pub list_a : a_now ≡ after (partition_refused reads bytes a b) (on_a bytes reads) a
  pub list_b : b_now ≡ after (partition_refused reads bytes a b) (on_b bytes reads) b
