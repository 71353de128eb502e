-- Which record two strands make, document 01.
use Rattle.std.specs.Prelude.{Option, Some, None, Result, ℕ, min, Bool, true, false, cond, ◌&&◌, ◌||◌, ltb, length, take, fold}
use Rattle.std.specs.List.{list_any}
use mathlib.Core.List.{List, [], ◌∷◌}
use Rattle.refusals.specs.declared.Refusal.{Refusal}
use Rattle.refusals.specs.declared.Refusal.TheVariants.{TooLong, Ragged, TooManyReads, PartOutside}
use Rattle.refusals.specs.Refusal.{Fault, ◌if◌, too_many, refused}
use Rattle.refusals.specs.Outcome.{answer}
use Rattle.methylation.specs.Methylation.{is_annotated}
use Rattle.vanilla_caller.specs.Strand.{Arrays, arrays, annotation_in, arrays_in, lengths, strand_too_long, strand_ragged}
use Rattle.vanilla_caller.specs.declared.Lengths.{Lengths}
use Rattle.vanilla_caller.specs.declared.VanillaConsensusRead.{VanillaConsensusRead}
use Rattle.duplex_kind.specs.declared.DuplexConsensus.{DuplexConsensus}
use Rattle.duplex_kind.specs.declared.DuplexConsensus.TheVariants.{Ab, Ba, Both}
use Rattle.duplex_kind.specs.declared.GivenStrand.{GivenStrand}
use Rattle.duplex_kind.specs.declared.GivenReads.{GivenReads}
use Rattle.methylation.specs.declared.ConversionPattern.{ConversionPattern}

-- A strand as a caller gives it: there or not, with an annotation or without.
pub record Strand : Type 0 where
  pub present : Bool
  pub annotation : Option ConversionPattern
  pub arrays : Arrays

abbrev pub strand : Bool → Option ConversionPattern → Arrays → Strand
strand present annotation arrays = record { present = present; annotation = annotation; arrays = arrays }

-- As lent slices, where it is there.
abbrev pub given_of : Option VanillaConsensusRead → Strand
given_of None = strand false None (arrays [] [] [] [] [] [] [])
given_of (Some s) = strand true (annotation_in s) (arrays_in s)

-- What its lengths and depths say: all that the rows over what is given and the kind look at.
pub record Given : Type 0 where
  pub present : Bool
  pub lengths : Lengths
  pub depths : List ℕ

abbrev pub given : Strand → Given
given s = record { present = s.present; lengths = lengths s.annotation s.arrays; depths = s.arrays.depths }

-- As the code has it.
abbrev pub given_in : Option GivenStrand → Given
given_in None = given (given_of None)
given_in (Some s) = record { present = true; lengths = s.lengths; depths = s.depths.now }

-- What is given of a list of reads that may be absent.
abbrev pub count_in : Option GivenReads → ℕ
count_in None = 0
count_in (Some list) = list.count

abbrev pub leaving_in : Option GivenReads → Bool
leaving_in None = false
leaving_in (Some list) = list.leaving

abbrev pub annotated : Strand → Bool
annotated s = is_annotated s.annotation

abbrev pub positions : Strand → ℕ
positions s = length s.arrays.bases

-- The shorter of the strands present.
abbrev pub shorter_present : Given → Given → ℕ
shorter_present a b =
    let n = a.lengths.bases in
    let m = b.lengths.bases in
    cond a.present (cond b.present (min n m) n) (cond b.present m 0)

abbrev pub record_length : Strand → Strand → ℕ
record_length a b = shorter_present (given a) (given b)

-- Some depth is above 0.
abbrev pub some_depth : List ℕ → Bool
some_depth depths = list_any (ltb 0) depths

-- The same, of depths that are all looked at.
abbrev pub any_depth : List ℕ → Bool
any_depth depths = fold (λ met depth. met || ltb 0 depth) false depths

-- A strand counts only if some depth within the record's length is above 0.
abbrev pub counts : ℕ → Given → Bool
counts n s = s.present && some_depth (take n s.depths)

abbrev pub covered : ℕ → Strand → Bool
covered n s = counts n (given s)

-- The kind of the record, and its length: by what is given of each strand.
abbrev pub kind_by : Given → Given → Option DuplexConsensus
kind_by a b =
    let n = shorter_present a b in
    cond (counts n a) (cond (counts n b) (Some (Both n)) (Some (Ab a.lengths.bases)))
    (cond (counts n b) (Some (Ba b.lengths.bases)) None)

abbrev pub kind_of : Strand → Strand → Option DuplexConsensus
kind_of a b = kind_by (given a) (given b)

-- Rows 7 and 8 for a strand that may be absent. An absent one's arrays are not looked at.
abbrev pub long : Given → Bool
long s = s.present && strand_too_long s.lengths

abbrev pub uneven : Given → Bool
uneven s = s.present && strand_ragged s.lengths

-- The rows that are tested over all that is given, both strands and the list, whether or not there will be a record. The list
-- counts by how many reads it has and whether a read's part leaves its buffer.
abbrev pub given_faults : Given → Given → Bool → ℕ → Bool → List Fault
given_faults a b listed count leaving =
    (TooLong if (long a || long b))
    ∷ (Ragged if (uneven a || uneven b))
    ∷ (TooManyReads if (listed && too_many (count ∷ [])))
    ∷ (PartOutside if (listed && leaving))
    ∷ []

abbrev pub strand_faults : Strand → Strand → Bool → ℕ → Bool → List Fault
strand_faults a b listed count leaving = given_faults (given a) (given b) listed count leaving

-- The kind, or the refusal by a row that is tested over all that is given.
abbrev pub kind_given : Given → Given → Bool → ℕ → Bool → Result (Option DuplexConsensus) Refusal
kind_given a b listed count leaving = answer (refused (given_faults a b listed count leaving)) (kind_by a b)

abbrev pub record_kind : Strand → Strand → Bool → ℕ → Bool → Result (Option DuplexConsensus) Refusal
record_kind a b listed count leaving = kind_given (given a) (given b) listed count leaving
