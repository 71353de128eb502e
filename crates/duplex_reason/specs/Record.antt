-- The same over a record's positions, document 02's #101: refused, outside the record, within a record of one strand, or what the
-- position's two strands say.
use Rattle.std.specs.Prelude.{Option, Some, None, Result, Ok, Err, ℕ, false, cond, List, ltb, get_or}
use Rattle.refusals.specs.declared.Refusal.{Refusal}
use Rattle.duplex_kind.specs.Kind.{Strand, record_kind}
use Rattle.duplex_kind.specs.declared.DuplexConsensus.{DuplexConsensus}
use Rattle.duplex_kind.specs.declared.DuplexConsensus.TheVariants.{Ab, Ba, Both}
use Rattle.duplex_reason.specs.Reason.{reason_at}
use Rattle.duplex_reason.specs.declared.NoCallReason.{NoCallReason}
use Rattle.duplex_reason.specs.declared.NoCallReason.TheVariants.{Outside, SingleStrand}
use Rattle.duplex_reason.specs.declared.Shown.{Shown}
use Rattle.methylation.specs.declared.ConversionPattern.{ConversionPattern}

-- What a strand with these arrays shows at position i: zeros past their ends, where no record of two strands reaches.
abbrev pub shown_in : Option ConversionPattern → List ℕ → List ℕ → List ℕ → ℕ → Shown
shown_in annotation bases quals marks i = record { annotation = annotation; base = get_or bases i 0; qual = get_or quals i 0; mark = get_or marks i 0 }

abbrev pub shown_at : Strand → ℕ → Shown
shown_at s i = shown_in s.annotation s.arrays.bases s.arrays.quals s.arrays.evidence.marks i

-- An answer for the positions of a record of n positions, and that the others are outside.
abbrev pub within : ℕ → NoCallReason → ℕ → NoCallReason
within n reason i = cond (ltb i n) reason Outside

-- The answer at position i of a record of this kind and length, or where there is none, whose strands show this there.
abbrev pub reason_in : Option DuplexConsensus → Shown → Shown → ℕ → NoCallReason
reason_in None a b i = Outside
reason_in (Some (Ab n)) a b i = within n SingleStrand i
reason_in (Some (Ba n)) a b i = within n SingleStrand i
reason_in (Some (Both n)) a b i = within n (reason_at a b) i

-- The same where the record may be refused, by anything.
abbrev pub reason_told : {E : Type 0} → Result (Option DuplexConsensus) E → Shown → Shown → ℕ → Result NoCallReason E
reason_told (Err refusal) a b i = Err refusal
reason_told (Ok made) a b i = Ok (reason_in made a b i)

-- The answer at position i of the record that two strands make: rows 7 and 8 as the combination tests them, without a list of reads.
abbrev pub reason_of : Strand → Strand → ℕ → Result NoCallReason Refusal
reason_of a b i = reason_told (record_kind a b false 0 false) (shown_at a i) (shown_at b i) i
