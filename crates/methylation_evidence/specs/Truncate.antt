-- The first positions of an annotation.
use Rattle.std.specs.Prelude.{ℕ, min, ◌≡◌, Option, Result, List, [], ◌∷◌, map, length, take}
use Rattle.refusals.specs.declared.Refusal.{Refusal}
use Rattle.refusals.specs.declared.Refusal.TheVariants.{TooLong, Ragged, OutputTooShort}
use Rattle.refusals.specs.Refusal.{Fault, ◌if◌, refused}
use Rattle.refusals.specs.Outcome.{answer}
use Rattle.vanilla_caller.specs.Strand.{mark}
use Rattle.methylation.specs.Arrays.{EvidenceArrays, evidence_lengths, evidence_too_long, evidence_ragged, evidence_too_short, LeavesEvidence}
use Rattle.methylation.specs.declared.EvidenceLengths.{EvidenceLengths}

-- At most len positions, with marks as they are written.
abbrev pub truncated : ℕ → EvidenceArrays → EvidenceArrays
truncated len e = record {
  marks = map mark (take len e.marks);
  unconverted = take len e.unconverted;
  converted = take len e.converted;
}

-- By the lengths of the arrays, how many positions are asked for, and the lengths of the outputs.
abbrev pub truncate_faults : EvidenceLengths → ℕ → EvidenceLengths → List Fault
truncate_faults e len out =
    (TooLong if evidence_too_long e)
    ∷ (Ragged if evidence_ragged e)
    ∷ (OutputTooShort if evidence_too_short (min len e.marks) out)
    ∷ []

abbrev pub truncate_refused : EvidenceArrays → ℕ → EvidenceArrays → Option Refusal
truncate_refused e len out = refused (truncate_faults (evidence_lengths e) len (evidence_lengths out))

-- What a call of `truncate` answers and leaves in its outputs.
pub record TruncatedAs (e : EvidenceArrays) (len : ℕ) (before now : EvidenceArrays) (r : Result ℕ Refusal) : Type 0 where
  pub answered : r ≡ answer (truncate_refused e len before) (min len (length e.marks))
  pub outputs : LeavesEvidence (truncate_refused e len before) (truncated len e) before now
