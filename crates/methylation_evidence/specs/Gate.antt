-- Evidence as a single-strand record holds it, document 01: cleared (mark 0, both counts 0) where not informative.
use Rattle.std.specs.Prelude.{ℕ, ◌≡◌, Option, Result, List, [], ◌∷◌, length, get_or}
use Rattle.refusals.specs.declared.Refusal.{Refusal}
use Rattle.refusals.specs.declared.Refusal.TheVariants.{TooLong, Ragged}
use Rattle.refusals.specs.Refusal.{Fault, ◌if◌, refused}
use Rattle.refusals.specs.Outcome.{answer}
use Rattle.methylation.specs.Methylation.{evidence_if}
use Rattle.methylation.specs.declared.Evidence.{Evidence}
use Rattle.methylation.specs.Arrays.{EvidenceArrays, evidence_table, evidence_lengths, informative, evidence_too_long, evidence_ragged, LeavesEvidence}
use Rattle.methylation.specs.declared.EvidenceLengths.{EvidenceLengths}

-- At one position: kept, with mark 1, where the mark says informative.
abbrev pub gated_at : EvidenceArrays → ℕ → Evidence
gated_at e i = evidence_if (informative (get_or e.marks i 0)) (get_or e.unconverted i 0) (get_or e.converted i 0)

-- At each of n positions.
abbrev pub gated : ℕ → EvidenceArrays → EvidenceArrays
gated n e = evidence_table n (gated_at e)

-- By the lengths of the arrays.
abbrev pub gate_faults : EvidenceLengths → List Fault
gate_faults e =
    (TooLong if evidence_too_long e)
    ∷ (Ragged if evidence_ragged e)
    ∷ []

abbrev pub gate_refused : EvidenceArrays → Option Refusal
gate_refused e = refused (gate_faults (evidence_lengths e))

-- What a call of `gate_to_informative` answers and leaves in the arrays.
pub record GatedAs (before now : EvidenceArrays) (r : Result ℕ Refusal) : Type 0 where
  pub answered : r ≡ answer (gate_refused before) (length before.marks)
  pub outputs : LeavesEvidence (gate_refused before) (gated (length before.marks) before) before now
