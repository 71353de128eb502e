-- The loop that clears evidence in place: after i turns the first i positions of each array are gated, the others as they were.
--     begin_gate, next_gate     the invariant's beginning, and a turn that reads what stands there
-- Assumes nothing.
use mathlib.Core.Path.{◌≡◌}
use Prim.Native.Nat.{ℕ, ◌+◌, ◌<◌}
use native.Mathlib.Omega.{arith}
use lib.ListN.{length, get_or, set}
use Rattle.lists.proofs.Written.{unwritten}
use Rattle.methylation.specs.Methylation.{evidence_if}
use Rattle.methylation.specs.declared.Evidence.{Evidence}
use Rattle.methylation.specs.Arrays.{EvidenceArrays, evidence_arrays, informative}
use Rattle.methylation.proofs.Filling.{FillingEvidence, begin_evidence, next_evidence}
use Rattle.methylation_evidence.specs.Gate.{gated_at}

pub begin_gate : (e : EvidenceArrays) → length e.unconverted ≡ length e.marks → length e.converted ≡ length e.marks → FillingEvidence (length e.marks) (gated_at e) e 0 e
begin_gate e u c = begin_evidence (omega arith) (omega arith) (omega arith)

-- v is the evidence that a turn writes, from what stands at i.
pub next_gate :
    {e now : EvidenceArrays} {n i : ℕ} {v : Evidence}
    → FillingEvidence n (gated_at e) e i now
    → i < n
    → v ≡ evidence_if (informative (get_or now.marks i 0)) (get_or now.unconverted i 0) (get_or now.converted i 0)
    → FillingEvidence n (gated_at e) e (i + 1) (evidence_arrays (set now.marks i v.mark) (set now.unconverted i v.unconverted) (set now.converted i v.converted))
next_gate {e} {now} {n} {i} {v} g h is =
    let here : v ≡ gated_at e i = rw (unwritten 0 g.marks, unwritten 0 g.unconverted, unwritten 0 g.converted) at is in
    next_evidence g h here
