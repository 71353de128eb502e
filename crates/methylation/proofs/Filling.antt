-- A loop that writes evidence, position by position, to three outputs.
--     FillingEvidence                                  the invariant: the first i of the n places of each are written
--     begin_evidence, next_evidence, done_evidence     its beginning, a turn, and the end
-- Assumes nothing.
use mathlib.Core.Path.{◌≡◌, ap}
use Prim.Native.Nat.{ℕ, ◌+◌, ◌≤◌, ◌<◌}
use lib.ListN.{length, set}
use Rattle.lists.proofs.Output.{Filling, begin, next, done}
use Rattle.lists.proofs.Table.{length_tabulate, tabulated}
use Rattle.methylation.specs.Arrays.{EvidenceArrays, evidence_arrays, evidence_table, PutsEvidence}
use Rattle.methylation.specs.declared.Evidence.{Evidence}

pub record FillingEvidence (n : ℕ) (of : ℕ → Evidence) (before : EvidenceArrays) (i : ℕ) (now : EvidenceArrays) : Type 0 where
  pub marks : Filling n (evidence_table n of).marks before.marks i now.marks
  pub unconverted : Filling n (evidence_table n of).unconverted before.unconverted i now.unconverted
  pub converted : Filling n (evidence_table n of).converted before.converted i now.converted

pub begin_evidence :
    {n : ℕ} {of : ℕ → Evidence} {before : EvidenceArrays}
    → n ≤ length before.marks
    → n ≤ length before.unconverted
    → n ≤ length before.converted
    → FillingEvidence n of before 0 before
begin_evidence m u c = record {
  marks = begin (length_tabulate _ _) m;
  unconverted = begin (length_tabulate _ _) u;
  converted = begin (length_tabulate _ _) c;
}

-- v is the evidence that a turn writes.
pub next_evidence :
    {n : ℕ} {of : ℕ → Evidence} {before now : EvidenceArrays} {i : ℕ} {v : Evidence}
    → FillingEvidence n of before i now
    → i < n
    → v ≡ of i
    → FillingEvidence n of before (i + 1) (evidence_arrays (set now.marks i v.mark) (set now.unconverted i v.unconverted) (set now.converted i v.converted))
next_evidence {n} {of} f h e = record {
  marks = next 0 _ f.marks h (tabulated n (λ k. (of k).mark) 0 h (ap (λ (v : Evidence). v.mark) e));
  unconverted = next 0 _ f.unconverted h (tabulated n (λ k. (of k).unconverted) 0 h (ap (λ (v : Evidence). v.unconverted) e));
  converted = next 0 _ f.converted h (tabulated n (λ k. (of k).converted) 0 h (ap (λ (v : Evidence). v.converted) e));
}

pub done_evidence : {n i : ℕ} {of : ℕ → Evidence} {before now : EvidenceArrays} → FillingEvidence n of before i now → n ≤ i → PutsEvidence (evidence_table n of) before now
done_evidence f h = record { marks = done f.marks h; unconverted = done f.unconverted h; converted = done f.converted h }
