-- What the loop over positions writes, and how much of it.
--     by_marks        where the marks are written and then the counts by them, the evidence is
--     put_kept        for a caller: where evidence is written no array is too short
-- Assumes nothing.
use mathlib.Core.Path.{◌≡◌, refl, ap, ◌∙◌}
use mathlib.Core.Bool.{Bool, true, false, not}
use mathlib.Core.List.{List}
use Prim.Native.Nat.{ℕ, ◌<◌}
use lib.Dec.{eqb}
use lib.ListN.{get_or}
use Rattle.lists.specs.Output.{put}
use Rattle.lists.specs.Part.{only_if}
use Rattle.lists.specs.Table.{tabulate}
use Rattle.lists.proofs.Output.{put_equal}
use Rattle.lists.proofs.Table.{tabulate_equal}
use Rattle.lists.proofs.Written.{table_front}
use Rattle.methylation.specs.Arrays.{evidence_arrays, evidence_table, PutsEvidence}
use Rattle.methylation.specs.Methylation.{evidence_if}
use Rattle.methylation.specs.declared.Evidence.{Evidence}
use Rattle.duplex_molecule.specs.Molecule.{is_call_of}
use Rattle.duplex_molecule.specs.declared.CtInput.{CtInput}
use Rattle.vanilla_caller.specs.Strand.{Arrays}
use Rattle.duplex_arrays.specs.Positions.{unless_short}
use Rattle.duplex_evidence.specs.Kept.{call_of, mark_of, marked_at, evidence_of}
use Rattle.std.proofs.Common.{Option}
use Rattle.methylation.specs.declared.ConversionPattern.{ConversionPattern}

-- A mark says what it was made of.
told_by_mark : (kept : Bool) (u w : ℕ) → evidence_if (not (eqb (evidence_if kept 0 0).mark 0)) u w ≡ evidence_if kept u w
told_by_mark true u w = refl
told_by_mark false u w = refl

same_mark : (kept : Bool) (u w : ℕ) → (evidence_if kept 0 0).mark ≡ (evidence_if kept u w).mark
same_mark true u w = refl
same_mark false u w = refl

module _ (annotation : Option ConversionPattern) (ct : CtInput) (a b s : Arrays) where
  abbrev of : ℕ → Evidence
  of = evidence_of ct a b annotation s

  abbrev kept : ℕ → Bool
  kept i = is_call_of annotation (call_of ct a b i)

  pub by_marks :
      (n : ℕ) {ms₀ us₀ ws₀ ms_now us_now ws_now : List ℕ}
      → ms_now ≡ put (tabulate n (mark_of ct annotation a.bases b.bases)) ms₀
      → us_now ≡ put (tabulate n (λ i. (marked_at ms_now s.evidence.unconverted s.evidence.converted i).unconverted)) us₀
      → ws_now ≡ put (tabulate n (λ i. (marked_at ms_now s.evidence.unconverted s.evidence.converted i).converted)) ws₀
      → PutsEvidence (evidence_table n of) (evidence_arrays ms₀ us₀ ws₀) (evidence_arrays ms_now us_now ws_now)
  by_marks n {ms₀} {us₀} {ws₀} {ms_now} m u w = record {
    marks = m ∙ put_equal ms₀ (tabulate_equal n (mark_of ct annotation a.bases b.bases) (λ i. (of i).mark) (λ i h. same_mark (kept i) (us i) (ws i)));
    unconverted = u ∙ put_equal us₀ (tabulate_equal n (λ i. (marked i).unconverted) (λ i. (of i).unconverted) (λ i h. ap (λ (e : Evidence). e.unconverted) (at i h)));
    converted = w ∙ put_equal ws₀ (tabulate_equal n (λ i. (marked i).converted) (λ i. (of i).converted) (λ i h. ap (λ (e : Evidence). e.converted) (at i h)));
  }
    where
      us : ℕ → ℕ
      us i = get_or s.evidence.unconverted i 0

      ws : ℕ → ℕ
      ws i = get_or s.evidence.converted i 0

      marked : ℕ → Evidence
      marked i = marked_at ms_now s.evidence.unconverted s.evidence.converted i

      at : (i : ℕ) → i < n → marked i ≡ of i
      at i h =
          ap (λ (x : ℕ). evidence_if (not (eqb x 0)) (us i) (ws i)) (ap (λ (l : List ℕ). get_or l i 0) m ∙ table_front 0 n (mark_of ct annotation a.bases b.bases) ms₀ i h)
          ∙ told_by_mark (kept i) (us i) (ws i)

pub put_kept :
    {A : Type 0} (b : Bool) (xs out : List A) {short : Bool} {now : List A}
    → (b ≡ true → short ≡ false)
    → now ≡ put (unless_short short (only_if b xs)) out
    → now ≡ put (only_if b xs) out
unfolding unless_short only_if
put_kept b xs out {short} h e = e ∙ put_equal out (go b short h)
  where
    go : (b short : Bool) → (b ≡ true → short ≡ false) → unless_short short (only_if b xs) ≡ only_if b xs
    go true short h = rw (h refl)
    go false true h = refl
    go false false h = refl
