-- A loop that adds the errors of a read's first n bases, one position a turn.
--     Adding              the invariant: the numbers of the first i positions are written, the rest are as they were
--     start, turn, end    the facts that such a loop asks for
-- Assumes nothing.
use mathlib.Core.Path.{◌≡◌, sym, ap, ap₂, ◌∙◌}
use mathlib.Core.Bool.{Bool}
use mathlib.Core.List.{List}
use Prim.Native.Nat.{ℕ, ◌+◌, ◌≤◌, ◌<◌}
use lib.ListN.{length, get_or, set}
use Rattle.lists.specs.Table.{tabulate}
use Rattle.lists.proofs.Output.{Filling, begin, next, done}
use Rattle.lists.proofs.Table.{length_tabulate, get_d_tabulate}
use Rattle.lists.proofs.Written.{unwritten}
use Rattle.duplex_molecule.specs.Molecule.{is_error}
use Rattle.source_reads.specs.Bases.{bases_errors}
use Rattle.source_reads.specs.Reads.{one_more}

-- The number at a position after the read.
abbrev rule : List ℕ → (ℕ → ℕ) → List ℕ → ℕ → ℕ
rule bases shown before j = one_more (is_error (get_or bases j 0) (shown j)) (get_or before j 0)

pub record Adding (n : ℕ) (bases : List ℕ) (shown : ℕ → ℕ) (before : List ℕ) (i : ℕ) (now : List ℕ) : Type 0 where
  pub filling : Filling n (tabulate n (rule bases shown before)) before i now

module _ {n : ℕ} {bases before : List ℕ} {shown : ℕ → ℕ} where
  pub start : n ≤ length before → Adding n bases shown before 0 before
  start room = record { filling = begin (length_tabulate n (rule bases shown before)) room }

  module _ {now : List ℕ} {i : ℕ} (a : Adding n bases shown before i now) where
    pub turn :
        i < n
        → {base v : ℕ} {error : Bool}
        → base ≡ shown i
        → error ≡ is_error (get_or bases i 0) base
        → v ≡ one_more error (get_or now i 0)
        → Adding n bases shown before (i + 1) (set now i v)
    turn h s e w =
        let counted = e ∙ ap (λ (base : ℕ). is_error (get_or bases i 0) base) s in
        record { filling = next 0 _ a.filling h (w ∙ ap₂ one_more counted (unwritten 0 a.filling) ∙ sym (get_d_tabulate n (rule bases shown before) i 0 h)) }

    pub end : n ≤ i → now ≡ bases_errors n bases shown before
    unfolding bases_errors
    end h = done a.filling h
