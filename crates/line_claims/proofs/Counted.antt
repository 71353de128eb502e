-- The errors of a run's reads by its fields: `each_counted`, of specs/Counted.antt. Assumes nothing.
use mathlib.Core.Path.{◌≡◌, refl, sym, ap, ◌∙◌}
use mathlib.Core.Bool.{Bool, true, false, ◌&&◌}
use mathlib.Core.List.{List, [], ◌∷◌, map}
use Prim.Native.Nat.{ℕ, ◌+◌, ◌≤◌, ◌<◌, min}
use native.Mathlib.Omega.{arith}
use borrow.Author.Tests.{ltb-true}
use lib.Dec.{ltb}
use lib.ListN.{length, take, drop, get_or, length-take, length-drop}
use lib.Seq.{get_or-take, get_or-drop}
use Rattle.lists.specs.Count.{count_of}
use Rattle.lists.specs.Part.{part}
use Rattle.lists.proofs.Count.{count_cons}
use Rattle.lists.proofs.Parts.{stays}
use Rattle.refusals.proofs.Condition.{neither}
use Rattle.flags.specs.Flags.{is_set}
use Rattle.duplex_molecule.specs.Molecule.{is_error}
use Rattle.source_reads.specs.Reads.{read_leaves, any_leaves, reaches, read_error, read_errors}
use Rattle.source_reads.specs.declared.SourceRead.{SourceRead}
use Rattle.duplex_consensus.specs.Consensus.{list_errors}
use Rattle.fields.specs.Encoding.{Field, encoded}
use Rattle.molecule_reads.specs.Run.{reads_of}
use Rattle.molecule_reads.specs.Claims.{said, shown}
use Rattle.molecule_reads.proofs.Claims.{each_read}
use Rattle.line_claims.specs.Counted.{field_error, expected_of, EachCounted}

-- A read within its buffer, and those after it.
both_stay : (n : ℕ) (read : SourceRead) (reads : List SourceRead) → any_leaves n (read ∷ reads) ≡ false → (read_leaves n read ≡ false) × (any_leaves n reads ≡ false)
unfolding any_leaves
both_stay n read reads e = neither (read_leaves n read) (any_leaves n reads) e

module _ (run : List ℕ) (expected : Bool → ℕ) (i : ℕ) where
  -- An error by what is shown.
  abbrev wrong : ℕ × List ℕ → Bool
  wrong p = ltb i (length p.1) && is_error (get_or p.1 i 0) (expected (is_set p.0 0x80))

  module _ (read : SourceRead) (stay : read_leaves (length run) read ≡ false) where
    inside : read.offset + read.length ≤ length run
    unfolding read_leaves
    inside = stays read.offset read.length (length run) stay

    part_is : part read.offset read.length run ≡ take read.length (drop read.offset run)
    unfolding part read_leaves
    part_is = rw stay

    part_length : length (part read.offset read.length run) ≡ read.length
    part_length = rw part_is (simp (length-take, length-drop) (omega (arith, inside)))

    part_at : i < read.length → get_or run (read.offset + i) 0 ≡ get_or (part read.offset read.length run) i 0
    part_at h = rw part_is (sym (get_or-take read.length (drop read.offset run) i 0 h ∙ get_or-drop read.offset run i 0))

    same_error : read_error run expected i read ≡ wrong (shown run read)
    unfolding read_error reaches
    same_error = rw (stay, part_length) (go (ltb i read.length) refl)
      where
        go :
            (b : Bool)
            → ltb i read.length ≡ b
            → (b && is_error (get_or run (read.offset + i) 0) (expected (is_set read.flags 0x80))) ≡ (b && is_error (get_or (part read.offset read.length run) i 0) (expected (is_set read.flags 0x80)))
        go true h = ap (λ (base : ℕ). is_error base (expected (is_set read.flags 0x80))) (part_at (ltb-true i read.length h))
        go false h = refl

  by_shown : (reads : List SourceRead) → any_leaves (length run) reads ≡ false → count_of (read_error run expected i) reads ≡ count_of wrong (map (shown run) reads)
  by_shown [] e = unfold count_of in refl
  by_shown (read ∷ reads) e =
      let (here, later) = both_stay (length run) read reads e in
      count_cons (read_error run expected i) read reads
      ∙ rw (same_error read here, by_shown reads later)
      (sym (count_cons wrong (shown run read) (map (shown run) reads)))

  by_field : (fs : List Field) → count_of wrong (map said fs) ≡ count_of (field_error expected i) fs
  by_field [] = unfold count_of in refl
  by_field (f ∷ fs) = count_cons wrong (said f) (map said fs) ∙ rw (by_field fs) (sym (count_cons (field_error expected i) f fs))

pub each_counted : EachCounted
unfolding list_errors read_errors
each_counted a b fs i few all =
    let are = each_read fs few all in
    ap (λ (n : ℕ). min n 32767)
    (by_shown (encoded fs) (expected_of a b i) i (reads_of (encoded fs)) are.stay
    ∙ ap (λ (l : List (ℕ × List ℕ)). count_of (wrong (encoded fs) (expected_of a b i) i) l) are.reads
    ∙ by_field (encoded fs) (expected_of a b i) i fs)
