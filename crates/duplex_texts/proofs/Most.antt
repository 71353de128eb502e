-- For callers: how long the outputs of the texts can need to be.
--     seq_most, first_most, second_most, combined_most, bytes_most     each, by how many bases there are
--     texts_fit          outputs of those lengths are never too short
-- Assumes nothing.
use mathlib.Core.Path.{◌≡◌}
use mathlib.Core.Bool.{false}
use mathlib.Core.List.{List}
use Prim.Native.Nat.{ℕ, ◌+◌, ◌*◌, ◌≤◌}
use native.Mathlib.Omega.{arith}
use borrow.Author.Tests.{le-ltb}
use lib.ListN.{length}
use Rattle.methylation.specs.declared.MethylationMode.{MethylationMode}
use Rattle.duplex_texts.specs.Texts.{StrandAnnotation, TextArrays, duplex_seq, strand_mm, strand_ml, second_first, duplex_texts}
use Rattle.duplex_texts.specs.Outputs.{text_lengths, RoomTexts, texts_too_short, most_texts}
use Rattle.duplex_texts.proofs.Texts.{seq_length, mm_most, ml_most, grouped_length}

module _ (mode : MethylationMode) (bases : List ℕ) (a b : StrandAnnotation) (few : length bases ≤ 1024) where
  size : length (duplex_seq bases a b) ≡ length bases
  size = seq_length bases a.annotation a.evidence.marks b.annotation b.evidence.marks

  short : length (duplex_seq bases a b) ≤ 1024
  short = omega (arith, size)

  pub seq_most : length (duplex_texts mode bases a b).seq ≡ length bases
  unfolding duplex_texts
  seq_most = size

  pub first_most : length (duplex_texts mode bases a b).a_mm ≤ 5 + 5 * length bases
  unfolding duplex_texts
  first_most = omega (arith, size, mm_most mode (duplex_seq bases a b) short a)

  pub second_most : length (duplex_texts mode bases a b).b_mm ≤ 5 + 5 * length bases
  unfolding duplex_texts
  second_most = omega (arith, size, mm_most mode (duplex_seq bases a b) short b)

  pub combined_most : length (duplex_texts mode bases a b).mm ≤ 10 + 10 * length bases
  unfolding duplex_texts
  combined_most =
      let seq = duplex_seq bases a b in
      omega
      (arith, size, grouped_length (second_first a.annotation b.annotation) (strand_mm mode seq a) (strand_mm mode seq b), mm_most mode seq short a, mm_most mode seq short b)

  pub bytes_most : length (duplex_texts mode bases a b).ml ≤ 2 * length bases
  unfolding duplex_texts
  bytes_most =
      let seq = duplex_seq bases a b in
      omega
      (arith, size, grouped_length (second_first a.annotation b.annotation) (strand_ml mode seq a) (strand_ml mode seq b), ml_most mode seq short a, ml_most mode seq short b)

  pub texts_fit : (out : TextArrays) → RoomTexts (most_texts (length bases)) (text_lengths out) → texts_too_short (text_lengths (duplex_texts mode bases a b)) (text_lengths out) ≡ false
  texts_fit out ample =
      let t = duplex_texts mode bases a b in
      rw
      (le-ltb (length out.seq) (length t.seq) (omega (arith, seq_most, ample.seq)), le-ltb (length out.a_mm) (length t.a_mm) (omega (arith, first_most, ample.a_mm)), le-ltb (length out.b_mm) (length t.b_mm) (omega (arith, second_most, ample.b_mm)), le-ltb (length out.mm) (length t.mm) (omega (arith, combined_most, ample.mm)), le-ltb (length out.ml) (length t.ml) (omega (arith, bytes_most, ample.ml)))
