-- What follows once the sequence is restored and the strands' texts are made in buffers.
--     made             the part of the buffer that the strands' texts are made against
--     few_bytes        how long two texts are together
--     needed           how many places go to each output
--     all_put          what is written from the buffers is the definition's
-- Assumes nothing.
use mathlib.Core.Path.{◌≡◌, sym, ◌∙◌}
use mathlib.Core.Bool.{Bool}
use mathlib.Core.List.{List}
use Prim.Native.Nat.{ℕ, ◌+◌, ◌≤◌}
use native.Mathlib.Omega.{arith}
use lib.ListN.{length, take}
use Rattle.std.proofs.Common.{None}
use Rattle.lists.specs.Output.{put}
use Rattle.lists.proofs.Output.{put_fitting, front_of}
use Rattle.methylation.specs.declared.MethylationMode.{MethylationMode}
use Rattle.mm_ml.specs.declared.TagLengths.{TagLengths}
use Rattle.duplex_texts.specs.Texts.{StrandAnnotation, TextArrays, duplex_seq, strand_mm, strand_ml, second_first, grouped, duplex_texts}
use Rattle.duplex_texts.specs.Outputs.{text_lengths, RoomTexts, LeavesTexts}
use Rattle.duplex_texts.specs.Parts.{AsLong, TextsAs, needed_for}
use Rattle.duplex_texts.proofs.Texts.{seq_length, mm_most, ml_most, grouped_length}

-- An output with room for what was copied.
fitting : (xs out : List ℕ) {now : List ℕ} → length xs ≤ length out → now ≡ put (take (length out) xs) out → now ≡ put xs out
fitting xs out h e = e ∙ put_fitting xs out h

-- A strand's text and bytes stand at the fronts of their buffers.
module _ {mode : MethylationMode} {seq : List ℕ} {s : StrandAnnotation} {mm ml mm_now ml_now : List ℕ} {r : TagLengths} (t : TextsAs mode seq s mm ml mm_now ml_now r) where
  pub text_front : take r.mm mm_now ≡ strand_mm mode seq s
  text_front = front_of _ mm t.text t.mm_length

  pub bytes_front : take r.ml ml_now ≡ strand_ml mode seq s
  bytes_front = front_of _ ml t.bytes t.ml_length

module _ (mode : MethylationMode) (bases : List ℕ) (a b : StrandAnnotation) where
  abbrev seq : List ℕ
  seq = duplex_seq bases a b

  pub size : length seq ≡ length bases
  size = seq_length bases a.annotation a.evidence.marks b.annotation b.evidence.marks

  pub made : (before : List ℕ) {now : List ℕ} → now ≡ put seq before → take (length bases) now ≡ seq
  made before e = front_of seq before e (sym size)

  -- What the texts ask of the strands.
  pub long_against : {restored : List ℕ} → restored ≡ seq → {s : StrandAnnotation} → AsLong (length bases) s → AsLong (length restored) s
  long_against e long = rw (e, size) long

  module _ {a_mm a_ml b_mm b_ml a_mm_now a_ml_now b_mm_now b_ml_now : List ℕ} {ra rb : TagLengths} (of_a : TextsAs mode seq a a_mm a_ml a_mm_now a_ml_now ra) (of_b : TextsAs mode seq b b_mm b_ml b_mm_now b_ml_now rb) where
    pub few_bytes : length bases ≤ 1024 → (ra.mm + rb.mm ≤ 10250) × (ra.ml + rb.ml ≤ 2048)
    few_bytes few =
        let short : length seq ≤ 1024 = omega (arith, size) in
        (omega (arith, of_a.mm_length, of_b.mm_length, mm_most mode seq short a, mm_most mode seq short b), omega (arith, of_a.ml_length, of_b.ml_length, ml_most mode seq short a, ml_most mode seq short b))

    pub needed : needed_for (length bases) ra rb ≡ text_lengths (duplex_texts mode bases a b)
    unfolding duplex_texts
    needed =
        let order = second_first a.annotation b.annotation in
        rw
        (of_a.mm_length, of_b.mm_length, of_a.ml_length, of_b.ml_length, grouped_length order (strand_mm mode seq a) (strand_mm mode seq b), grouped_length order (strand_ml mode seq a) (strand_ml mode seq b), size)

    pub all_put :
        {order : Bool} {restored a_text b_text a_bytes b_bytes : List ℕ} {out now : TextArrays}
        → order ≡ second_first a.annotation b.annotation
        → restored ≡ seq
        → RoomTexts (needed_for (length bases) ra rb) (text_lengths out)
        → now.seq ≡ put (take (length out.seq) restored) out.seq
        → a_text ≡ take ra.mm a_mm_now
        → b_text ≡ take rb.mm b_mm_now
        → a_bytes ≡ take ra.ml a_ml_now
        → b_bytes ≡ take rb.ml b_ml_now
        → now.a_mm ≡ put (take (length out.a_mm) a_text) out.a_mm
        → now.b_mm ≡ put (take (length out.b_mm) b_text) out.b_mm
        → now.mm ≡ put (grouped order a_text b_text) out.mm
        → now.ml ≡ put (grouped order a_bytes b_bytes) out.ml
        → LeavesTexts None (duplex_texts mode bases a b) out now
    unfolding duplex_texts
    all_put {out = out} is whole room seq_is a_front b_front a_ml_front b_ml_front a_mm_is b_mm_is mm_is ml_is = record {
      seq = fitting seq out.seq (omega (arith, size, room.seq)) (rw whole at seq_is);
      a_mm = fitting _ out.a_mm (omega (arith, of_a.mm_length, room.a_mm)) (rw (a_front, text_front of_a) at a_mm_is);
      b_mm = fitting _ out.b_mm (omega (arith, of_b.mm_length, room.b_mm)) (rw (b_front, text_front of_b) at b_mm_is);
      mm = rw (a_front, b_front, text_front of_a, text_front of_b, is) at mm_is;
      ml = rw (a_ml_front, b_ml_front, bytes_front of_a, bytes_front of_b, is) at ml_is;
    }
