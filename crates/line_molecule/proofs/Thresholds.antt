-- The thresholds, of which 4 are read: more are refused as 4 are.
--     refused_four         the refusal of the first 4 is that of all
--     slice_read           what was read to an array of zeros
--     text_refused, text_passed       a molecule's text and line, by what its thresholds are
-- Assumes nothing.
use mathlib.Core.Path.{◌≡◌, refl, sym, ap, subst, ◌∙◌}
use mathlib.Core.List.{List, [], ◌∷◌}
use Prim.Native.Nat.{ℕ, ◌/◌, min}
use native.Mathlib.Omega.{arith}
use borrow.Author.Tests.{lt-ltb, ne_eqb}
use lib.ListN.{length, take, drop, replicate, length-take}
use lib.Seq.{take_at}
use Rattle.std.proofs.Common.{Option, None, Some, Result, Ok, Err}
use Rattle.lists.specs.Output.{put}
use Rattle.refusals.specs.declared.Refusal.{Refusal}
use Rattle.refusals.specs.declared.Refusal.TheVariants.{TooManyThresholds}
use Rattle.refusals.specs.Refusal.{number_of}
use Rattle.refusals.specs.Outcome.{answer}
use Rattle.byte_numbers.specs.Bytes.{words32}
use Rattle.byte_numbers.proofs.Bytes.{length_numbers}
use Rattle.molecule_encoding.specs.Format.{MoleculeParts}
use Rattle.duplex_min_reads.specs.MinReads.{min_reads, refused, validated}
use Rattle.duplex_min_reads.specs.declared.MinReads.{MinReads}
use Rattle.line_format.specs.Line.{refused_text}
use Rattle.line_record.specs.Line.{Holds}
use Rattle.line_record.specs.declared.Line.{Line}
use Rattle.line_molecule.specs.Line.{value_or, thresholds_of, read_text, text_unless, molecule_text}

-- Of more than 3, whatever they are.
many : (a b c d : ℕ) (ts : List ℕ) → refused (a ∷ b ∷ c ∷ d ∷ ts) ≡ Some TooManyThresholds
many a b c d ts = let l = length (a ∷ b ∷ c ∷ d ∷ ts) in rw (ne_eqb l 0 (λ e. omega arith), lt-ltb 3 l (omega arith))

pub refused_four : (ts : List ℕ) → refused (take 4 ts) ≡ refused ts
refused_four [] = refl
refused_four (a ∷ []) = refl
refused_four (a ∷ (b ∷ [])) = refl
refused_four (a ∷ (b ∷ (c ∷ []))) = refl
refused_four (a ∷ (b ∷ (c ∷ (d ∷ ts)))) = many a b c d [] ∙ sym (many a b c d ts)

few : (ts : List ℕ) → refused ts ≡ None → take 4 ts ≡ ts
few [] e = refl
few (a ∷ []) e = refl
few (a ∷ (b ∷ [])) e = refl
few (a ∷ (b ∷ (c ∷ []))) e = refl
few (a ∷ (b ∷ (c ∷ (d ∷ ts)))) e = let two : Some TooManyThresholds ≡ None = sym (many a b c d ts) ∙ e in let z : ◌≡◌ {A = ℕ} 0 1 = cc in absurd (omega arith)

pub slice_read : (bytes : List ℕ) {L : List ℕ} {count : ℕ} → L ≡ put (take (length {A = ℕ} (replicate 4 0)) (words32 bytes)) (replicate 4 0) → count ≡ min (length bytes / 4) 4 → take count L ≡ take 4 (words32 bytes)
unfolding put
slice_read bytes {L} {count} e c =
    let xs = take 4 (words32 bytes) in
    let size : length xs ≡ count = omega (arith, length-take 4 (words32 bytes), length_numbers 4 bytes) in
    rw e (take_at xs (drop (length xs) (replicate 4 0)) count size)

module _ (m : MoleculeParts) {values list : List ℕ} {got : Result MinReads Refusal} (v : values ≡ value_or m.thresholds) (l : list ≡ take 4 (words32 values)) (g : got ≡ validated list) where
  -- What was answered is the refusal of all.
  all : got ≡ answer (refused (thresholds_of m)) (min_reads list)
  all = g ∙ ap (λ (row : Option Refusal). answer row (min_reads list)) (ap (λ (ts : List ℕ). refused ts) (l ∙ ap (λ (x : List ℕ). take 4 (words32 x)) v) ∙ refused_four (thresholds_of m))

  pub text_refused : {row : Refusal} → got ≡ Err row → molecule_text m ≡ refused_text (number_of row)
  unfolding molecule_text
  text_refused {row} e = go (refused (thresholds_of m)) (sym all ∙ e)
    where
      go : (k : Option Refusal) → answer k (min_reads list) ≡ Err row → text_unless k (read_text (thresholds_of m) m) ≡ refused_text (number_of row)
      go None f = let z : ◌≡◌ {A = ℕ} 0 1 = cc in absurd (omega arith)
      go (Some other) f = let same : other ≡ row = cc in ap (λ (x : Refusal). refused_text (number_of x)) same

  pub text_passed : {told : MinReads} {r : Line} → got ≡ Ok told → Holds (read_text list m) r → Holds (molecule_text m) r
  unfolding molecule_text
  text_passed {told} {r} e h = go (refused (thresholds_of m)) refl (sym all ∙ e)
    where
      go : (k : Option Refusal) → refused (thresholds_of m) ≡ k → answer k (min_reads list) ≡ Ok told → Holds (text_unless k (read_text (thresholds_of m) m)) r
      go None z f = subst (λ (ts : List ℕ). Holds (read_text ts m) r) (l ∙ ap (λ (x : List ℕ). take 4 (words32 x)) v ∙ few (thresholds_of m) z) h
      go (Some other) z f = let z : ◌≡◌ {A = ℕ} 0 1 = cc in absurd (omega arith)
