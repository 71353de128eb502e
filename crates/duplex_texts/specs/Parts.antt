-- What the parts of `duplex_texts` promise each other.
use Rattle.std.specs.Prelude.{ℕ, ◌+◌, ◌≤◌, ◌≡◌, true, List, length}
use Rattle.lists.specs.Output.{put}
use Rattle.methylation.specs.Methylation.{is_annotated}
use Rattle.methylation.specs.declared.MethylationMode.{MethylationMode}
use Rattle.mm_ml.specs.declared.TagLengths.{TagLengths}
use Rattle.duplex_texts.specs.Texts.{StrandAnnotation, strand_mm, strand_ml}
use Rattle.duplex_texts.specs.declared.TextLengths.{TextLengths}

-- What no row refuses: at most 1,024 bases, and as much evidence of a strand with an annotation.
pub record AsLong (bases : ℕ) (s : StrandAnnotation) : Type 0 where
  pub few : bases ≤ 1024
  pub marks : is_annotated s.annotation ≡ true → length s.evidence.marks ≡ bases
  pub unconverted : is_annotated s.annotation ≡ true → length s.evidence.unconverted ≡ bases
  pub converted : is_annotated s.annotation ≡ true → length s.evidence.converted ≡ bases

-- A strand's MM text and its ML bytes are written to the fronts of two buffers, and so many they are.
pub record TextsAs (mode : MethylationMode) (seq : List ℕ) (s : StrandAnnotation) (mm ml mm_now ml_now : List ℕ) (r : TagLengths) : Type 0 where
  pub mm_length : r.mm ≡ length (strand_mm mode seq s)
  pub ml_length : r.ml ≡ length (strand_ml mode seq s)
  pub text : mm_now ≡ put (strand_mm mode seq s) mm
  pub bytes : ml_now ≡ put (strand_ml mode seq s) ml

-- How many places go to each output.
abbrev pub needed_for : ℕ → TagLengths → TagLengths → TextLengths
needed_for positions a b = record { seq = positions; a_mm = a.mm; b_mm = b.mm; mm = a.mm + b.mm; ml = a.ml + b.ml }
