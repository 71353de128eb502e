-- The MM and ML tags of one strand, document 01: nothing called, or mode Disabled, no tag.
use Rattle.std.specs.Prelude.{ℕ, ◌≤◌, ◌≡◌, Bool, ◌||◌, Option, Some, None, Result, List, [], ◌∷◌, ◌++◌, map, length, get_or}
use Rattle.lists.specs.Part.{only_if}
use Rattle.refusals.specs.declared.Refusal.{Refusal}
use Rattle.refusals.specs.declared.Refusal.TheVariants.{TooLong, Ragged, OutputTooShort}
use Rattle.refusals.specs.Refusal.{Fault, ◌if◌, too_long, ragged, too_short, refused}
use Rattle.refusals.specs.Outcome.{answer, after}
use Rattle.decimal.specs.Decimal.{listed}
use Rattle.methylation.specs.Methylation.{is_enabled}
use Rattle.methylation.specs.declared.ConversionPattern.{ConversionPattern}
use Rattle.methylation.specs.declared.MethylationMode.{MethylationMode}
use Rattle.methylation_calls.specs.Calls.{is_tracked, is_called, ml_of}
use Rattle.mm_ml.specs.Text.{places_below, skips_from, group_text}
use Rattle.mm_ml.specs.declared.AnnotatedBases.{AnnotatedBases}
use Rattle.mm_ml.specs.declared.TagLengths.{TagLengths}

-- The sequence and a strand's annotation.
pub record Annotated : Type 0 where
  pub bases : List ℕ
  pub pattern : ConversionPattern
  pub marks : List ℕ
  pub unconverted : List ℕ
  pub converted : List ℕ

abbrev pub annotated : List ℕ → ConversionPattern → List ℕ → List ℕ → List ℕ → Annotated
annotated bases pattern marks unconverted converted = record {
  bases = bases;
  pattern = pattern;
  marks = marks;
  unconverted = unconverted;
  converted = converted;
}

-- Those that are lent.
abbrev pub annotated_in : AnnotatedBases → Annotated
annotated_in s =
    let m = s.annotation in
    annotated s.bases.now m.pattern m.evidence.marks.now m.evidence.unconverted.now m.evidence.converted.now

unfoldable pub called_at : Annotated → ℕ → Bool
called_at s i = is_called s.pattern (get_or s.bases i 0) (get_or s.marks i 0) (get_or s.unconverted i 0) (get_or s.converted i 0)

-- The called positions below n.
abbrev pub calls_below : Annotated → ℕ → List ℕ
calls_below s n = places_below (called_at s) n

-- The skip counts of called positions.
abbrev pub skips : Annotated → List ℕ → List ℕ
skips s calls = skips_from (is_tracked s.pattern) s.bases 0 calls

-- All called positions, the text of the group that reports them, and the ML byte of each.
abbrev pub all_calls : Annotated → List ℕ
all_calls s = calls_below s (length s.bases)

abbrev pub all_listed : Annotated → List ℕ
all_listed s = listed (skips s (all_calls s))

abbrev pub all_text : Annotated → List ℕ
all_text s = group_text s.pattern (skips s (all_calls s))

abbrev pub ml_byte : MethylationMode → Annotated → ℕ → ℕ
ml_byte mode s i = ml_of mode (get_or s.unconverted i 0) (get_or s.converted i 0)

abbrev pub all_bytes : MethylationMode → Annotated → List ℕ
all_bytes mode s = map (ml_byte mode s) (all_calls s)

-- The positions that the tags report: those called, none in mode Disabled.
unfoldable pub calls : MethylationMode → Annotated → List ℕ
calls mode s = only_if (is_enabled mode) (all_calls s)

-- xs where there are some positions, else nothing.
abbrev pub if_called : List ℕ → List ℕ → List ℕ
if_called [] xs = []
if_called (p ∷ ps) xs = xs

-- What goes to the two outputs: nothing where there is no tag.
unfoldable pub mm_text : MethylationMode → Annotated → List ℕ
mm_text mode s = if_called (calls mode s) (all_text s)

unfoldable pub ml_array : MethylationMode → Annotated → List ℕ
ml_array mode s = map (ml_byte mode s) (calls mode s)

-- What no row refuses: evidence for each base, and at most 1,024 of them.
pub record Evident (s : Annotated) : Type 0 where
  pub few : length s.bases ≤ 1024
  pub marks : length s.marks ≡ length s.bases
  pub unconverted : length s.unconverted ≡ length s.bases
  pub converted : length s.converted ≡ length s.bases

-- The length of the listed skip counts, and how many there are.
pub record Counted (s : Annotated) (r : TagLengths) : Type 0 where
  pub text : r.mm ≡ length (all_listed s)
  pub count : r.ml ≡ length (all_calls s)

-- By the lengths of the sequence and of the evidence.
abbrev pub strand_faults : ℕ → ℕ → ℕ → ℕ → List Fault
strand_faults bases marks unconverted converted =
    (TooLong if too_long (bases ∷ marks ∷ unconverted ∷ converted ∷ []))
    ∷ (Ragged if ragged (bases ∷ marks ∷ unconverted ∷ converted ∷ []))
    ∷ []

abbrev pub faults_of : Annotated → List Fault
faults_of s = strand_faults (length s.bases) (length s.marks) (length s.unconverted) (length s.converted)

-- So many bytes go to each of two outputs of these lengths.
abbrev pub room_faults : ℕ → ℕ → ℕ → ℕ → List Fault
room_faults mm_needed mm ml_needed ml = (OutputTooShort if (too_short mm_needed (mm ∷ []) || too_short ml_needed (ml ∷ []))) ∷ []

abbrev pub tags_refused : MethylationMode → Annotated → List ℕ → List ℕ → Option Refusal
tags_refused mode s mm ml = refused (faults_of s ++ room_faults (length (mm_text mode s)) (length mm) (length (ml_array mode s)) (length ml))

-- The written lengths, where something is called.
abbrev pub tags_if_called : List ℕ → ℕ → ℕ → Option TagLengths
tags_if_called [] mm ml = None
tags_if_called (p ∷ ps) mm ml = Some (record { mm = mm; ml = ml })

abbrev pub tag_lengths : MethylationMode → Annotated → Option TagLengths
tag_lengths mode s = tags_if_called (calls mode s) (length (mm_text mode s)) (length (ml_array mode s))

-- What a call of `build_mm_ml_tags` answers and leaves in its two outputs.
pub record TaggedAs (mode : MethylationMode) (s : Annotated) (mm ml mm_now ml_now : List ℕ) (r : Result (Option TagLengths) Refusal) : Type 0 where
  pub answered : r ≡ answer (tags_refused mode s mm ml) (tag_lengths mode s)
  pub mm_text_is : mm_now ≡ after (tags_refused mode s mm ml) (mm_text mode s) mm
  pub ml_array_is : ml_now ≡ after (tags_refused mode s mm ml) (ml_array mode s) ml

-- The same of `build_mm_tag_no_ml`, which has one output: nothing goes to a second one.
abbrev pub tag_refused : MethylationMode → Annotated → List ℕ → Option Refusal
tag_refused mode s mm = refused (faults_of s ++ room_faults (length (mm_text mode s)) (length mm) 0 0)

abbrev pub tag_if_called : List ℕ → ℕ → Option ℕ
tag_if_called [] mm = None
tag_if_called (p ∷ ps) mm = Some mm

pub record MmTaggedAs (mode : MethylationMode) (s : Annotated) (mm mm_now : List ℕ) (r : Result (Option ℕ) Refusal) : Type 0 where
  pub answered : r ≡ answer (tag_refused mode s mm) (tag_if_called (calls mode s) (length (mm_text mode s)))
  pub mm_text_is : mm_now ≡ after (tag_refused mode s mm) (mm_text mode s) mm
