-- The outputs that a duplex record's texts go to, and the rows that refuse a call.
use Rattle.std.specs.Prelude.{ℕ, ◌+◌, ◌*◌, ◌≤◌, ◌≡◌, Bool, false, ◌||◌, Option, Result, List, [], ◌∷◌, ◌++◌, length, ltb}
use Rattle.std.specs.Option.{option_map_or}
use Rattle.refusals.specs.declared.Refusal.{Refusal}
use Rattle.refusals.specs.declared.Refusal.TheVariants.{TooLong, Ragged, OutputTooShort}
use Rattle.refusals.specs.Refusal.{Fault, ◌if◌, too_long, refused}
use Rattle.refusals.specs.Outcome.{answer, after}
use Rattle.methylation.specs.declared.MethylationMode.{MethylationMode}
use Rattle.methylation.specs.Arrays.{annotated_lengths, evidence_too_long, evidence_uneven}
use Rattle.methylation.specs.declared.EvidenceLengths.{EvidenceLengths}
use Rattle.duplex_texts.specs.Texts.{StrandAnnotation, TextArrays, duplex_texts}
use Rattle.duplex_texts.specs.declared.TextLengths.{TextLengths}

abbrev pub text_lengths : TextArrays → TextLengths
text_lengths t = record { seq = length t.seq; a_mm = length t.a_mm; b_mm = length t.b_mm; mm = length t.mm; ml = length t.ml }

-- Those of a strand's evidence. It counts where there is an annotation.
abbrev pub strand_lengths : StrandAnnotation → Option EvidenceLengths
strand_lengths s = annotated_lengths s.annotation s.evidence

-- Row 7's condition for them, and row 8's beside so many bases.
abbrev pub long : Option EvidenceLengths → Bool
long s = option_map_or evidence_too_long s false

abbrev pub uneven : ℕ → Option EvidenceLengths → Bool
uneven bases s = option_map_or (evidence_uneven bases) s false

-- By the lengths of the sequence and of each strand's evidence.
abbrev pub given_faults : ℕ → Option EvidenceLengths → Option EvidenceLengths → List Fault
given_faults bases a b =
    (TooLong if (too_long (bases ∷ []) || (long a || long b)))
    ∷ (Ragged if (uneven bases a || uneven bases b))
    ∷ []

abbrev pub given_of : List ℕ → StrandAnnotation → StrandAnnotation → List Fault
given_of bases a b = given_faults (length bases) (strand_lengths a) (strand_lengths b)

-- Each output has room for what goes there.
pub record RoomTexts (needed out : TextLengths) : Type 0 where
  pub seq : needed.seq ≤ out.seq
  pub a_mm : needed.a_mm ≤ out.a_mm
  pub b_mm : needed.b_mm ≤ out.b_mm
  pub mm : needed.mm ≤ out.mm
  pub ml : needed.ml ≤ out.ml

-- Some output is shorter than what goes there.
abbrev pub texts_too_short : TextLengths → TextLengths → Bool
texts_too_short needed out =
    ltb out.seq needed.seq
    || (ltb out.a_mm needed.a_mm
    || (ltb out.b_mm needed.b_mm
    || (ltb out.mm needed.mm
    || ltb out.ml needed.ml)))

abbrev pub room_faults : TextLengths → TextLengths → List Fault
room_faults needed out = (OutputTooShort if texts_too_short needed out) ∷ []

abbrev pub texts_faults : MethylationMode → List ℕ → StrandAnnotation → StrandAnnotation → TextLengths → List Fault
texts_faults mode bases a b out = given_of bases a b ++ room_faults (text_lengths (duplex_texts mode bases a b)) out

abbrev pub texts_refused : MethylationMode → List ℕ → StrandAnnotation → StrandAnnotation → TextArrays → Option Refusal
texts_refused mode bases a b before = refused (texts_faults mode bases a b (text_lengths before))

-- What a call leaves in its outputs, where it was refused or else writes these texts.
pub record LeavesTexts (refusal : Option Refusal) (texts before now : TextArrays) : Type 0 where
  pub seq : now.seq ≡ after refusal texts.seq before.seq
  pub a_mm : now.a_mm ≡ after refusal texts.a_mm before.a_mm
  pub b_mm : now.b_mm ≡ after refusal texts.b_mm before.b_mm
  pub mm : now.mm ≡ after refusal texts.mm before.mm
  pub ml : now.ml ≡ after refusal texts.ml before.ml

-- What a call of `duplex_texts` answers, how many bytes go to each output, and leaves in its outputs.
pub record DuplexTextsAs (mode : MethylationMode) (bases : List ℕ) (a b : StrandAnnotation) (before now : TextArrays) (r : Result TextLengths Refusal) : Type 0 where
  pub answered : r ≡ answer (texts_refused mode bases a b before) (text_lengths (duplex_texts mode bases a b))
  pub outputs : LeavesTexts (texts_refused mode bases a b before) (duplex_texts mode bases a b) before now

-- How many places each output needs at most for a sequence of n bases.
abbrev pub most_texts : ℕ → TextLengths
most_texts n = record { seq = n; a_mm = 5 + 5 * n; b_mm = 5 + 5 * n; mm = 10 + 10 * n; ml = 2 * n }
