-- The outputs that a duplex record's tags go to, and the rows that refuse a call.
use Rattle.std.specs.Prelude.{ℕ, ◌≤◌, ◌≡◌, Bool, ◌||◌, Option, Result, List, [], ◌∷◌, ◌++◌, length, ltb}
use Rattle.refusals.specs.declared.Refusal.{Refusal}
use Rattle.refusals.specs.declared.Refusal.TheVariants.{OutputTooShort}
use Rattle.refusals.specs.Refusal.{Fault, ◌if◌, refused}
use Rattle.refusals.specs.Outcome.{answer, after}
use Rattle.methylation.specs.declared.MethylationMode.{MethylationMode}
use Rattle.duplex_texts.specs.Texts.{StrandAnnotation, TextArrays, duplex_texts}
use Rattle.duplex_texts.specs.Outputs.{text_lengths, given_of, texts_too_short, LeavesTexts}
use Rattle.duplex_texts.specs.declared.TextLengths.{TextLengths}
use Rattle.duplex_tags.specs.Tags.{KindArrays, CountArrays, duplex_counts}
use Rattle.duplex_tags.specs.declared.KindLengths.{KindLengths}

abbrev pub kind_lengths : KindArrays → KindLengths
kind_lengths t = record { a = length t.a; b = length t.b; both = length t.both }

-- Each output of one kind of counts has room for what goes there.
pub record RoomKind (needed out : KindLengths) : Type 0 where
  pub a : needed.a ≤ out.a
  pub b : needed.b ≤ out.b
  pub both : needed.both ≤ out.both

-- Some output of one kind is shorter than what goes there.
abbrev pub kind_too_short : KindLengths → KindLengths → Bool
kind_too_short needed out =
    ltb out.a needed.a
    || (ltb out.b needed.b
    || ltb out.both needed.both)

-- Some output of counts is.
abbrev pub counts_too_short : CountArrays → CountArrays → Bool
counts_too_short counts out = kind_too_short (kind_lengths counts.unconverted) (kind_lengths out.unconverted) || kind_too_short (kind_lengths counts.converted) (kind_lengths out.converted)

-- The outputs of the texts, and those of the counts.
abbrev pub duplex_faults : MethylationMode → List ℕ → StrandAnnotation → StrandAnnotation → TextArrays → CountArrays → List Fault
duplex_faults mode bases a b texts counts =
    given_of bases a b
    ++ (OutputTooShort if (texts_too_short (text_lengths (duplex_texts mode bases a b)) (text_lengths texts) || counts_too_short (duplex_counts (length bases) a b) counts))
    ∷ []

abbrev pub duplex_refused : MethylationMode → List ℕ → StrandAnnotation → StrandAnnotation → TextArrays → CountArrays → Option Refusal
duplex_refused mode bases a b texts counts = refused (duplex_faults mode bases a b texts counts)

-- What a call leaves in the outputs of one kind of counts, where it was refused or else writes these.
pub record LeavesKind (refusal : Option Refusal) (counts before now : KindArrays) : Type 0 where
  pub a : now.a ≡ after refusal counts.a before.a
  pub b : now.b ≡ after refusal counts.b before.b
  pub both : now.both ≡ after refusal counts.both before.both

-- The same of both kinds.
pub record LeavesCounts (refusal : Option Refusal) (counts before now : CountArrays) : Type 0 where
  pub unconverted : LeavesKind refusal counts.unconverted before.unconverted now.unconverted
  pub converted : LeavesKind refusal counts.converted before.converted now.converted

-- What a call of `duplex_methylation_tags` answers, how many positions there are and how many bytes each text and the ML array have,
-- and leaves in its outputs.
pub record DuplexTaggedAs (mode : MethylationMode) (bases : List ℕ) (a b : StrandAnnotation) (texts : TextArrays) (counts : CountArrays) (texts_now : TextArrays) (counts_now : CountArrays) (r : Result TextLengths Refusal) : Type 0 where
  pub answered : r ≡ answer (duplex_refused mode bases a b texts counts) (text_lengths (duplex_texts mode bases a b))
  pub the_texts : LeavesTexts (duplex_refused mode bases a b texts counts) (duplex_texts mode bases a b) texts texts_now
  pub the_counts : LeavesCounts (duplex_refused mode bases a b texts counts) (duplex_counts (length bases) a b) counts counts_now

-- How many places each output of one kind of counts needs at most for a sequence of n bases.
abbrev pub most_counts : ℕ → KindLengths
most_counts n = record { a = n; b = n; both = n }
