-- What the entry for a record's methylation tags gives, document 01's form for the viewer: the library's call on the numbers, evidence
-- and counts as bytes, with numbers for what is there or not and for an answer.
use Rattle.std.specs.Prelude.{ℕ, ◌%◌, ◌≡◌, Bool, not, ◌&&◌, ◌||◌, Option, Result, Err, List, eqb, length}
use Rattle.lists.specs.Part.{only_if}
use Rattle.refusals.specs.declared.Refusal.{Refusal}
use Rattle.refusals.specs.declared.Refusal.TheVariants.{Broken}
use Rattle.refusals.specs.Outcome.{answer}
use Rattle.methylation.specs.declared.ConversionPattern.{ConversionPattern}
use Rattle.methylation.specs.declared.MethylationMode.{MethylationMode}
use Rattle.methylation.specs.Choices.{mode_of, wrong_mode}
use Rattle.replies.specs.Choices.{yes}
use Rattle.replies.specs.Replies.{RepliedAs}
use Rattle.byte_numbers.specs.Bytes.{words16, bytes16}
use Rattle.molecule_evidence.specs.Evidence.{marks_of, unconverted_of, converted_of}
use Rattle.molecule_strand.specs.Strand.{encoded_annotation, wrong_encoded_pattern}
use Rattle.duplex_texts.specs.Texts.{StrandAnnotation, strand, duplex_texts}
use Rattle.duplex_texts.specs.Outputs.{text_lengths, LeavesTexts}
use Rattle.duplex_texts.specs.declared.TextLengths.{TextLengths}
use Rattle.duplex_tags.specs.Tags.{KindArrays, kind_arrays, CountArrays, duplex_counts}
use Rattle.duplex_tags.specs.Outputs.{duplex_refused, LeavesCounts}
use Rattle.rust_methylation.specs.Entries.{DuplexArrays, duplex_tags_reply}
use Rattle.rust_methylation.specs.declared.DuplexTagsReply.{DuplexTagsReply}

-- A strand's annotation as C gives it: whether there is one, the number of its pattern, and its evidence, nine bytes a position.
pub record AnnotationBytes : Type 0 where
  pub annotated : ℕ
  pub pattern : ℕ
  pub evidence : List ℕ

abbrev pub annotation_bytes : ℕ → ℕ → List ℕ → AnnotationBytes
annotation_bytes annotated pattern evidence = record { annotated = annotated; pattern = pattern; evidence = evidence }

-- Row 13's condition for it: a pattern above 1, or bytes that are not whole positions. It counts where there is an annotation.
abbrev pub broken_in : Bool → ℕ → ℕ → Bool
broken_in annotated pattern bytes = wrong_encoded_pattern annotated pattern || (annotated && not (eqb (bytes % 9) 0))

abbrev pub is_broken : AnnotationBytes → Bool
is_broken s = broken_in (yes s.annotated) s.pattern (length s.evidence)

-- The same for all that is given.
abbrev pub wrong_given : AnnotationBytes → AnnotationBytes → ℕ → Bool
wrong_given a b mode = is_broken a || (is_broken b || wrong_mode mode)

-- The strand that an annotation and bytes of evidence stand for.
abbrev pub strand_of : Option ConversionPattern → List ℕ → StrandAnnotation
strand_of annotation bytes = strand annotation (marks_of bytes) (unconverted_of bytes) (converted_of bytes)

-- As far as it is looked at.
abbrev pub strand_given : AnnotationBytes → StrandAnnotation
strand_given s = strand_of (encoded_annotation (yes s.annotated) s.pattern) (only_if (yes s.annotated) s.evidence)

-- Each array of counts by itself: as bytes, and as the numbers that some bytes are. Outputs of so many bytes hold so many numbers.
abbrev pub each_kind : (List ℕ → List ℕ) → KindArrays → KindArrays
each_kind f k = kind_arrays (f k.a) (f k.b) (f k.both)

abbrev pub each : (List ℕ → List ℕ) → CountArrays → CountArrays
each f c = record { unconverted = each_kind f c.unconverted; converted = each_kind f c.converted }

-- The rows that refuse the library's call.
abbrev pub bytes_refused : MethylationMode → List ℕ → StrandAnnotation → StrandAnnotation → DuplexArrays → Option Refusal
bytes_refused mode bases a b before = duplex_refused mode bases a b before.texts (each words16 before.counts)

-- What the library's call leaves there, with its counts as bytes.
pub record TagsBytesAs (mode : MethylationMode) (bases : List ℕ) (a b : StrandAnnotation) (before now : DuplexArrays) (told : Result TextLengths Refusal) : Type 0 where
  pub answered : told ≡ answer (bytes_refused mode bases a b before) (text_lengths (duplex_texts mode bases a b))
  pub the_texts : LeavesTexts (bytes_refused mode bases a b before) (duplex_texts mode bases a b) before.texts now.texts
  pub the_counts : LeavesCounts (bytes_refused mode bases a b before) (each bytes16 (duplex_counts (length bases) a b)) before.counts now.counts

-- What `gedrashiw_methylation_tags` answers and leaves in its outputs: 13 before all else.
abbrev pub TagsEntry : ℕ → List ℕ → AnnotationBytes → AnnotationBytes → DuplexArrays → DuplexArrays → DuplexTagsReply → Type 0
TagsEntry mode bases a b =
    RepliedAs (wrong_given a b mode) (duplex_tags_reply (Err Broken)) duplex_tags_reply (TagsBytesAs (mode_of mode) bases (strand_given a) (strand_given b))
