-- What the entries over methylation answer as numbers, and what they leave: as the library's calls.
use Rattle.std.specs.Prelude.{ℕ, ◌≡◌, Option, Some, None, Result, Ok, Err, List, length}
use Rattle.refusals.specs.declared.Refusal.{Refusal}
use Rattle.refusals.specs.Refusal.{number_of}
use Rattle.refusals.specs.Outcome.{by_number}
use Rattle.refusals.specs.Outcome.{answer, after}
use Rattle.methylation.specs.declared.ConversionPattern.{ConversionPattern}
use Rattle.methylation.specs.declared.MethylationMode.{MethylationMode}
use Rattle.methylation_restore.specs.Restore.{restored, restore_refused, strand_bases, strand_refused}
use Rattle.mm_ml.specs.Tags.{Annotated, TaggedAs}
use Rattle.mm_ml.specs.declared.TagLengths.{TagLengths}
use Rattle.duplex_texts.specs.Texts.{StrandAnnotation, TextArrays}
use Rattle.duplex_texts.specs.declared.TextLengths.{TextLengths}
use Rattle.duplex_tags.specs.Tags.{CountArrays}
use Rattle.duplex_tags.specs.Outputs.{DuplexTaggedAs}
use Rattle.rust_methylation.specs.declared.TagsReply.{TagsReply}
use Rattle.rust_methylation.specs.declared.DuplexTagsReply.{DuplexTagsReply}

-- `tagged` 0: no tag; 1: the lengths of its parts.
abbrev pub tags_reply : ℕ → ℕ → ℕ → ℕ → TagsReply
tags_reply number tagged mm_length ml_length = record { refused = number; tagged = tagged; mm = mm_length; ml = ml_length }

abbrev pub mm_ml_reply : Result (Option TagLengths) Refusal → TagsReply
mm_ml_reply (Ok (Some lengths)) = tags_reply 0 1 lengths.mm lengths.ml
mm_ml_reply (Ok None) = tags_reply 0 0 0 0
mm_ml_reply (Err refusal) = tags_reply (number_of refusal) 0 0 0

abbrev pub mm_reply : Result (Option ℕ) Refusal → TagsReply
mm_reply (Ok (Some mm_length)) = tags_reply 0 1 mm_length 0
mm_reply (Ok None) = tags_reply 0 0 0 0
mm_reply (Err refusal) = tags_reply (number_of refusal) 0 0 0

-- A refusal told by its number is handed on, a row's number or not.
abbrev pub duplex_tags_told : Result TextLengths ℕ → DuplexTagsReply
duplex_tags_told (Ok lengths) = record { refused = 0; positions = lengths.seq; a_mm = lengths.a_mm; b_mm = lengths.b_mm; mm = lengths.mm; ml = lengths.ml }
duplex_tags_told (Err number) = record { refused = number; positions = 0; a_mm = 0; b_mm = 0; mm = 0; ml = 0 }

abbrev pub duplex_tags_reply : Result TextLengths Refusal → DuplexTagsReply
duplex_tags_reply tags = duplex_tags_told (by_number tags)

-- What `restore_unconverted_bases` answers and leaves of the bases.
pub record RestoredAs (pattern : ConversionPattern) (marks before now : List ℕ) (told : Result ℕ Refusal) : Type 0 where
  pub answered : told ≡ answer (restore_refused before marks) (length before)
  pub bases : now ≡ after (restore_refused before marks) (restored pattern marks before) before

-- What `methylation_strand_bases` answers and leaves.
pub record StrandBasesAs (annotation : Option ConversionPattern) (strand marks before now : List ℕ) (told : Result ℕ Refusal) : Type 0 where
  pub answered : told ≡ answer (strand_refused annotation strand marks before) (length strand)
  pub bases : now ≡ after (strand_refused annotation strand marks before) (strand_bases annotation marks strand) before

-- The outputs of a strand's tags, and of a record's.
pub record TagArrays : Type 0 where
  pub mm : List ℕ
  pub ml : List ℕ

abbrev pub tag_arrays : List ℕ → List ℕ → TagArrays
tag_arrays mm_bytes ml_bytes = record { mm = mm_bytes; ml = ml_bytes }

pub record DuplexArrays : Type 0 where
  pub texts : TextArrays
  pub counts : CountArrays

abbrev pub duplex_arrays : TextArrays → CountArrays → DuplexArrays
duplex_arrays texts counts = record { texts = texts; counts = counts }

-- What the library's calls leave there.
abbrev pub TagsAs : MethylationMode → Annotated → TagArrays → TagArrays → Result (Option TagLengths) Refusal → Type 0
TagsAs mode s before now = TaggedAs mode s before.mm before.ml now.mm now.ml

abbrev pub DuplexTagsAs : MethylationMode → List ℕ → StrandAnnotation → StrandAnnotation → DuplexArrays → DuplexArrays → Result TextLengths Refusal → Type 0
DuplexTagsAs mode bases a b before now = DuplexTaggedAs mode bases a b before.texts before.counts now.texts now.counts
