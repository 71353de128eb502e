-- Each answer can be read back from its numbers, so that a member which stands for another breaks this, in the code and its definition
-- alike. How many bases were restored is rust_strand's to tell.
use Rattle.std.specs.Prelude.{ℕ, ◌≡◌, cond, eqb, Option, Some, None, Err}
use Rattle.mm_ml.specs.declared.TagLengths.{TagLengths}
use Rattle.duplex_texts.specs.declared.TextLengths.{TextLengths}
use Rattle.replies.specs.ReadBack.{AnswersBack}
use Rattle.rust_methylation.specs.Entries.{mm_ml_reply, mm_reply, duplex_tags_told, duplex_tags_reply}
use Rattle.rust_methylation.specs.declared.DuplexTagsReply.{DuplexTagsReply}
use Rattle.rust_methylation.specs.declared.TagsReply.{TagsReply}

abbrev pub mm_ml_back : TagsReply → Option TagLengths
mm_ml_back r = cond (eqb r.tagged 1) (Some (record { mm = r.mm; ml = r.ml })) None

abbrev pub mm_back : TagsReply → Option ℕ
mm_back r = cond (eqb r.tagged 1) (Some r.mm) None

abbrev pub duplex_tags_back : DuplexTagsReply → TextLengths
duplex_tags_back r = record { seq = r.positions; a_mm = r.a_mm; b_mm = r.b_mm; mm = r.mm; ml = r.ml }

pub record ReadBack : Type 0 where
  pub handed_on : (number : ℕ) → (duplex_tags_told (Err number)).refused ≡ number
  pub mm_ml_is : AnswersBack mm_ml_reply (λ (r : TagsReply). r.refused) mm_ml_back
  pub mm_alone : AnswersBack mm_reply (λ (r : TagsReply). r.refused) mm_back
  pub record_tags : AnswersBack duplex_tags_reply (λ (r : DuplexTagsReply). r.refused) duplex_tags_back
