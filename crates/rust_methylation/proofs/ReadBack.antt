-- The claims of `specs/ReadBack.antt`. Assumes nothing.
use mathlib.Core.Path.{◌≡◌, refl}
use Prim.Native.Nat.{ℕ}
use Rattle.std.proofs.Common.{Option, Some, None, Ok}
use Rattle.mm_ml.specs.declared.TagLengths.{TagLengths}
use Rattle.rust_methylation.specs.Entries.{mm_ml_reply, mm_reply}
use Rattle.rust_methylation.specs.ReadBack.{mm_ml_back, mm_back, ReadBack}

tags_pass : (tags : Option TagLengths) → (mm_ml_reply (Ok tags)).refused ≡ 0
tags_pass None = refl
tags_pass (Some lengths) = refl

tags_back : (tags : Option TagLengths) → mm_ml_back (mm_ml_reply (Ok tags)) ≡ tags
tags_back None = refl
tags_back (Some lengths) = refl

text_passes : (text : Option ℕ) → (mm_reply (Ok text)).refused ≡ 0
text_passes None = refl
text_passes (Some length) = refl

text_back : (text : Option ℕ) → mm_back (mm_reply (Ok text)) ≡ text
text_back None = refl
text_back (Some length) = refl

pub read_back : ReadBack
read_back = record {
  handed_on = λ number. refl;
  mm_ml_is = record { refusals = λ row. refl; passes = tags_pass; answers = tags_back };
  mm_alone = record { refusals = λ row. refl; passes = text_passes; answers = text_back };
  record_tags = record { refusals = λ row. refl; passes = λ x. refl; answers = λ x. refl };
}
