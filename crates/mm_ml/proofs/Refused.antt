-- The refusal of a call that tests the strand first and the room of its outputs after.
--     by_room               the refusal of a call whose strand is not refused
--     not_called, called    what a call that is not refused answers and leaves: without a tag, and with one
--     alone                 the MM text alone, from a call that writes the ML bytes too, to a buffer that has room for any
-- Assumes nothing.
use mathlib.Core.Path.{◌≡◌, refl, sym, ◌∙◌}
use mathlib.Core.Bool.{Bool, true, false, cond}
use mathlib.Core.List.{List, [], ◌∷◌}
use Prim.Native.Nat.{ℕ, ◌≤◌}
use native.Mathlib.Omega.{arith}
use borrow.Author.Tests.{le-ltb}
use lib.ListN.{length, length-map}
use Rattle.std.proofs.Common.{Option, Some, None, Result, Ok, Err}
use Rattle.std.proofs.lemmas.Option.{none-some}
use Rattle.lists.specs.Output.{put}
use Rattle.refusals.specs.declared.Refusal.{Refusal}
use Rattle.refusals.specs.declared.Refusal.TheVariants.{TooLong, Ragged}
use Rattle.refusals.specs.Refusal.{too_long, ragged, refused}
use Rattle.refusals.specs.Outcome.{answer}
use Rattle.refusals.proofs.Condition.{not_too_long}
use Rattle.methylation.specs.declared.MethylationMode.{MethylationMode}
use Rattle.mm_ml.specs.Tags.{Annotated, calls, mm_text, ml_array, all_calls, all_text, all_bytes, faults_of, room_faults, tags_refused, tag_refused, tags_if_called, tag_if_called, tag_lengths, TaggedAs, MmTaggedAs}
use Rattle.mm_ml.specs.declared.TagLengths.{TagLengths}
use Rattle.mm_ml.proofs.Group.{untold, told, ml_most}

-- Of the tests of a strand.
passed : (long uneven : Bool) (room : Option Refusal) → cond long (Some TooLong) (cond uneven (Some Ragged) None) ≡ None → cond long (Some TooLong) (cond uneven (Some Ragged) room) ≡ room
passed true uneven room e = absurd (none-some _ (sym e))
passed false true room e = absurd (none-some _ (sym e))
passed false false room e = refl

module _ (mode : MethylationMode) (s : Annotated) (mm ml : List ℕ) where
  pub by_room : refused (faults_of s) ≡ None → tags_refused mode s mm ml ≡ refused (room_faults (length (mm_text mode s)) (length mm) (length (ml_array mode s)) (length ml))
  by_room e = passed (too_long (length s.bases ∷ length s.marks ∷ length s.unconverted ∷ length s.converted ∷ [])) (ragged (length s.bases ∷ length s.marks ∷ length s.unconverted ∷ length s.converted ∷ [])) _ e

  module _ (e : refused (faults_of s) ≡ None) where
    pub not_called : None ≡ tag_lengths mode s → TaggedAs mode s mm ml mm ml (Ok None)
    unfolding put
    not_called h =
        let (text, bytes) = untold mode s h in
        let fits : tags_refused mode s mm ml ≡ None = by_room e ∙ rw (text, bytes, le-ltb (length mm) 0 (omega arith), le-ltb (length ml) 0 (omega arith)) in
        record { answered = rw (fits, ← h); mm_text_is = rw (fits, text); ml_array_is = rw (fits, bytes) }

    pub called :
        {mm_now ml_now : List ℕ} (n : TagLengths)
        → Some n ≡ tag_lengths mode s
        → (n.mm ≤ length mm) × (n.ml ≤ length ml)
        → mm_now ≡ put (all_text s) mm
        → ml_now ≡ put (all_bytes mode s) ml
        → TaggedAs mode s mm ml mm_now ml_now (Ok (Some n))
    called n h room text_is bytes_is =
        let (text, bytes, mm_is, ml_is) = told mode s n h in
        let fits : tags_refused mode s mm ml ≡ None =
        by_room e ∙ rw (text, bytes, length-map, le-ltb (length mm) (length (all_text s)) (omega (arith, mm_is, room.0)), le-ltb (length ml) (length (all_calls s)) (omega (arith, ml_is, room.1)))
        in
        record { answered = rw (fits, ← h); mm_text_is = rw (fits, text) text_is; ml_array_is = rw (fits, bytes) bytes_is }

-- The answer without the ML bytes.
abbrev pub mm_in : Option TagLengths → Option ℕ
mm_in None = None
mm_in (Some lengths) = Some lengths.mm

abbrev pub mm_of : Result (Option TagLengths) Refusal → Result (Option ℕ) Refusal
mm_of (Ok tags) = Ok (mm_in tags)
mm_of (Err refusal) = Err refusal

module _ (mode : MethylationMode) (s : Annotated) (mm ml : List ℕ) (room : 1024 ≤ length ml) where
  ample : tags_refused mode s mm ml ≡ tag_refused mode s mm
  ample = go (too_long (length s.bases ∷ length s.marks ∷ length s.unconverted ∷ length s.converted ∷ [])) refl
    where
      go :
          (long : Bool)
          → too_long (length s.bases ∷ length s.marks ∷ length s.unconverted ∷ length s.converted ∷ []) ≡ long
          → tags_refused mode s mm ml ≡ tag_refused mode s mm
      go true e = rw e
      go false e =
          let few = (not_too_long (length s.bases ∷ length s.marks ∷ length s.unconverted ∷ length s.converted ∷ []) e).0 in
          rw (le-ltb (length ml) (length (ml_array mode s)) (omega (arith, ml_most s few mode)), le-ltb 0 0 (omega arith))

  pub alone : {mm_now ml_now : List ℕ} {r : Result (Option TagLengths) Refusal} → TaggedAs mode s mm ml mm_now ml_now r → MmTaggedAs mode s mm mm_now (mm_of r)
  alone t = record { answered = rw (t.answered, ample) (go (tag_refused mode s mm) (calls mode s) _ _); mm_text_is = rw ample at t.mm_text_is }
    where
      go :
          (refusal : Option Refusal) (ps : List ℕ) (text bytes : ℕ)
          → mm_of (answer refusal (tags_if_called ps text bytes)) ≡ answer refusal (tag_if_called ps text)
      go None [] text bytes = refl
      go None (p ∷ ps) text bytes = refl
      go (Some row) ps text bytes = refl
