-- Laws of a strand's group and of what goes to the outputs.
--     group_length                       the group's text has 5 bytes besides the listed skip counts
--     prefix_copied, room_behind, semicolon_fits, group_written     the prefix, the skip counts and the semicolon, one after another
--     calls_enabled, calls_disabled      the positions that the tags report
--     text_none, text_some, array_length     what goes to the outputs
--     mm_most, ml_most                   how long an output can need to be
-- Assumes nothing.
use mathlib.Core.Path.{◌≡◌, refl, sym, ap, ◌∙◌}
use mathlib.Core.Bool.{Bool, true, false}
use mathlib.Core.List.{List, [], ◌∷◌, ◌++◌}
use Prim.Native.Nat.{ℕ, ◌+◌, ◌*◌, ◌≤◌, ◌<◌}
use native.Mathlib.Omega.{arith}
use lib.ListN.{length, take, set, length-append, length-map}
use Rattle.lists.specs.Output.{put}
use Rattle.lists.specs.Part.{only_if}
use Rattle.lists.proofs.Output.{length_put, put_snoc, put_fitting, put_over, front_of}
use Rattle.decimal.specs.Decimal.{listed}
use Rattle.methylation.specs.Methylation.{is_enabled}
use Rattle.methylation.specs.declared.ConversionPattern.{ConversionPattern}
use Rattle.methylation.specs.declared.ConversionPattern.TheVariants.{CToT, GToA}
use Rattle.methylation.specs.declared.MethylationMode.{MethylationMode}
use Rattle.methylation_calls.specs.Calls.{is_tracked}
use Rattle.mm_ml.specs.Text.{prefix_of, group_text}
use Rattle.mm_ml.specs.Tags.{Annotated, called_at, skips, all_calls, all_listed, all_text, all_bytes, calls, ml_byte, if_called, mm_text, ml_array, tags_if_called, tag_lengths}
use Rattle.mm_ml.specs.declared.TagLengths.{TagLengths}
use Rattle.std.proofs.Common.{Option, Some, None}
use Rattle.std.proofs.lemmas.Option.{none-some}
use Rattle.mm_ml.proofs.Walk.{listed_within, calls_within}

pub prefix_length : (pattern : ConversionPattern) → length (prefix_of pattern) ≡ 4
prefix_length CToT = refl
prefix_length GToA = refl

pub group_length : (pattern : ConversionPattern) (counts : List ℕ) → length (group_text pattern counts) ≡ length (listed counts) + 5
unfolding group_text
group_length pattern counts = rw (length-append, length-append) (omega (arith, prefix_length pattern))

abbrev with_prefix : ConversionPattern → List ℕ → List ℕ
with_prefix pattern counts = prefix_of pattern ++ listed counts

-- `copied` is the output with the prefix, `counted` with the skip counts too.
module _
    (pattern : ConversionPattern) (counts out : List ℕ) {prefix copied : List ℕ}
    (room : length (group_text pattern counts) ≤ length out)
    (p : prefix ≡ prefix_of pattern)
    (c : copied ≡ put (take (length out) prefix) out)
  where
    with_prefix_lem : copied ≡ put (prefix_of pattern) out
    with_prefix_lem = c ∙ rw p (put_fitting (prefix_of pattern) out (omega (arith, prefix_length pattern, group_length pattern counts)))

    pub prefix_copied : length copied ≡ length out
    prefix_copied = ap length with_prefix_lem ∙ length_put (prefix_of pattern) out (omega (arith, prefix_length pattern, group_length pattern counts))

    pub room_behind : 4 + length (listed counts) ≤ length copied
    room_behind = omega (arith, prefix_copied, group_length pattern counts)

    module _ {counted : List ℕ} {at : ℕ} (a : at ≡ 4 + length (listed counts)) (n : counted ≡ put (take 4 copied ++ listed counts) copied) where
      text_length : length (with_prefix pattern counts) ≡ at
      text_length = length-append (prefix_of pattern) (listed counts) ∙ omega (arith, prefix_length pattern)

      with_counts : counted ≡ put (with_prefix pattern counts) out
      with_counts =
          n
          ∙ rw (with_prefix_lem, front_of (prefix_of pattern) out refl (sym (prefix_length pattern))) (put_over (with_prefix pattern counts) (prefix_of pattern) out (omega (arith, length-append (prefix_of pattern) (listed counts))))

      pub semicolon_fits : at < length counted
      semicolon_fits = omega (arith, ap length with_counts ∙ length_put (with_prefix pattern counts) out (omega (arith, text_length, group_length pattern counts)), group_length pattern counts)

      pub group_written : set counted at 59 ≡ put (group_text pattern counts) out
      unfolding group_text
      group_written = rw (with_counts, ← text_length) (put_snoc (with_prefix pattern counts) out 59 (omega (arith, text_length, group_length pattern counts)))

module _ (mode : MethylationMode) (s : Annotated) where
  pub calls_enabled : is_enabled mode ≡ true → calls mode s ≡ all_calls s
  unfolding calls only_if
  calls_enabled e = rw e

  pub calls_disabled : is_enabled mode ≡ false → calls mode s ≡ []
  unfolding calls only_if
  calls_disabled e = rw e

  pub text_none : calls mode s ≡ [] → mm_text mode s ≡ []
  unfolding mm_text
  text_none e = rw e

  pub text_some : (length (calls mode s) ≡ 0 → ⊥) → mm_text mode s ≡ all_text s
  unfolding mm_text
  text_some h = go (calls mode s) h
    where
      go : (ps : List ℕ) → (length ps ≡ 0 → ⊥) → if_called ps (all_text s) ≡ all_text s
      go [] g = absurd (g refl)
      go (p ∷ ps) g = refl

  pub calls_some : (length (calls mode s) ≡ 0 → ⊥) → calls mode s ≡ all_calls s
  unfolding calls only_if
  calls_some h = go (is_enabled mode) h
    where
      go : (b : Bool) → (length (only_if b (all_calls s)) ≡ 0 → ⊥) → only_if b (all_calls s) ≡ all_calls s
      go true g = refl
      go false g = absurd (g refl)

  pub array_some : (length (calls mode s) ≡ 0 → ⊥) → all_bytes mode s ≡ ml_array mode s
  unfolding ml_array
  array_some h = rw (calls_some h)

  pub array_none : calls mode s ≡ [] → ml_array mode s ≡ []
  unfolding ml_array
  array_none e = rw e

  pub array_length : length (ml_array mode s) ≡ length (calls mode s)
  unfolding ml_array
  array_length = length-map (calls mode s) (ml_byte mode s)

pub none_of : (ps : List ℕ) → length ps ≡ 0 → ps ≡ []
none_of [] e = refl
none_of (p ∷ ps) e = absurd (omega arith)

-- What the answer says of the outputs.
module _ (mode : MethylationMode) (s : Annotated) where
  pub untold_off : is_enabled mode ≡ false → None ≡ tag_lengths mode s
  untold_off e = rw (calls_disabled mode s e)

  pub untold_none : is_enabled mode ≡ true → length (all_calls s) ≡ 0 → None ≡ tag_lengths mode s
  untold_none e z = rw (calls_enabled mode s e ∙ none_of (all_calls s) z)

  pub told_some :
      {mm ml : ℕ}
      → is_enabled mode ≡ true
      → (ml ≡ 0 → ⊥)
      → mm ≡ length (all_listed s)
      → ml ≡ length (all_calls s)
      → Some (record { mm = mm + 5; ml = ml }) ≡ tag_lengths mode s
  told_some {mm} {ml} e h mm_is ml_is = go (calls mode s) refl
    where
      some : length (calls mode s) ≡ 0 → ⊥
      some z = h (ml_is ∙ sym (ap length (calls_enabled mode s e)) ∙ z)

      go : (ps : List ℕ) → calls mode s ≡ ps → Some (record { mm = mm + 5; ml = ml }) ≡ tags_if_called ps (length (mm_text mode s)) (length (ml_array mode s))
      go [] g = absurd (some (ap length g))
      go (p ∷ ps) g =
          rw (text_some mode s some, group_length s.pattern (skips s (all_calls s)), mm_is, array_length mode s, calls_enabled mode s e, ml_is)

  -- Without a tag nothing goes to an output.
  pub untold : None ≡ tag_lengths mode s → (mm_text mode s ≡ []) × (ml_array mode s ≡ [])
  untold e =
      let none = go (calls mode s) (length (mm_text mode s)) (length (ml_array mode s)) e in
      (text_none mode s none, array_none mode s none)
    where
      go : (ps : List ℕ) (mm ml : ℕ) → None ≡ tags_if_called ps mm ml → ps ≡ []
      go [] mm ml g = refl
      go (p ∷ ps) mm ml g = absurd (none-some _ g)

  -- With one, the group of all that is called, of the lengths that it tells.
  pub told :
      (n : TagLengths)
      → Some n ≡ tag_lengths mode s
      → (mm_text mode s ≡ all_text s) × (ml_array mode s ≡ all_bytes mode s) × (n.mm ≡ length (all_text s)) × (n.ml ≡ length (all_calls s))
  told n e =
      let (some, mm_is, ml_is) = go (calls mode s) (length (mm_text mode s)) (length (ml_array mode s)) e in
      let text = text_some mode s some in
      (text, sym (array_some mode s some), mm_is ∙ ap length text, ml_is ∙ array_length mode s ∙ ap length (calls_some mode s some))
    where
      mm_in : Option TagLengths → ℕ
      mm_in None = 0
      mm_in (Some lengths) = lengths.mm

      ml_in : Option TagLengths → ℕ
      ml_in None = 0
      ml_in (Some lengths) = lengths.ml

      go : (ps : List ℕ) (mm ml : ℕ) → Some n ≡ tags_if_called ps mm ml → (length ps ≡ 0 → ⊥) × (n.mm ≡ mm) × (n.ml ≡ ml)
      go [] mm ml g = absurd (none-some _ (sym g))
      go (p ∷ ps) mm ml g = (λ z. omega arith, ap mm_in g, ap ml_in g)

-- For callers: how long an output can need to be.
module _ (s : Annotated) (few : length s.bases ≤ 1024) where
  pub listed_most : length (all_listed s) ≤ 5 * length s.bases
  listed_most = listed_within (is_tracked s.pattern) s.bases (called_at s) few (length s.bases) (omega arith)

  pub mm_most : (mode : MethylationMode) → length (mm_text mode s) ≤ 5 + 5 * length s.bases
  unfolding mm_text
  mm_most mode = go (calls mode s)
    where
      go : (ps : List ℕ) → length (if_called ps (all_text s)) ≤ 5 + 5 * length s.bases
      go [] = omega arith
      go (p ∷ ps) = omega (arith, group_length s.pattern (skips s (all_calls s)), listed_most)

  pub ml_most : (mode : MethylationMode) → length (ml_array mode s) ≤ length s.bases
  unfolding calls only_if
  ml_most mode = omega (arith, array_length mode s, go (is_enabled mode))
    where
      go : (b : Bool) → length (only_if b (all_calls s)) ≤ length s.bases
      go true = calls_within (is_tracked s.pattern) s.bases (called_at s) (length s.bases)
      go false = omega arith
