-- What two numbers say of the annotations of two strands: 13, or the annotations. Assumes nothing.
use mathlib.Core.Path.{◌≡◌, refl}
use mathlib.Core.Bool.{Bool, true, false, cond, ◌||◌}
use Prim.Native.Nat.{ℕ}
use Rattle.std.proofs.Common.{Option, Result, Ok, Err}
use Rattle.refusals.specs.declared.Refusal.{Refusal}
use Rattle.refusals.specs.declared.Refusal.TheVariants.{Broken}
use Rattle.methylation.specs.declared.ConversionPattern.{ConversionPattern}
use Rattle.methylation.specs.Choices.{annotation_of, wrong_annotation}
use Rattle.replies.specs.Choices.{annotations_in}

abbrev Both : Type 0
Both = Option ConversionPattern × Option ConversionPattern

abbrev by : Bool → Both → Result Both Refusal
by wrong x = cond wrong (Err Broken) (Ok x)

right_by : (wrong : Bool) (x : Both) {y : Both} → by wrong x ≡ Ok y → (wrong ≡ false) × (y ≡ x)
right_by true x h = absurd cc
right_by false x h = (refl, cc)

wrong_by : (wrong : Bool) (x : Both) {e : Refusal} → by wrong x ≡ Err e → (wrong ≡ true) × (e ≡ Broken)
wrong_by true x h = (refl, cc)
wrong_by false x h = absurd cc

pub right : (m n : ℕ) {y : Both} → annotations_in m n ≡ Ok y → ((wrong_annotation m || wrong_annotation n) ≡ false) × (y ≡ (annotation_of m, annotation_of n))
right m n h = right_by (wrong_annotation m || wrong_annotation n) (annotation_of m, annotation_of n) h

pub wrong : (m n : ℕ) {e : Refusal} → annotations_in m n ≡ Err e → ((wrong_annotation m || wrong_annotation n) ≡ true) × (e ≡ Broken)
wrong m n h = wrong_by (wrong_annotation m || wrong_annotation n) (annotation_of m, annotation_of n) h
