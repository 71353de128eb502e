-- Calls of other crates that no row refuses here, so that what they write is known.
--     restore_fits, tags_fit     of restoring a sequence, and of a strand's tags
-- Assumes nothing.
use mathlib.Core.Path.{◌≡◌, refl}
use mathlib.Core.List.{List}
use Prim.Native.Nat.{ℕ, ◌≤◌}
use borrow.Author.Tests.{le-ltb, eq-eqb}
use lib.ListN.{length}
use Rattle.methylation.specs.declared.MethylationMode.{MethylationMode}
use Rattle.methylation_restore.specs.Restore.{restore_refused}
use Rattle.mm_ml.specs.Tags.{Annotated, Evident, mm_text, ml_array, tags_refused}
use Rattle.std.proofs.Common.{None}

pub restore_fits : (bases marks : List ℕ) → length bases ≤ 1024 → length marks ≡ length bases → restore_refused bases marks ≡ None
restore_fits bases marks few same = rw (same, le-ltb 1024 (length bases) few, eq-eqb (length bases) (length bases) refl)

pub tags_fit :
    (mode : MethylationMode) (s : Annotated) (mm ml : List ℕ)
    → Evident s
    → length (mm_text mode s) ≤ length mm
    → length (ml_array mode s) ≤ length ml
    → tags_refused mode s mm ml ≡ None
tags_fit mode s mm ml e mm_room ml_room =
    rw
    (e.marks, e.unconverted, e.converted, le-ltb 1024 (length s.bases) e.few, eq-eqb (length s.bases) (length s.bases) refl, le-ltb (length mm) (length (mm_text mode s)) mm_room, le-ltb (length ml) (length (ml_array mode s)) ml_room)
