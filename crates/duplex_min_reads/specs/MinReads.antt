-- Thresholds, document 01: at least total reads of a molecule, XY of the better covered strand, YX of the other.
use Rattle.std.specs.Prelude.{ℕ, ◌+◌, min, max, Bool, ◌&&◌, Option, Result, List, [], ◌∷◌, eqb, leb, ltb, length, get_or}
use Rattle.refusals.specs.declared.Refusal.{Refusal}
use Rattle.refusals.specs.declared.Refusal.TheVariants.{NoThresholds, TooManyThresholds, XyAboveTotal, YxAboveXy}
use Rattle.refusals.specs.Refusal.{Fault, ◌if◌, refused as refused_by}
use Rattle.refusals.specs.Outcome.{answer}
use Rattle.duplex_min_reads.specs.declared.MinReads.{MinReads}

-- Missing values repeat the last.
abbrev pub total : List ℕ → ℕ
total ts = get_or ts 0 0

abbrev pub xy : List ℕ → ℕ
xy ts = get_or ts 1 (total ts)

abbrev pub yx : List ℕ → ℕ
yx ts = get_or ts 2 (xy ts)

abbrev pub min_reads : List ℕ → MinReads
min_reads ts = record { total = total ts; xy = xy ts; yx = yx ts }

abbrev pub faults : List ℕ → List Fault
faults ts =
    (NoThresholds if eqb (length ts) 0)
    ∷ (TooManyThresholds if ltb 3 (length ts))
    ∷ (XyAboveTotal if ltb (total ts) (xy ts))
    ∷ (YxAboveXy if ltb (xy ts) (yx ts))
    ∷ []

-- The refusal, if any.
abbrev pub refused : List ℕ → Option Refusal
refused ts = refused_by (faults ts)

abbrev pub validated : List ℕ → Result MinReads Refusal
validated ts = answer (refused ts) (min_reads ts)

abbrev pub min_yx_reads : List ℕ → Result ℕ Refusal
min_yx_reads ts = answer (refused ts) (yx ts)

-- A single strand is allowed exactly when YX is 0.
abbrev pub single_strand : List ℕ → Result Bool Refusal
single_strand ts = answer (refused ts) (eqb (yx ts) 0)

-- Two strands' counts reach the thresholds. XY is the larger, YX the smaller.
abbrev pub reaches_all : MinReads → ℕ → ℕ → Bool
reaches_all t a b = leb t.total (a + b) && (leb t.xy (max a b) && leb t.yx (min a b))
