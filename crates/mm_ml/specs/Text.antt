-- SAMtags' MM: a group of called positions against a sequence, as text.
use Rattle.std.specs.Prelude.{ℕ, zero, suc, Bool, List, [], ◌∷◌, ◌++◌}
use Rattle.std.proofs.Math.Seq.{slice}
use Rattle.lists.specs.Count.{count_of}
use Rattle.lists.specs.Part.{only_if}
use Rattle.decimal.specs.Decimal.{listed}
use Rattle.methylation.specs.declared.ConversionPattern.{ConversionPattern}
use Rattle.methylation.specs.declared.ConversionPattern.TheVariants.{CToT, GToA}

-- The positions below n that meet a test, in rising order.
unfoldable pub places_below : (ℕ → Bool) → ℕ → List ℕ
places_below called zero = []
places_below called (suc n) = places_below called n ++ only_if (called n) (n ∷ [])

-- How many tracked letters a sequence has from one position up to another.
unfoldable pub letters : (ℕ → Bool) → List ℕ → ℕ → ℕ → ℕ
letters tracked bases from to = count_of tracked (slice from to bases)

-- The skip count of each of some positions: the tracked letters passed over since the position before, or since `from`.
unfoldable pub skips_from : (ℕ → Bool) → List ℕ → ℕ → List ℕ → List ℕ
skips_from tracked bases from [] = []
skips_from tracked bases from (p ∷ ps) = letters tracked bases from p ∷ skips_from tracked bases (suc p) ps

-- `C+m?`: 5mC (m) on the strand of the sequence (+), at C; `G-m?`: on the opposite strand, at G. Letters of the kind that are
-- passed over are unknown (?).
abbrev pub prefix_of : ConversionPattern → List ℕ
prefix_of CToT = 67 ∷ 43 ∷ 109 ∷ 63 ∷ []
prefix_of GToA = 71 ∷ 45 ∷ 109 ∷ 63 ∷ []

-- A group: the prefix, the skip counts, a comma before each, and a semicolon (59).
unfoldable pub group_text : ConversionPattern → List ℕ → List ℕ
group_text pattern skips = prefix_of pattern ++ listed skips ++ 59 ∷ []
