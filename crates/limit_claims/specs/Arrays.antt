-- What a limit is by: how long each array is of each strand that is there. Proved in proofs/Arrays.antt.
use Rattle.std.specs.Prelude.{◌≡◌, Bool, true, false, cond, ◌||◌, Option, Some, None, List, ◌∷◌, ◌++◌, ℕ, ◌≤◌, ◌<◌, length}
use Rattle.refusals.specs.declared.Refusal.{Refusal}
use Rattle.refusals.specs.declared.Refusal.TheVariants.{TooLong, OverLimit}
use Rattle.refusals.specs.Refusal.{order}
use Rattle.methylation.specs.Arrays.{EvidenceArrays}
use Rattle.methylation.specs.declared.ConversionPattern.{ConversionPattern}
use Rattle.vanilla_caller.specs.Strand.{Arrays, with_evidence}
use Rattle.vanilla_caller.specs.declared.Lengths.{Lengths}
use Rattle.duplex_kind.specs.Absent.{absent}
use Rattle.duplex_kind.specs.Kind.{strand}
use Rattle.duplex_kind.specs.Limit.{lengths_of, over_in}
use Rattle.molecule_strand.specs.Rows.{numbers_in}
use Rattle.molecule_strand.specs.Strand.{StrandBytes, strand_of}

-- Some array that is looked at, of either strand, has over so many positions; or none has.
abbrev pub Over : ℕ → Option Lengths → Option Lengths → Type 0
Over limit a b = (over_in limit a || over_in limit b) ≡ true

abbrev pub Within : ℕ → Option Lengths → Option Lengths → Type 0
Within limit a b = (over_in limit a || over_in limit b) ≡ false

-- Of a strand that is there.
abbrev pub present_over : ℕ → Option ConversionPattern → Arrays → Bool
present_over limit annotation x = over_in limit (lengths_of (strand true annotation x))

-- No array of a strand has more than so many positions.
pub record UpTo (limit : ℕ) (x : Arrays) : Type 0 where
  pub bases : length x.bases ≤ limit
  pub quals : length x.quals ≤ limit
  pub depths : length x.depths ≤ limit
  pub errors : length x.errors ≤ limit
  pub marks : length x.evidence.marks ≤ limit
  pub unconverted : length x.evidence.unconverted ≤ limit
  pub converted : length x.evidence.converted ≤ limit

-- One array over the limit is enough, whichever it is and whatever the others have: no limit on the record's length, on the bases or on
-- any one array would do. So with a limit of 256 are 257.
pub record OfEachArray (limit : ℕ) : Type 0 where
  pub bases : (annotation : Option ConversionPattern) (x : Arrays) → limit < length x.bases → present_over limit annotation x ≡ true
  pub quals : (annotation : Option ConversionPattern) (x : Arrays) → limit < length x.quals → present_over limit annotation x ≡ true
  pub depths : (annotation : Option ConversionPattern) (x : Arrays) → limit < length x.depths → present_over limit annotation x ≡ true
  pub errors : (annotation : Option ConversionPattern) (x : Arrays) → limit < length x.errors → present_over limit annotation x ≡ true
  -- Evidence counts with an annotation.
  pub marks : (pattern : ConversionPattern) (x : Arrays) → limit < length x.evidence.marks → present_over limit (Some pattern) x ≡ true
  pub unconverted : (pattern : ConversionPattern) (x : Arrays) → limit < length x.evidence.unconverted → present_over limit (Some pattern) x ≡ true
  pub converted : (pattern : ConversionPattern) (x : Arrays) → limit < length x.evidence.converted → present_over limit (Some pattern) x ≡ true
  -- And as many as the limit are taken of each.
  pub taken : (annotation : Option ConversionPattern) (x : Arrays) → UpTo limit x → present_over limit annotation x ≡ false
  -- Either strand's.
  pub first : (a b : Option Lengths) → over_in limit a ≡ true → Over limit a b
  pub second : (a b : Option Lengths) → over_in limit b ≡ true → Over limit a b

abbrev pub EachArray : Type 0
EachArray = (limit : ℕ) → OfEachArray limit

-- Evidence without an annotation is not looked at, nor anything of a strand that is not there.
pub record NotLookedAt : Type 0 where
  pub evidence : (present : Bool) (x : Arrays) (e : EvidenceArrays) → lengths_of (strand present None (with_evidence x e)) ≡ lengths_of (strand present None x)
  pub absent_strand : (limit : ℕ) (annotation : Option ConversionPattern) (x : Arrays) → over_in limit (lengths_of (absent annotation x)) ≡ false

-- Strands as bytes are tested by positions, not by bytes: two bytes of depths or of errors are one, and nine of evidence.
abbrev pub InPositions : Type 0
InPositions = (s : StrandBytes) → lengths_of (strand_of s) ≡ cond s.present (Some (numbers_in s)) None

-- 19 stands directly behind 7 in the order of every call.
pub record Later : Type 0 where
  pub earlier : List Refusal
  pub later : List Refusal
  pub split : order ≡ earlier ++ TooLong ∷ OverLimit ∷ later
