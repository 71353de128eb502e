-- The refusal table of documents 01 and 02, and the order of its rows in every call.
use Rattle.std.specs.Prelude.{ℕ, ◌≤◌, Bool, false, cond, not, ◌||◌, Option, Some, None, List, [], ◌∷◌, ◌++◌, eqb, ltb, length}
use Rattle.refusals.specs.declared.Refusal.{Refusal}
use Rattle.refusals.specs.declared.Refusal.TheVariants.{Broken, NoThresholds, TooManyThresholds, XyAboveTotal, YxAboveXy, CeilingOutside, TooLong, OverLimit, Ragged, TooManyReads, PartOutside, BelowLength, OutputTooShort, NoMi, NoStrand}

-- A row of the table is a value of the enum of src/lib.rt. It has no others, so that a condition cannot have a row which the order
-- leaves out.
-- The number that a row answers.
abbrev pub number_of : Refusal → ℕ
number_of Broken = 13
number_of NoThresholds = 1
number_of TooManyThresholds = 2
number_of XyAboveTotal = 3
number_of YxAboveXy = 4
number_of TooLong = 7
number_of Ragged = 8
number_of TooManyReads = 9
number_of PartOutside = 10
number_of BelowLength = 11
number_of OutputTooShort = 12
number_of NoMi = 5
number_of NoStrand = 6
number_of CeilingOutside = 14
number_of OverLimit = 19

-- Which row it is, as a number: the one that it answers. A row that answers a number at a second place of the order needs another
-- one here.
abbrev pub code : Refusal → ℕ
code row = number_of row

-- A row's condition at a call: the row, and whether the arguments meet it.
pub record Fault : Type 0 where
  pub row : Refusal
  pub met : Bool

infix 20 ◌if◌
abbrev pub ◌if◌ : Refusal → Bool → Fault
◌if◌ row met = record { row = row; met = met }

-- The rows in the order in which a call tests them, as far as they apply: the tray, the thresholds and the ceiling before all others,
-- the partition's own last. A new row is a line of the enum, one of its number, and one here.
abbrev pub order : List Refusal
order =
    Broken  -- a broken tray
    ∷ NoThresholds  -- no thresholds
    ∷ TooManyThresholds  -- more than 3 thresholds
    ∷ XyAboveTotal  -- second threshold above first
    ∷ YxAboveXy  -- third threshold above second
    ∷ CeilingOutside  -- the ceiling is outside 3 to 93
    ∷ TooLong  -- over 1,024 positions
    ∷ OverLimit  -- up to 1,024 positions, and over a lab's limit
    ∷ Ragged  -- arrays of one strand, or evidence and bases, differ in length
    ∷ TooManyReads  -- over 1,024 reads in one list
    ∷ PartOutside  -- a read's part leaves its byte buffer
    ∷ BelowLength  -- padding below the present length
    ∷ OutputTooShort  -- a lent output is shorter than what goes there
    ∷ NoMi  -- a read has no MI
    ∷ NoStrand  -- MI not ending /A or /B
    ∷ []

-- Some element of a list meets p.
abbrev pub any : (ℕ → Bool) → List ℕ → Bool
any p [] = false
any p (x ∷ []) = p x
any p (x ∷ (y ∷ ys)) = p x || any p (y ∷ ys)

-- Row 19's condition, for some lengths by a limit.
abbrev pub over : ℕ → List ℕ → Bool
over limit lengths = any (λ n. ltb limit n) lengths

-- Row 7's: the limit of every call.
abbrev pub too_long : List ℕ → Bool
too_long lengths = over 1024 lengths

-- Row 9's condition, for the numbers of reads of some lists.
abbrev pub too_many : List ℕ → Bool
too_many counts = any (λ n. ltb 1024 n) counts

-- A list that row 9 lets pass.
abbrev pub FewReads : {A : Type 0} → List A → Type 0
FewReads reads = length reads ≤ 1024

-- Row 8's condition, for the lengths of arrays that belong together: they are not all the same.
abbrev pub ragged : List ℕ → Bool
ragged [] = false
ragged (first ∷ others) = any (λ n. not (eqb n first)) others

-- Row 12's condition, for the lengths of some outputs to which n elements go.
abbrev pub too_short : ℕ → List ℕ → Bool
too_short n outs = any (λ out. ltb out n) outs

-- The faults of one row.
abbrev pub of_code : ℕ → List Fault → List Fault
of_code n [] = []
of_code n (f ∷ fs) = cond (eqb (code f.row) n) (f ∷ of_code n fs) (of_code n fs)

abbrev pub of_row : Refusal → List Fault → List Fault
of_row row fs = of_code (code row) fs

-- The faults by the given order of rows.
abbrev pub sorted : List Refusal → List Fault → List Fault
sorted [] fs = []
sorted (row ∷ rows) fs = of_row row fs ++ sorted rows fs

-- The row of the first fault that is met.
abbrev pub first : List Fault → Option Refusal
first [] = None
first (f ∷ fs) = cond f.met (Some f.row) (first fs)

-- The refusal of a call with these faults, if it is refused.
abbrev pub refused : List Fault → Option Refusal
refused fs = first (sorted order fs)

-- A refusal as the number that C sees: 0 where a call is not refused.
abbrev pub number_or_0 : Option Refusal → ℕ
number_or_0 None = 0
number_or_0 (Some row) = number_of row

-- Row 7's condition for a record of n positions, by how many elements an array of each strand has.
abbrev pub record_too_long : ℕ → ℕ → ℕ → Bool
record_too_long n a b = too_long (n ∷ a ∷ b ∷ [])
