-- The name of a consensus read.
use Rattle.std.specs.Prelude.{ℕ, ◌+◌, Bool, Option, List, [], ◌∷◌, ◌++◌, length}
use Rattle.refusals.specs.declared.Refusal.{Refusal}
use Rattle.refusals.specs.declared.Refusal.TheVariants.{OutputTooShort}
use Rattle.refusals.specs.Refusal.{Fault, ◌if◌, too_short, refused}

-- The prefix, a colon (58 in ASCII) and the UMI.
abbrev pub read_name : List ℕ → List ℕ → List ℕ
read_name prefix umi = prefix ++ 58 ∷ umi

-- Refusal 12's condition, by the lengths of the two and of the output.
abbrev pub name_too_short : ℕ → ℕ → ℕ → Bool
name_too_short prefix umi out = too_short (prefix + 1 + umi) (out ∷ [])

abbrev pub name_faults : ℕ → ℕ → ℕ → List Fault
name_faults prefix umi out = (OutputTooShort if name_too_short prefix umi out) ∷ []

abbrev pub name_refused : List ℕ → List ℕ → List ℕ → Option Refusal
name_refused prefix umi out = refused (name_faults (length prefix) (length umi) (length out))
