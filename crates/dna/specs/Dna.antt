-- Bases as bytes of ASCII. They compare with case unless a definition says otherwise.
use Rattle.std.specs.Prelude.{ℕ, ◌-◌, Bool, cond, ◌&&◌, eqb, leb}

abbrev pub letter_a : ℕ
letter_a = 65

abbrev pub letter_c : ℕ
letter_c = 67

abbrev pub letter_g : ℕ
letter_g = 71

abbrev pub letter_t : ℕ
letter_t = 84

-- No call; and its lower case, the base of padding.
abbrev pub letter_n : ℕ
letter_n = 78

abbrev pub lower_n : ℕ
lower_n = 110

-- The capitals stand 32 below the letters a (97) to z (122).
unfoldable pub upper : ℕ → ℕ
upper base = cond (leb 97 base && leb base 122) (base - 32) base

unfoldable pub same_letter : ℕ → ℕ → Bool
same_letter a b = eqb (upper a) (upper b)
