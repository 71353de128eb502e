-- A record's printed text read back, document 01's line program: a header of 15 words, and under it a line of as many.
use Rattle.std.specs.Prelude.{Bool, cond, ◌||◌, List, [], ◌∷◌, map, ℕ, ◌+◌, eqb, get_or}
use Rattle.decimal.specs.Decimal as decimal

-- A character before the first of some words.
abbrev pub joined : ℕ → List (List ℕ) → List (List ℕ)
joined c [] = (c ∷ []) ∷ []
joined c (w ∷ ws) = (c ∷ w) ∷ ws

-- What stands between the characters that end a word, one word more than there are such characters.
unfoldable pub split : (ℕ → Bool) → List ℕ → List (List ℕ)
split ends [] = [] ∷ []
split ends (c ∷ cs) = cond (ends c) ([] ∷ split ends cs) (joined c (split ends cs))

-- A blank (32) or a line feed (10).
abbrev pub ends_word : ℕ → Bool
ends_word c = eqb c 32 || eqb c 10

-- A column of the line: the header's words are before it.
unfoldable pub column : ℕ → List ℕ → List ℕ
column k text = get_or (split ends_word text) (15 + k) []

-- A comma.
abbrev pub ends_number : ℕ → Bool
ends_number c = eqb c 44

-- The numbers of a column, with commas between them.
unfoldable pub numbers_in : List ℕ → List ℕ
numbers_in [] = []
numbers_in (c ∷ cs) = map decimal.value_of (split ends_number (c ∷ cs))
