-- A reader of an MM group, as SAMtags describes it: the text and the sequence give the called positions back.
use Rattle.std.specs.Prelude.{ℕ, zero, suc, ◌+◌, ◌-◌, ◌*◌, ◌≡◌, Bool, cond, List, [], ◌∷◌, eqb, length, get_or, drop}
use Rattle.dna.specs.Dna.{same_letter}
use Rattle.methylation.specs.declared.MethylationMode.{MethylationMode}
use Rattle.mm_ml.specs.Tags.{Annotated, calls, mm_text}

-- The numbers of a text such as `5,12,0;`. `value` is what the digits since the last comma (44) stand for; a semicolon (59)
-- ends the list.
unfoldable pub numbers : ℕ → List ℕ → List ℕ
numbers value [] = value ∷ []
numbers value (c ∷ cs) = cond (eqb c 44) (value ∷ numbers 0 cs) (cond (eqb c 59) (value ∷ []) (numbers (10 * value + (c - 48)) cs))

-- The skip counts of a group: the numbers behind its prefix and the first comma.
unfoldable pub skips_of : List ℕ → List ℕ
skips_of text = numbers 0 (drop 5 text)

-- The positions that skip counts point at, in a sequence whose first base has position i: at a tracked letter a count of 0
-- is one of them, and a larger count falls by one.
unfoldable pub called_from : (ℕ → Bool) → ℕ → List ℕ → List ℕ → List ℕ
called_from tracked i [] counts = []
called_from tracked i (b ∷ bs) [] = []
called_from tracked i (b ∷ bs) (zero ∷ counts) = cond (tracked b) (i ∷ called_from tracked (suc i) bs counts) (called_from tracked (suc i) bs (zero ∷ counts))
called_from tracked i (b ∷ bs) (suc n ∷ counts) = called_from tracked (suc i) bs (cond (tracked b) (n ∷ counts) (suc n ∷ counts))

-- The called positions of a group's text against a sequence. The letter that it counts is its first.
unfoldable pub read_calls : List ℕ → List ℕ → List ℕ
read_calls text bases = called_from (λ base. same_letter base (get_or text 0 0)) 0 bases (skips_of text)

-- Where there is a tag, its text and the sequence give the called positions back.
abbrev pub ReadsBack : MethylationMode → Annotated → Type 0
ReadsBack mode s = (length (calls mode s) ≡ 0 → ⊥) → read_calls (mm_text mode s) s.bases ≡ calls mode s
