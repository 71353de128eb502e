-- One position of a two-strand record, document 01. A definition of a quality takes the lab's ceiling.
use Rattle.std.specs.Prelude.{ℕ, ◌+◌, ◌-◌, Bool, cond, ◌||◌, eqb, ltb}
use Rattle.dna.specs.Dna.{letter_n}
use Rattle.phred.specs.Phred.{min_phred, capped_quality}
use Rattle.duplex_position.specs.declared.Position.{Position}

-- Equal bases sum, held to 2 and the ceiling.
unfoldable pub agreed : ℕ → ℕ → ℕ → ℕ
agreed ceiling a b = capped_quality ceiling (a + b)

-- Otherwise the difference is left, 2 for none.
unfoldable pub disagreed : ℕ → ℕ → ℕ → ℕ
disagreed ceiling a b = capped_quality ceiling ((a - b) + (b - a))

-- N with quality 2 if either base is N or the quality is 2.
unfoldable pub masked : ℕ → ℕ → ℕ → ℕ → Position
masked a b base qual =
    cond (eqb a letter_n || (eqb b letter_n || eqb qual min_phred))
    (record { base = letter_n; qual = min_phred })
    (record { base = base; qual = qual })

-- The base before masking where there is no call: that of the higher quality, A's where they are equal. Errors are counted against it.
unfoldable pub unmasked : ℕ → ℕ → ℕ → ℕ → ℕ
unmasked a qa b qb = cond (ltb qa qb) b a

-- Without a call.
unfoldable pub uncalled : ℕ → ℕ → ℕ → ℕ → ℕ → Position
uncalled ceiling a qa b qb = cond (eqb a b) (masked a b a (agreed ceiling qa qb)) (masked a b (unmasked a qa b qb) (disagreed ceiling qa qb))

-- At a call: the confirmed base, with the sum, or with the confirming strand's quality alone.
unfoldable pub called : ℕ → ℕ → ℕ → ℕ → ℕ → ℕ → Bool → ℕ → Position
called ceiling a qa b qb confirmed alone confirming = masked a b confirmed (cond alone (capped_quality ceiling confirming) (agreed ceiling qa qb))
