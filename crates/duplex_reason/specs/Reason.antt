-- Why a position of a two-strand record shows N, document 02's #101: seven reasons, each a condition on what the two strands show there.
use Rattle.std.specs.Prelude.{None, Some, Option, ℕ, ◌+◌, ◌-◌, Bool, true, false, cond, not, ◌&&◌, ◌||◌, List, [], ◌∷◌, ◌++◌, eqb, leb}
use Rattle.dna.specs.Dna.{letter_a, letter_c, letter_g, letter_n, letter_t, upper, same_letter}
use Rattle.methylation.specs.Methylation.{pattern_bases}
use Rattle.methylation.specs.declared.ConversionPattern.TheVariants.{CToT, GToA}
use Rattle.duplex_reason.specs.declared.NoCallReason.{NoCallReason}
use Rattle.duplex_reason.specs.declared.NoCallReason.TheVariants.{Outside, SingleStrand, Called, ANoCall, BNoCall, BothNoCall, EqualQualities, CloseQualities, LowSum, LowConfirming}
use Rattle.duplex_reason.specs.declared.Shown.{Shown}
use Rattle.methylation.specs.declared.ConversionPattern.{ConversionPattern}

-- It shows N. Case counts: n is not N.
abbrev pub is_n : Shown → Bool
is_n s = eqb s.base letter_n

-- It shows a letter, in any case.
abbrev pub shows : ℕ → ℕ → Bool
shows letter base = eqb (upper base) letter

-- A methylation call, by the annotations and bases of its informative strand and of the other, which confirms it. Both are annotated, with
-- different patterns: at C to T the other shows C and the informative one C or T, at G to A the other shows G and it G or A.
unfoldable pub called_by : Option ConversionPattern → Option ConversionPattern → ℕ → ℕ → Bool
called_by None annotation base other = false
called_by (Some pattern) None base other = false
called_by (Some CToT) (Some CToT) base other = false
called_by (Some CToT) (Some GToA) base other = shows letter_c other && (shows letter_c base || shows letter_t base)
called_by (Some GToA) (Some CToT) base other = shows letter_g other && (shows letter_g base || shows letter_a base)
called_by (Some GToA) (Some GToA) base other = false

-- Strand s is the informative one of a call that the other confirms.
abbrev pub carries : Shown → Shown → Bool
carries s other = called_by s.annotation other.annotation s.base other.base

-- There is a methylation call.
abbrev pub is_called : Shown → Shown → Bool
is_called a b = carries a b || carries b a

-- A strand of this annotation shows its converted base: T for C to T, A for G to A.
abbrev pub converted_by : Option ConversionPattern → ℕ → Bool
converted_by None base = false
converted_by (Some pattern) base = same_letter base (pattern_bases pattern).converted

-- The other strand's quality counts alone: s carries a call, shows the converted base and is not marked informative.
abbrev pub others_alone : Shown → Shown → Bool
others_alone s other = carries s other && (converted_by s.annotation s.base && eqb s.mark 0)

-- The strands disagree: their bases differ, and no call explains it.
abbrev pub disagree : Shown → Shown → Bool
disagree a b = not (is_called a b) && not (eqb a.base b.base)

-- By how much the qualities differ.
abbrev pub difference : ℕ → ℕ → ℕ
difference p q = (p - q) + (q - p)

-- The sum of the qualities counts: at equal bases, and at a call where no quality counts alone.
abbrev pub sum_counts : Shown → Shown → Bool
sum_counts a b = (eqb a.base b.base || is_called a b) && not (others_alone a b || others_alone b a)

-- The condition of each reason. The other answers are no reasons.
unfoldable pub holds : NoCallReason → Shown → Shown → Bool
holds ANoCall a b = is_n a && not (is_n b)
holds BNoCall a b = is_n b && not (is_n a)
holds BothNoCall a b = is_n a && is_n b
holds EqualQualities a b = disagree a b && eqb a.qual b.qual
holds CloseQualities a b = disagree a b && (eqb (difference a.qual b.qual) 1 || eqb (difference a.qual b.qual) 2)
holds LowSum a b = sum_counts a b && leb (a.qual + b.qual) 2
holds LowConfirming a b = (others_alone a b && leb b.qual 2) || (others_alone b a && leb a.qual 2)
holds Outside a b = false
holds SingleStrand a b = false
holds Called a b = false

-- The seven in the paper's order: the N reasons come first.
abbrev pub n_reasons : List NoCallReason
n_reasons = ANoCall ∷ BNoCall ∷ BothNoCall ∷ []

abbrev pub quality_reasons : List NoCallReason
quality_reasons = EqualQualities ∷ CloseQualities ∷ LowSum ∷ LowConfirming ∷ []

abbrev pub reasons : List NoCallReason
reasons = n_reasons ++ quality_reasons

-- The first of some reasons that holds; where none does, the base is called.
abbrev pub first_of : List NoCallReason → Shown → Shown → NoCallReason
first_of [] a b = Called
first_of (reason ∷ others) a b = cond (holds reason a b) reason (first_of others a b)

-- The answer at a position where the strands show this.
unfoldable pub reason_at : Shown → Shown → NoCallReason
reason_at a b = first_of reasons a b

-- An answer is one of the seven reasons.
abbrev pub is_reason : NoCallReason → Bool
is_reason ANoCall = true
is_reason BNoCall = true
is_reason BothNoCall = true
is_reason EqualQualities = true
is_reason CloseQualities = true
is_reason LowSum = true
is_reason LowConfirming = true
is_reason Outside = false
is_reason SingleStrand = false
is_reason Called = false
