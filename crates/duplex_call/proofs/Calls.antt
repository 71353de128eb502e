-- Calls by the tests that tell them, case by case. Assumes nothing.
use Prim.Native.Nat.{ℕ}
use mathlib.Core.Path.{◌≡◌, refl, sym, subst}
use mathlib.Core.Bool.{Bool, true, false, cond, ◌&&◌, ◌||◌, true≢false}
use lib.Dec.{eqb}
use borrow.Author.Tests.{eqb-true}
use Rattle.std.specs.Bool.{beq}
use Rattle.dna.specs.Dna.{letter_a, letter_c, letter_g, letter_t, upper}
use Rattle.methylation.specs.Methylation.{pattern_bases}
use Rattle.methylation.specs.declared.ConversionPattern.TheVariants.{CToT, GToA}
use Rattle.duplex_molecule.specs.Molecule.{molecule_call, call_as, call_at, is_call, is_call_of, can_call, same_pattern}
use Rattle.duplex_molecule.specs.declared.CtInput.{CtInput}
use Rattle.duplex_molecule.specs.declared.CtInput.TheVariants.{Neither, IsA, IsB}
use Rattle.duplex_molecule.specs.declared.MoleculeCall.{MoleculeCall}
use Rattle.duplex_position.specs.Combination.{unmasked, uncalled}
use Rattle.duplex_errors.specs.Errors.{disagreeing}
use Rattle.duplex_call.specs.Annotated.{by_call, combined, shown, expected}
use Rattle.duplex_call.specs.Tests.{is_b, by_b, at_call}
use Rattle.std.proofs.Common.{None, Some, Option}
use Rattle.methylation.specs.declared.ConversionPattern.{ConversionPattern}

-- The tests of a C-to-T call and of a G-to-A call, of the C-to-T strand's base and the other's.
abbrev pub c_test : ℕ → ℕ → Bool
c_test ct ga = eqb (upper ga) letter_c && (eqb (upper ct) letter_c || eqb (upper ct) letter_t)

abbrev pub g_test : ℕ → ℕ → Bool
g_test ct ga = eqb (upper ct) letter_g && (eqb (upper ga) letter_g || eqb (upper ga) letter_a)

-- What the two tests make a call.
abbrev made : ℕ → ℕ → Bool → Bool → Option MoleculeCall
made ct ga c g = cond c (Some (call_as CToT ct letter_c)) (cond g (Some (call_as GToA ga letter_g)) None)

-- The tests never both hold.
apart : (ct ga : ℕ) → c_test ct ga ≡ true → g_test ct ga ≡ false
apart ct ga = by (upper ct) (eqb (upper ga) letter_c) (eqb (upper ga) letter_g || eqb (upper ga) letter_a)
  where
    never : (p : Bool) → (p && (eqb letter_g letter_c || eqb letter_g letter_t)) ≡ true → ⊥
    never true h = true≢false (sym h)
    never false h = true≢false (sym h)

    told : (u : ℕ) (p q t : Bool) → eqb u letter_g ≡ t → (p && (eqb u letter_c || eqb u letter_t)) ≡ true → (t && q) ≡ false
    told u p q true e h = absurd (never p (subst (λ (v : ℕ). (p && (eqb v letter_c || eqb v letter_t)) ≡ true) (eqb-true u letter_g e) h))
    told u p q false e h = refl

    by : (u : ℕ) (p q : Bool) → (p && (eqb u letter_c || eqb u letter_t)) ≡ true → (eqb u letter_g && q) ≡ false
    by u p q = told u p q (eqb u letter_g) refl

-- Whether there is a call of either pattern.
pub c_to_t : (ct : CtInput) (a b : ℕ) → (can_call ct && c_test (cond (is_b ct) b a) (cond (is_b ct) a b)) ≡ is_call_of (Some CToT) (call_at ct a b)
unfolding call_at molecule_call is_call_of
c_to_t ct a b = of ct
  where
    go : (x y : ℕ) (c g : Bool) → c ≡ is_call_of (Some CToT) (made x y c g)
    go x y true g = refl
    go x y false true = refl
    go x y false false = refl

    of : (ct : CtInput) → (can_call ct && c_test (cond (is_b ct) b a) (cond (is_b ct) a b)) ≡ is_call_of (Some CToT) (call_at ct a b)
    of Neither = refl
    of IsA = go a b (c_test a b) (g_test a b)
    of IsB = go b a (c_test b a) (g_test b a)

pub g_to_a : (ct : CtInput) (a b : ℕ) → (can_call ct && g_test (cond (is_b ct) b a) (cond (is_b ct) a b)) ≡ is_call_of (Some GToA) (call_at ct a b)
unfolding call_at molecule_call is_call_of
g_to_a ct a b = of ct
  where
    go : (x y : ℕ) (c g : Bool) → (c ≡ true → g ≡ false) → g ≡ is_call_of (Some GToA) (made x y c g)
    go x y true g h = h refl
    go x y false true h = refl
    go x y false false h = refl

    of : (ct : CtInput) → (can_call ct && g_test (cond (is_b ct) b a) (cond (is_b ct) a b)) ≡ is_call_of (Some GToA) (call_at ct a b)
    of Neither = refl
    of IsA = go a b (c_test a b) (g_test a b) (apart a b)
    of IsB = go b a (c_test b a) (g_test b a) (apart b a)

-- The same of a pattern, by its letters.
abbrev pub pattern_test : ConversionPattern → ℕ → ℕ → Bool
pattern_test pattern shown confirming =
    eqb (upper confirming) (pattern_bases pattern).unconverted
    && (eqb (upper shown) (pattern_bases pattern).unconverted || eqb (upper shown) (pattern_bases pattern).converted)

pub of_test :
    (pattern : ConversionPattern) (ct : CtInput) (a b : ℕ)
    → (can_call ct && pattern_test pattern (cond (by_b pattern ct) b a) (cond (by_b pattern ct) a b)) ≡ is_call_of (Some pattern) (call_at ct a b)
of_test CToT ct a b = c_to_t ct a b
of_test GToA Neither a b = g_to_a Neither a b
of_test GToA IsA a b = g_to_a IsA a b
of_test GToA IsB a b = g_to_a IsB a b

-- B is the informative strand where it is of pattern C to T and so is the call, or neither is.
pub informative : (pattern : ConversionPattern) (ct : CtInput) → beq (is_b ct) (same_pattern pattern CToT) ≡ by_b pattern ct
informative CToT Neither = refl
informative CToT IsA = refl
informative CToT IsB = refl
informative GToA Neither = refl
informative GToA IsA = refl
informative GToA IsB = refl

pub either : (x : Option MoleculeCall) → (is_call_of (Some CToT) x || is_call_of (Some GToA) x) ≡ is_call x
unfolding is_call_of
either None = refl
either (Some call) = of call.pattern
  where
    of : (p : ConversionPattern) → (same_pattern CToT p || same_pattern GToA p) ≡ true
    of CToT = refl
    of GToA = refl

-- The position by the tests is the position by the call.
abbrev Placed : ℕ → CtInput → ℕ → ℕ → ℕ → ℕ → ℕ → ℕ → Option MoleculeCall → Type 0
Placed ceiling ct a qa ma b qb mb x =
    cond (is_call_of (Some CToT) x || is_call_of (Some GToA) x) (at_call ceiling (cond (is_call_of (Some CToT) x) CToT GToA) ct a qa ma b qb mb) (uncalled ceiling a qa b qb) ≡ by_call ceiling ct a qa ma b qb mb x

pub position :
    (ceiling : ℕ) (ct : CtInput) (a qa ma b qb mb : ℕ)
    → cond (is_call_of (Some CToT) (call_at ct a b) || is_call_of (Some GToA) (call_at ct a b)) (at_call ceiling (cond (is_call_of (Some CToT) (call_at ct a b)) CToT GToA) ct a qa ma b qb mb) (uncalled ceiling a qa b qb) ≡ combined ceiling ct a qa ma b qb mb
unfolding call_at molecule_call is_call_of at_call combined
position ceiling ct a qa ma b qb mb = of ct
  where
    with_a : (c g : Bool) → Placed ceiling IsA a qa ma b qb mb (made a b c g)
    with_a true g = refl
    with_a false true = refl
    with_a false false = refl

    with_b : (c g : Bool) → Placed ceiling IsB a qa ma b qb mb (made b a c g)
    with_b true g = refl
    with_b false true = refl
    with_b false false = refl

    of : (ct : CtInput) → Placed ceiling ct a qa ma b qb mb (call_at ct a b)
    of Neither = refl
    of IsA = with_a (c_test a b) (g_test a b)
    of IsB = with_b (c_test b a) (g_test b a)

-- So is what a read should show.
abbrev Expected : CtInput → ℕ → ℕ → Bool → ℕ → Option MoleculeCall → Type 0
Expected ct a b last unmasked x =
    cond (is_call_of (Some CToT) x) (cond last letter_c (cond (is_b ct) b a)) (cond (is_call_of (Some GToA) x) (cond last (cond (is_b ct) a b) letter_g) unmasked) ≡ shown last unmasked x

-- What `expected_base` answers by its tests, for its check, which is told of this law.
pub expects :
    (ct : CtInput) (a qa b qb : ℕ) (last : Bool)
    → cond (is_call_of (Some CToT) (call_at ct a b)) (cond last letter_c (cond (is_b ct) b a)) (cond (is_call_of (Some GToA) (call_at ct a b)) (cond last (cond (is_b ct) a b) letter_g) (unmasked a qa b qb)) ≡ expected ct a qa b qb last
unfolding call_at molecule_call is_call_of expected
expects ct a qa b qb last = of ct
  where
    with_a : (c g last : Bool) → Expected IsA a b last (unmasked a qa b qb) (made a b c g)
    with_a true g true = refl
    with_a true g false = refl
    with_a false true true = refl
    with_a false true false = refl
    with_a false false last = refl

    with_b : (c g last : Bool) → Expected IsB a b last (unmasked a qa b qb) (made b a c g)
    with_b true g true = refl
    with_b true g false = refl
    with_b false true true = refl
    with_b false true false = refl
    with_b false false last = refl

    of : (ct : CtInput) → Expected ct a b last (unmasked a qa b qb) (call_at ct a b)
    of Neither = refl
    of IsA = with_a (c_test a b) (g_test a b) last
    of IsB = with_b (c_test b a) (g_test b a) last

-- The estimate of the winner and the loser, whichever of A and B it is.
pub winner :
    (b_wins : Bool) (da ea db eb : ℕ)
    → disagreeing (cond b_wins eb ea) (cond b_wins da db) (cond b_wins ea eb) ≡ cond b_wins (disagreeing eb da ea) (disagreeing ea db eb)
winner true da ea db eb = refl
winner false da ea db eb = refl
