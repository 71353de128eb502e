-- The claims of specs/Positions.antt.
--     plain, at_call, held            a position by its quality before that is held
--     capped, lowest                  a quality at two ceilings
--     in_one_place, at_a_position     the claims
-- Assumes nothing.
use Rattle.std.proofs.Common.{Option, Some, None}
use mathlib.Core.Path.{◌≡◌, refl}
use mathlib.Core.Bool.{Bool, true, false, cond, ◌&&◌, ◌||◌}
use Prim.Native.Nat.{ℕ, ◌+◌, ◌-◌, min, max}
use native.Mathlib.Omega.{arith}
use lib.Dec.{eqb}
use borrow.Author.Tests.{eqb-true, eqb-false, eq-eqb, ne_eqb}
use Rattle.dna.specs.Dna.{letter_n, same_letter}
use Rattle.phred.specs.Phred.{capped_quality}
use Rattle.methylation.specs.Methylation.{pattern_bases}
use Rattle.duplex_molecule.specs.Molecule.{call_at}
use Rattle.duplex_molecule.specs.declared.CtInput.{CtInput}
use Rattle.duplex_molecule.specs.declared.MoleculeCall.{MoleculeCall}
use Rattle.duplex_position.specs.Combination.{agreed, disagreed, masked, unmasked, uncalled, called}
use Rattle.duplex_position.specs.declared.Position.{Position}
use Rattle.duplex_call.specs.Annotated.{carried_by_a, by_call, combined}
use Rattle.ceiling_claims.specs.Positions.{Ceilings, InOnePlace, Lowered, AtAPosition}

-- Without a call and at one.
module _ (a qa b qb : ℕ) where
  plain : (ceiling : ℕ) → uncalled ceiling a qa b qb ≡ masked a b (cond (eqb a b) a (unmasked a qa b qb)) (capped_quality ceiling (cond (eqb a b) (qa + qb) ((qa - qb) + (qb - qa))))
  unfolding uncalled agreed disagreed
  plain ceiling = go (eqb a b)
    where
      go :
          (same : Bool)
          → cond same (masked a b a (capped_quality ceiling (qa + qb))) (masked a b (unmasked a qa b qb) (capped_quality ceiling ((qa - qb) + (qb - qa))))
          ≡ masked a b (cond same a (unmasked a qa b qb)) (capped_quality ceiling (cond same (qa + qb) ((qa - qb) + (qb - qa))))
      go true = refl
      go false = refl

  at_call : (confirmed confirming : ℕ) (alone : Bool) (ceiling : ℕ) → called ceiling a qa b qb confirmed alone confirming ≡ masked a b confirmed (capped_quality ceiling (cond alone confirming (qa + qb)))
  unfolding called agreed
  at_call confirmed confirming true ceiling = refl
  at_call confirmed confirming false ceiling = refl

module _ (ct : CtInput) (a qa ma b qb mb : ℕ) where
  abbrev base_by : Option MoleculeCall → ℕ
  base_by None = cond (eqb a b) a (unmasked a qa b qb)
  base_by (Some c) = c.confirmed

  abbrev qual_by : Option MoleculeCall → ℕ
  qual_by None = cond (eqb a b) (qa + qb) ((qa - qb) + (qb - qa))
  qual_by (Some c) =
      let from_a = carried_by_a ct c.pattern in
      cond (same_letter c.call (pattern_bases c.pattern).converted && eqb (cond from_a ma mb) 0) (cond from_a qb qa) (qa + qb)

  held : (call : Option MoleculeCall) (ceiling : ℕ) → by_call ceiling ct a qa ma b qb mb call ≡ masked a b (base_by call) (capped_quality ceiling (qual_by call))
  held None ceiling = plain a qa b qb ceiling
  held (Some c) ceiling = at_call a qa b qb c.confirmed _ _ ceiling

pub in_one_place : InOnePlace
unfolding combined
in_one_place ct a qa ma b qb mb = record {
  base = base_by ct a qa ma b qb mb (call_at ct a b);
  qual = qual_by ct a qa ma b qb mb (call_at ct a b);
  held = held ct a qa ma b qb mb (call_at ct a b);
}

module _ {lower higher : ℕ} (c : Ceilings lower higher) where
  -- What the lower ceiling lets pass, and that both hold a quality to 2 or neither does.
  capped : (score : ℕ) → capped_quality lower score ≡ min lower (capped_quality higher score)
  unfolding capped_quality
  capped score = omega (arith, c.least, c.order)

  lowest : (score : ℕ) → eqb (capped_quality lower score) 2 ≡ eqb (capped_quality higher score) 2
  unfolding capped_quality
  lowest score = go (eqb (max 2 (min score higher)) 2) refl
    where
      go : (t : Bool) → eqb (max 2 (min score higher)) 2 ≡ t → eqb (max 2 (min score lower)) 2 ≡ t
      go true e =
          let low = eqb-true (max 2 (min score higher)) 2 e in
          eq-eqb (max 2 (min score lower)) 2 (omega (arith, c.least, c.order))
      go false e =
          let high = eqb-false (max 2 (min score higher)) 2 e in
          ne_eqb (max 2 (min score lower)) 2 (omega (arith, c.least, c.order))

  both_masked : (a b base score : ℕ) → Lowered lower (masked a b base (capped_quality lower score)) (masked a b base (capped_quality higher score))
  unfolding masked
  both_masked a b base score = rw (lowest score) (go (eqb a letter_n || (eqb b letter_n || eqb (capped_quality higher score) 2)))
    where
      go :
          (t : Bool)
          → Lowered lower (cond {A = Position} t (record { base = letter_n; qual = 2 }) (record { base = base; qual = capped_quality lower score }))
          (cond {A = Position} t (record { base = letter_n; qual = 2 }) (record { base = base; qual = capped_quality higher score }))
      go true = record { base = refl; qual = omega (arith, c.least) }
      go false = record { base = refl; qual = capped score }

pub at_a_position : AtAPosition
at_a_position lower higher ct a qa ma b qb mb c =
    let w = in_one_place ct a qa ma b qb mb in
    rw (w.held lower, w.held higher) (both_masked c a b w.base w.qual)
