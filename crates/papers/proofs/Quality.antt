-- The quality of two strands is at most 93, at a ceiling that is. Assumes nothing.
use Rattle.std.proofs.Common.{Option, Some, None}
use mathlib.Core.Bool.{Bool, true, false, cond, ◌&&◌, ◌||◌}
use Prim.Native.Nat.{ℕ, ◌+◌, ◌-◌, ◌≤◌}
use native.Mathlib.Omega.{arith}
use lib.Dec.{eqb}
use Rattle.dna.specs.Dna.{letter_n, same_letter}
use Rattle.phred.specs.Phred.{min_phred, max_phred, capped_quality}
use Rattle.methylation.specs.Methylation.{pattern_bases}
use Rattle.duplex_molecule.specs.Molecule.{call_at}
use Rattle.duplex_molecule.specs.declared.CtInput.{CtInput}
use Rattle.duplex_molecule.specs.declared.MoleculeCall.{MoleculeCall}
use Rattle.duplex_position.specs.Combination.{agreed, disagreed, masked, unmasked, uncalled, called}
use Rattle.duplex_position.specs.declared.Position.{Position}
use Rattle.duplex_call.specs.Annotated.{carried_by_a, by_call, combined}

chosen : (b : Bool) (p q : Position) → p.qual ≤ 93 → q.qual ≤ 93 → (cond b p q).qual ≤ 93
chosen true p q h g = h
chosen false p q h g = g

either : (b : Bool) (m n : ℕ) → m ≤ 93 → n ≤ 93 → cond b m n ≤ 93
either true m n h g = h
either false m n h g = g

most : (a b base qual : ℕ) → qual ≤ 93 → (masked a b base qual).qual ≤ 93
unfolding masked
most a b base qual h =
    chosen (eqb a letter_n || (eqb b letter_n || eqb qual min_phred)) (record { base = letter_n; qual = min_phred }) (record { base = base; qual = qual }) (omega arith) h

module _ (ceiling : ℕ) (low : ceiling ≤ max_phred) where
  held : (score : ℕ) → capped_quality ceiling score ≤ 93
  unfolding capped_quality
  held score = omega (arith, low)

  agreed_most : (qa qb : ℕ) → agreed ceiling qa qb ≤ 93
  unfolding agreed
  agreed_most qa qb = held (qa + qb)

  disagreed_most : (qa qb : ℕ) → disagreed ceiling qa qb ≤ 93
  unfolding disagreed
  disagreed_most qa qb = held ((qa - qb) + (qb - qa))

  quality_lem : (ct : CtInput) (a qa ma b qb mb : ℕ) → (combined ceiling ct a qa ma b qb mb).qual ≤ 93
  unfolding combined uncalled called
  quality_lem ct a qa ma b qb mb = go (call_at ct a b)
    where
      go : (call : Option MoleculeCall) → (by_call ceiling ct a qa ma b qb mb call).qual ≤ 93
      go None =
          chosen (eqb a b) (masked a b a (agreed ceiling qa qb)) (masked a b (unmasked a qa b qb) (disagreed ceiling qa qb))
          (most a b a (agreed ceiling qa qb) (agreed_most qa qb))
          (most a b (unmasked a qa b qb) (disagreed ceiling qa qb) (disagreed_most qa qb))
      go (Some c) =
          let from_a = carried_by_a ct c.pattern in
          let alone = same_letter c.call (pattern_bases c.pattern).converted && eqb (cond from_a ma mb) 0 in
          let confirming = capped_quality ceiling (cond from_a qb qa) in
          most a b c.confirmed (cond alone confirming (agreed ceiling qa qb)) (either alone confirming (agreed ceiling qa qb) (held (cond from_a qb qa)) (agreed_most qa qb))

pub quality : (ceiling : ℕ) (ct : CtInput) (a qa ma b qb mb : ℕ) → ceiling ≤ max_phred → (combined ceiling ct a qa ma b qb mb).qual ≤ 93
quality ceiling ct a qa ma b qb mb low = quality_lem ceiling low ct a qa ma b qb mb
