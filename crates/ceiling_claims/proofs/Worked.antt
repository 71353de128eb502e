-- The rows of specs/Worked.antt, each computed. Assumes nothing.
use mathlib.Core.Path.{refl}
use Rattle.dna.specs.Dna.{upper, same_letter}
use Rattle.phred.specs.Phred.{capped_quality}
use Rattle.duplex_molecule.specs.Molecule.{molecule_call, call_at}
use Rattle.duplex_position.specs.Combination.{agreed, disagreed, masked, unmasked, uncalled, called}
use Rattle.duplex_call.specs.Annotated.{combined}
use Rattle.ceiling_claims.specs.Worked.{Worked}

pub worked : Worked
unfolding capped_quality agreed disagreed masked unmasked uncalled upper same_letter molecule_call call_at called combined
worked = record {
  sum_93 = refl;
  sum_92 = refl;
  sum_60 = refl;
  sum_3 = refl;
  below_60 = refl;
  above_3 = refl;
  apart_93 = refl;
  apart_60 = refl;
  apart_b = refl;
  three = refl;
  two = refl;
  at_2 = refl;
  call_60 = refl;
  call_sum_60 = refl;
  call_92 = refl;
  call_3 = refl;
  one_strand = refl;
}
