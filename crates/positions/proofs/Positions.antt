-- The rows of specs/Positions.antt. P8 and P9 go by the tests that the estimate makes; the others compute. Assumes nothing.
use mathlib.Core.Path.{◌≡◌, refl}
use mathlib.Core.Bool.{Bool, true, false, cond}
use mathlib.Core.List.{[], ◌∷◌}
use Prim.Native.Nat.{ℕ}
use borrow.Author.Tests.{le-ltb, eq-eqb, ne_eqb}
use lib.Ieee.{of_int, round, div, to_bits}
use Rattle.lists.specs.Table.{tabulate}
use Rattle.dna.specs.Dna.{upper, same_letter}
use Rattle.phred.specs.Phred.{capped_quality}
use Rattle.rates.specs.Rate.{rate_of}
use Rattle.duplex_errors.specs.Errors.{agreeing, disagreeing}
use Rattle.duplex_molecule.specs.Molecule.{is_call, molecule_call, call_at}
use Rattle.duplex_call.specs.Annotated.{combined, estimated_uncalled, estimated}
use Rattle.duplex_position.specs.Combination.{agreed, disagreed, masked, unmasked, uncalled, called}
use Rattle.duplex_arrays.specs.Positions.{estimates, combined_errors}
use Rattle.positions.specs.Positions.{Positions}

-- The same whether there is a call or not.
either : (call : Bool) (x : ℕ) → cond call x x ∷ [] ≡ x ∷ []
either true x = refl
either false x = refl

pub positions : Positions
unfolding rate_of of_int round div to_bits capped_quality agreed disagreed masked unmasked uncalled upper same_letter molecule_call call_at called combined combined_errors estimates tabulate estimated estimated_uncalled agreeing disagreeing
positions = record {
  p1 = refl;
  p2 = refl;
  p3 = refl;
  p4 = refl;
  p5 = refl;
  p6 = refl;
  p7 = refl;
  p7_kept = refl;
  p8 = λ counted a qa depth b qb differ wins. rw (ne_eqb a b differ, le-ltb qa qb wins);
  p9 = λ counted ct base qa da qb db. rw (eq-eqb base base refl) (either (is_call (call_at ct base base)) _);
  p10 = refl;
  p10_marked = refl;
  p11 = refl;
  p11_all = refl;
  p12 = refl;
}
