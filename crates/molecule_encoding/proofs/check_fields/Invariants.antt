-- What the loop keeps: what is left of the test is the whole test.
use mathlib.Core.Path.{◌≡◌}
use lib.ListN.{length}
use Rattle.molecule_encoding.specs.Format.{fields_fit}
use Rattle.molecule_encoding.proofs.check_fields.Given as goal

abbrev pub invariant-loop-f : goal.invariant-loop-f
invariant-loop-f l = fields_fit l.last l.rest ≡ fields_fit 0 l.bytes

abbrev pub decreases-loop-f : goal.decreases-loop-f
decreases-loop-f l = length l.rest
