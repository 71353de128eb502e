-- What the loop keeps.
use Rattle.mm_ml.specs.Tags.{annotated_in}
use Rattle.mm_ml.proofs.Strand.{Listing}
use Rattle.mm_ml.proofs.EvidentBases.listed_length.Given as goal

abbrev pub invariant-loop-i : goal.invariant-loop-i
invariant-loop-i l = Listing (annotated_in l.s) l.i l.skip l.mm l.ml
