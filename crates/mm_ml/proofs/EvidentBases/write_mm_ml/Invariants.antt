-- What the loop keeps.
use Rattle.mm_ml.specs.Tags.{annotated_in}
use Rattle.mm_ml.proofs.Strand.{Writing, Scoring}
use Rattle.mm_ml.proofs.EvidentBases.write_mm_ml.Given as goal

abbrev pub invariant-loop-i : goal.invariant-loop-i
invariant-loop-i l =
    let s = annotated_in l.self.strand in
    Writing s l.initial.mm l.i l.skip l.place l.mm × Scoring s l.mode l.initial.ml l.i l.count l.ml
