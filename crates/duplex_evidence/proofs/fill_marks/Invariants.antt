-- What the loop keeps.
use Rattle.std.proofs.Common.{Some}
use Rattle.lists.specs.Table.{tabulate}
use Rattle.lists.proofs.Output.{Filling}
use Rattle.duplex_evidence.specs.Kept.{mark_of}
use Rattle.duplex_evidence.proofs.fill_marks.Given as goal

abbrev pub invariant-loop-i : goal.invariant-loop-i
invariant-loop-i l = Filling l.n (tabulate l.n (mark_of l.ct (Some l.pattern) l.a_bases l.b_bases)) l.initial.marks_out l.i l.marks_out
