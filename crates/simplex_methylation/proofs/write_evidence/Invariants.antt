-- What the loop over the reads keeps: each slice stays where it was, the marks are written, and both counts are those of the reads so far.
use mathlib.Core.Path.{◌≡◌}
use Rattle.lists.specs.Output.{put}
use Rattle.methylation.specs.Methylation.{pattern_bases}
use Rattle.methylation.specs.Outputs.{SameEvidence}
use Rattle.simplex_methylation.specs.Simplex.{setting_in, marks_of}
use Rattle.simplex_methylation.proofs.Running.{Running}
use Rattle.simplex_methylation.proofs.write_evidence.Given as goal

abbrev pub invariant-loop-read : goal.invariant-loop-read
invariant-loop-read l =
    let letters = pattern_bases l.common.pattern in
    SameEvidence l.fn.out l.out
    × (l.out.marks.now ≡ put (marks_of letters.reference l.common.reference.now l.common.consensus_len) l.fn.out.marks.now)
    × Running (setting_in l.common) letters.unconverted l.common.list.reads.now l.common.consensus_len l.fn.out.unconverted.now l.read-index l.out.unconverted.now
    × Running (setting_in l.common) letters.converted l.common.list.reads.now l.common.consensus_len l.fn.out.converted.now l.read-index l.out.converted.now
