-- `methylation_restore::methylation_strand_bases` meets its contract: a copy, restored by the annotation. Assumes nothing.
use mathlib.Core.Path.{◌≡◌, ◌∙◌}
use Rattle.std.proofs.Common.{◌≤◌, length, arith}
use Rattle.std.proofs.lemmas.Grind.{common_steps}
use Rattle.lists.specs.Output.{put}
use Rattle.lists.proofs.Output.{put_fitting}
use Rattle.methylation.specs.Methylation.{pattern_bases}
use Rattle.methylation_restore.specs.Restore.{restored}
use Rattle.methylation_restore.proofs.Restored.{restored_copy}
use Rattle.methylation_restore.proofs.methylation_strand_bases.Goals as goal

pub returns-in-Some-clause-out_after : goal.returns-in-Some-clause-out_after
returns-in-Some-clause-out_after c =
    let a = c.args in
    let room : length a.bases.now ≤ length a.out.now = grind (arith, common_steps) in
    let m = c.in-Some.m in
    let as_many : length m.evidence.marks.now ≡ length a.bases.now = grind (arith, common_steps) in
    let written : c.restore.new.bases ≡ put (restored m.pattern m.evidence.marks.now a.bases.now) a.out.now =
    (rw (c.bases.ensures, c.copy.ensures ∙ put_fitting _ _ room) at c.restore.ensures) ∙ restored_copy (pattern_bases m.pattern) m.evidence.marks.now a.bases.now a.out.now as_many in
    grind (arith, common_steps)
