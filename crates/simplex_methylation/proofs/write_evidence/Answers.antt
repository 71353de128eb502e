-- `simplex_methylation::write_evidence` meets its contract: it marks and clears, and adds one read a turn. Assumes nothing.
use mathlib.Core.Path.{refl, ◌∙◌}
use Prim.Native.Nat.{◌<◌}
use native.Mathlib.Omega.{arith}
use Rattle.simplex_methylation.proofs.Running.{begun, ready, added_next, inside}
use Rattle.simplex_methylation.proofs.write_evidence.Goals as goal

pub loop-read-init : goal.loop-read-init
loop-read-init c =
    let room = c.requires.room in (
      record { marks = refl; unconverted = refl; converted = refl },
      rw c.bases-letters.ensures at c.mark_informative.ensures,
      begun _ _ _ _ _ room.1 c.clear.ensures,
      begun _ _ _ _ _ room.2 c.clear-2.ensures,
    )

pub add_read-requires : goal.add_read-requires
add_read-requires c =
    let so_far = c.loop-read.invariant in
    let few : c.loop-read.read-index < 1024 = omega arith in
    record {
      inside = inside _ _ c.requires.inside _ c.loop-read-test.true;
      unconverted = ready _ _ _ _ _ so_far.2 few;
      converted = ready _ _ _ _ _ so_far.3 few;
    }

pub loop-read-preserved : goal.loop-read-preserved
loop-read-preserved c =
    let so_far = c.loop-read.invariant in
    let more = c.loop-read-test.true in
    let read = c.add_read.ensures in (
      record {
        marks = read.same_references.marks ∙ so_far.0.marks;
        unconverted = read.same_references.unconverted ∙ so_far.0.unconverted;
        converted = read.same_references.converted ∙ so_far.0.converted;
      },
      read.marks ∙ so_far.1,
      added_next _ _ _ _ _ so_far.2 more read.added.unconverted_ones,
      added_next _ _ _ _ _ so_far.3 more read.added.converted_ones,
    )
