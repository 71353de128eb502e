-- `mm_ml::EvidentBases::write_mm_ml` meets its contract: after i turns the prefix, the skip counts and the ML bytes of the called positions
-- below i are written. Assumes nothing.
use mathlib.Core.Path.{sym, ap, ◌∙◌}
use mathlib.Core.Bool.{true, false}
use native.Mathlib.Omega.{arith}
use lib.ListN.{set}
use Rattle.mm_ml.specs.Tags.{annotated_in, all_calls, skips}
use Rattle.mm_ml.proofs.Group.{room_behind, semicolon_fits, group_written}
use Rattle.mm_ml.proofs.Strand.{begin_writing, turn_writing, fits_writing, done_writing, begin_scoring, turn_scoring, fits_scoring, few_scores}
use Rattle.mm_ml.proofs.EvidentBases.write_mm_ml.Goals as goal
use Rattle.mm_ml.proofs.EvidentBases.write_mm_ml.Goals.{then-called_at, else-called_at+then-is_tracked, else-called_at+else-is_tracked}

pub loop-i-init : goal.loop-i-init
loop-i-init c =
    let s = annotated_in c.args.self.strand in (
      begin_writing s _ (room_behind s.pattern (skips s (all_calls s)) c.args.mm.now c.requires.mm_fits c.mm_prefix.ensures c.copy.ensures),
      begin_scoring _ _ _ c.requires.ml_fits,
    )

pub write_skip-place-requires : goal.write_skip-place-requires
write_skip-place-requires c =
    fits_writing _ c.loop-i.invariant.0 c.loop-i-test.true (sym c.called_at.ensures ∙ c.if-called_at.true)

pub bounds-ml-count : goal.bounds-ml-count
bounds-ml-count c =
    fits_scoring _ _ c.loop-i.invariant.1 c.loop-i-test.true (sym c.called_at.ensures ∙ c.if-called_at.true)

pub overflow_add-count : goal.overflow_add-count
overflow_add-count c =
    record { fits = omega (arith, c.args.self.evident.few, few_scores _ _ c.loop-i.invariant.1, c.loop-i-test.true) }

pub loop-i-preserved : goal.loop-i-preserved
loop-i-preserved c =
    let (text, bytes) = c.loop-i.invariant in
    let more = c.loop-i-test.true in
    let s = annotated_in c.args.self.strand in
    let is = sym c.called_at.ensures in
    elim c.if-called_at.branch [
      | then-called_at w ↦ (
        turn_writing s true text more (is ∙ w.if-called_at.true) w.skip-is (w.place-is ∙ w.write_skip-place.ensures.value) (w.mm-is ∙ w.write_skip-place.ensures.mm_after),
        turn_scoring s c.args.mode true bytes more (is ∙ w.if-called_at.true) w.count-is (w.ml-is ∙ ap (set c.loop-i.ml c.loop-i.count) w.ml_of.ensures),
      )
      | else-called_at+then-is_tracked w ↦ (
        turn_writing s false text more (is ∙ w.if-called_at.false) (w.skip-is ∙ rw (← w.is_tracked.ensures, w.if-is_tracked.true)) w.place-is w.mm-is,
        turn_scoring s c.args.mode false bytes more (is ∙ w.if-called_at.false) w.count-is w.ml-is,
      )
      | else-called_at+else-is_tracked w ↦ (
        turn_writing s false text more (is ∙ w.if-called_at.false) (w.skip-is ∙ rw (← w.is_tracked.ensures, w.if-is_tracked.false)) w.place-is w.mm-is,
        turn_scoring s c.args.mode false bytes more (is ∙ w.if-called_at.false) w.count-is w.ml-is,
      )
    ]

-- What the loop leaves, behind the prefix.
pub bounds-mm-place : goal.bounds-mm-place
bounds-mm-place c =
    let s = annotated_in c.args.self.strand in
    let (place, text) = done_writing s c.loop-i.invariant.0 c.loop-i-test.false in
    semicolon_fits s.pattern (skips s (all_calls s)) c.args.mm.now c.requires.mm_fits c.mm_prefix.ensures c.copy.ensures place text

pub returns-clause-mm_after : goal.returns-clause-mm_after
returns-clause-mm_after c =
    let s = annotated_in c.args.self.strand in
    let (place, text) = done_writing s c.loop-i.invariant.0 c.loop-i-test.false in
    group_written s.pattern (skips s (all_calls s)) c.args.mm.now c.requires.mm_fits c.mm_prefix.ensures c.copy.ensures place text
