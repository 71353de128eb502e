-- `mm_ml::EvidentBases::listed_length` meets its contract: after i turns it has the listed skip counts of the called positions below i. Assumes nothing.
use mathlib.Core.Path.{sym, ◌∙◌}
use native.Mathlib.Omega.{arith}
use Rattle.mm_ml.proofs.Strand.{begin_listing, turn_listing, small_turn, one_more}
use Rattle.mm_ml.proofs.EvidentBases.listed_length.Goals as goal
use Rattle.mm_ml.proofs.EvidentBases.listed_length.Goals.{then-called, else-called}

pub loop-i-init : goal.loop-i-init
loop-i-init c = begin_listing _

pub overflow_add-mm : goal.overflow_add-mm
overflow_add-mm c =
    let (small, _, _, _) = small_turn _ c.called_at-called.result c.args.self.evident c.loop-i.invariant c.loop-i-test.true c.from-listed.ensures c.skip_length.ensures in
    record { fits = omega (arith, small) }

pub overflow_mul-mm : goal.overflow_mul-mm
overflow_mul-mm c =
    let (_, small, _, _) = small_turn _ c.called_at-called.result c.args.self.evident c.loop-i.invariant c.loop-i-test.true c.from-listed.ensures c.skip_length.ensures in
    record { fits = omega (arith, small) }

pub overflow_add-mm-in-loop-i : goal.overflow_add-mm-in-loop-i
overflow_add-mm-in-loop-i c =
    let (_, _, small, _) = small_turn _ c.called_at-called.result c.args.self.evident c.loop-i.invariant c.loop-i-test.true c.from-listed.ensures c.skip_length.ensures in
    record { fits = omega (arith, small) }

pub overflow_add-ml : goal.overflow_add-ml
overflow_add-ml c =
    let (_, _, _, small) = small_turn _ c.called_at-called.result c.args.self.evident c.loop-i.invariant c.loop-i-test.true c.from-listed.ensures c.skip_length.ensures in
    record { fits = omega (arith, small) }

pub loop-i-preserved : goal.loop-i-preserved
loop-i-preserved c =
    turn_listing _ c.called_at-called.result c.loop-i.invariant c.loop-i-test.true (sym c.called_at-called.ensures) c.from-listed.ensures c.skip_length.ensures
    (elim c.if-called.branch [
      | then-called w ↦ w.skip-is ∙ rw w.if-called.true
      | else-called w ↦ w.skip-is ∙ rw (w.from.ensures, w.is_tracked.ensures, w.if-called.false) (one_more _ _)
    ])
