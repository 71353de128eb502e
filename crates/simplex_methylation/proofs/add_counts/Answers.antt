-- `simplex_methylation::add_counts` meets its contract: its loop adds what the closure answers. Assumes nothing.
use mathlib.Core.Path.{ap}
use Rattle.simplex_methylation.specs.declared.ShownLetters.{ShownLetters}
use Rattle.simplex_methylation.proofs.Counts.{kept, kept_next, start, further}
use Rattle.simplex_methylation.proofs.add_counts.Goals as goal

pub loop-i-init : goal.loop-i-init
loop-i-init g c = (kept c.requires.unconverted, kept c.requires.converted, λ told t. (start (λ i. (told i).unconverted) c.requires.unconverted.room, start (λ i. (told i).converted) c.requires.converted.room))

pub loop-i-preserved : goal.loop-i-preserved
loop-i-preserved g c =
    let before = c.loop-i.invariant in
    let more = c.loop-i-test.true in (
      kept_next before.0 _,
      kept_next before.1 _,
      λ told t.
          let here = t c.loop-i.i more _ c.shows-shown.ensures in
          let (us, cs) = before.2 told t in
          (further (λ i. (told i).unconverted) us more (ap (λ (s : ShownLetters). s.unconverted) here) c.count_one.ensures, further (λ i. (told i).converted) cs more (ap (λ (s : ShownLetters). s.converted) here) c.count_one-in-loop-i.ensures),
    )
