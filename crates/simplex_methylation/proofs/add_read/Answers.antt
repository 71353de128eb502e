-- `simplex_methylation::add_read` meets its contract: it adds as far as the read, the reference and the marks go, and past that no
-- position is met. Assumes nothing.
use mathlib.Core.Path.{ap, ◌∙◌}
use Prim.Native.Nat.{ℕ, ◌<◌}
use native.Mathlib.Omega.{arith}
use lib.ListN.{length}
use Rattle.std.proofs.Common.{rules}
use Rattle.std.specs.Prelude.{option_map}
use Rattle.simplex_methylation.specs.Simplex.{setting_in, informative, shows, shows_aligned}
use Rattle.simplex_methylation.specs.declared.ShownLetters.{ShownLetters}
use Rattle.simplex_methylation.proofs.Counts.{fewer}
use Rattle.simplex_methylation.proofs.OneRead.{part_length, own_length, added_everywhere, added_aligned}
use Rattle.simplex_methylation.proofs.add_read.Goals as goal

pub add_counts-requires-clause-unconverted : goal.add_counts-requires-clause-unconverted
add_counts-requires-clause-unconverted c = fewer (omega (arith, own_length c.args.read _ c.requires.inside (omega arith) c.part-bases.ensures)) c.requires.unconverted

pub add_counts-requires-clause-converted : goal.add_counts-requires-clause-converted
add_counts-requires-clause-converted c = fewer (omega (arith, own_length c.args.read _ c.requires.inside (omega arith) c.part-bases.ensures)) c.requires.converted

pub add_counts-requires-2-clause-unconverted : goal.add_counts-requires-2-clause-unconverted
add_counts-requires-2-clause-unconverted c = fewer (omega (arith, own_length c.args.read _ c.requires.inside (omega arith) c.part-bases-2.ensures)) c.requires.unconverted

pub add_counts-requires-2-clause-converted : goal.add_counts-requires-2-clause-converted
add_counts-requires-2-clause-converted c = fewer (omega (arith, own_length c.args.read _ c.requires.inside (omega arith) c.part-bases-2.ensures)) c.requires.converted

pub add_counts-requires-2-clause-answers : goal.add_counts-requires-2-clause-answers
add_counts-requires-2-clause-answers c i l =
    let bases = own_length c.args.read _ c.requires.inside (omega arith) c.part-bases-2.ensures in
    let marks = ap length c.part-marks.ensures ∙ part_length c.args.read.offset c.marked_places-places.result c.in-Some.aligned.now (omega arith) in
    let referenced : i < length c.args.common.reference.now = omega (arith, bases) in
    let marked : i < length c.part-marks.result.now = omega (arith, bases, marks) in
    search rules

pub returns-in_default-clause-added : goal.returns-in_default-clause-added
returns-in_default-clause-added c =
    let letters = c.bases-letters.result in
    let bases = c.part-bases.result.now in
    let written = c.add_counts.ensures.added (λ i. record { unconverted = shows letters.unconverted bases i; converted = shows letters.converted bases i }) (λ i l x e. search rules) in
    added_everywhere (setting_in c.args.common) _ c.requires.inside _ _ _ _ _ _ c.bases-letters.ensures c.requires.unconverted.room c.requires.converted.room c.part-bases.ensures (ap (option_map _) c.in_default.is) c.min-reached.ensures written.0 written.1

pub returns-clause-added : goal.returns-clause-added
unfolding informative
returns-clause-added c =
    let letters = c.bases-letters.result in
    let bases = c.part-bases-2.result.now in
    let marks = c.part-marks.result.now in
    let reference = c.args.common.reference.now in
    let at : ℕ → ShownLetters =
    λ i. record { unconverted = shows_aligned letters.reference letters.unconverted reference marks bases i; converted = shows_aligned letters.reference letters.converted reference marks bases i } in
    let written = c.add_counts-2.ensures.added at (λ i l x e. search rules) in
    added_aligned (setting_in c.args.common) _ c.requires.inside _ _ _ _ _ _ c.bases-letters.ensures c.requires.unconverted.room c.requires.converted.room c.part-bases-2.ensures (ap (option_map _) c.in-Some.is) c.min-reached.ensures c.marked_places-places.ensures c.part-marks.ensures written.0 written.1
