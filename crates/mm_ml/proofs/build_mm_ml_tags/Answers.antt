-- `mm_ml::build_mm_ml_tags` meets its contract: refused by the strand or by the room, without a tag, or written. Assumes nothing.
use mathlib.Core.Path.{◌≡◌, sym, ◌∙◌}
use native.Mathlib.Omega.{arith}
use Prim.Native.Nat.{◌≤◌}
use lib.ListN.{length}
use Rattle.std.proofs.Common.{None}
use Rattle.refusals.specs.Refusal.{refused}
use Rattle.mm_ml.specs.Tags.{annotated_in, faults_of}
use Rattle.mm_ml.proofs.Refused.{not_called, called}
use Rattle.mm_ml.proofs.Group.{told}
use Rattle.mm_ml.proofs.build_mm_ml_tags.Goals as goal

pub returns-in_default : goal.returns-in_default
returns-in_default c =
    let passed : refused (faults_of (annotated_in c.args.s)) ≡ None = grind arith in
    not_called _ _ _ _ passed (sym c.in_default.is ∙ c.tag_lengths.ensures)

pub write_mm_ml-requires-clause-mm_fits : goal.write_mm_ml-requires-clause-mm_fits
write_mm_ml-requires-clause-mm_fits c =
    let (_, _, mm_is, _) = told _ _ c.in-Some.needed (sym c.in-Some.is ∙ c.tag_lengths.ensures) in
    grind (arith, mm_is)

pub write_mm_ml-requires-clause-ml_fits : goal.write_mm_ml-requires-clause-ml_fits
write_mm_ml-requires-clause-ml_fits c =
    let (_, _, _, ml_is) = told _ _ c.in-Some.needed (sym c.in-Some.is ∙ c.tag_lengths.ensures) in
    grind (arith, ml_is)

pub returns : goal.returns
returns c =
    let needed = c.in-Some.needed in
    let passed : refused (faults_of (annotated_in c.args.s)) ≡ None = grind arith in
    let mm_fits : needed.mm ≤ length c.args.mm.now = grind arith in
    let ml_fits : needed.ml ≤ length c.args.ml.now = grind arith in
    called _ _ _ _ passed needed (sym c.in-Some.is ∙ c.tag_lengths.ensures) (mm_fits, ml_fits) c.write_mm_ml.ensures.mm_after c.write_mm_ml.ensures.ml_after
