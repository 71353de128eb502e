-- `rust_consensus::gedrashiw_gated_single_strand` meets its contract: evidence that stands beside no annotation is not looked at. Assumes
-- nothing.
use mathlib.Core.Path.{◌≡◌}
use Rattle.std.proofs.Common.{rules}
use Rattle.vanilla_caller.specs.Strand.{arrays, arrays_in, arrays_seen}
use Rattle.vanilla_caller.proofs.Strand.{lent_as}
use Rattle.duplex_single.proofs.Absent.{not_looked_at}
use Rattle.rust_consensus.proofs.gedrashiw_gated_single_strand.Goals as goal

pub returns : goal.returns
returns c =
    let a = c.args in
    let m = c.in-Ok.annotation in
    let x = arrays a.bases.now a.quals.now a.depths.now a.errors.now a.marks.now a.unconverted.now a.converted.now in
    let lent : arrays_in c.annotated-strand.result ≡ arrays_seen m x = lent_as m c.annotated-strand.result c.new.result c.new-evidence.result c.annotated-strand.ensures.arrays c.new.ensures.arrays c.new-evidence.ensures in
    let made = not_looked_at m x _ _ _ (rw (c.annotated-strand.ensures.annotation, lent) at c.gated_single_strand.ensures.single) in
    search (rules, made)
