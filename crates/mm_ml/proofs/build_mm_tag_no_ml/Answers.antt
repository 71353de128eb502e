-- `mm_ml::build_mm_tag_no_ml` meets its contract: the other call's, without the ML bytes. Assumes nothing.
use native.Mathlib.Omega.{arith}
use Rattle.std.proofs.lemmas.Result.{err_from_is_err_and}
use Rattle.mm_ml.proofs.Refused.{alone}
use Rattle.mm_ml.proofs.build_mm_tag_no_ml.Goals as goal

pub returns-in_err-tags : goal.returns-in_err-tags
returns-in_err-tags c =
    let p = err_from_is_err_and c.from_residual.result c.from_residual.ensures.1 in
    rw (p.1, p.2) (rw c.in_err-tags.was at (alone _ _ _ _ (omega arith) c.build_mm_ml_tags.ensures))
