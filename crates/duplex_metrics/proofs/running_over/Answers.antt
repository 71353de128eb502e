-- `duplex_metrics::running_over` meets its contract: after i turns it has the figures of the first i positions. Assumes nothing.
use Prim.Native.Nat.{ℕ}
use mathlib.Core.Path.{◌≡◌, sym, ap, ap₂, ◌∙◌}
use mathlib.Core.Bool.{Bool, true, false}
use mathlib.Core.List.{[], List}
use native.Mathlib.Omega.{arith}
use lib.ListN.{length, get_or}
use Rattle.lists.specs.Part.{only_if}
use Rattle.lists.specs.Table.{tabulate}
use Rattle.lists.proofs.Table.{length_tabulate, get_d_tabulate}
use Rattle.duplex_metrics.specs.Metrics.{capped, record_depth, record_depths, is_no_call}
use Rattle.duplex_metrics.specs.Running.{so_far, running}
use Rattle.duplex_metrics.proofs.Depths.{depths_length, depths_at, depth_bound, short_bound, capped_length, capped_at}
use Rattle.duplex_metrics.proofs.SoFar.{mark, begin, next, done, depths_first, only_within, no_calls_within}
use Rattle.duplex_metrics.proofs.running_over.Goals as goal

pub loop-i-init : goal.loop-i-init
loop-i-init c =
    begin (c.start-r.ensures ∙ ap (λ (n : ℕ). so_far n [] [] []) c.first_depth.ensures)

pub loop-i-preserved : goal.loop-i-preserved
loop-i-preserved c =
    let given = c.args in
    let xs = given.a.now in
    let ys = only_if given.second given.b.now in
    let es = given.errors.now in
    let bs = only_if given.asked given.bases.now in
    let n = length es in
    let at_loop = c.loop-i in
    let i = at_loop.i in
    let below = c.loop-i-test.true in
    let depth = c.depth_at.ensures in
    let error = c.capped_u16.ensures in
    let base = c.base_at.ensures in
    next
    c.base_at.result
    at_loop.invariant
    (omega (arith, depths_length n xs ys), omega (arith, capped_length es), omega (arith, length_tabulate n (mark xs ys bs)))
    (depth ∙ sym (depths_at n xs ys i below), error ∙ sym (capped_at es i), ap₂ is_no_call base depth ∙ sym (get_d_tabulate n (mark xs ys bs) i false below))
    (omega (arith, depth, depth_bound xs ys i), omega (arith, error, short_bound (get_or es i 0)))
    c.add-r.ensures

-- The figures of all positions are the record's.
all_are :
    (second asked : Bool) (a b errors bases : List ℕ)
    → length a ≡ length errors
    → (second ≡ true → length b ≡ length errors)
    → (asked ≡ true → length bases ≡ length errors)
    → let b' = only_if second b in
    let bases' = only_if asked bases in
    so_far (record_depth a b' 0) (record_depths (length errors) a b') (capped errors) (tabulate (length errors) (mark a b' bases')) ≡ running a b' errors bases'
all_are second asked a b errors bases same same_b same_bases =
    let first = depths_first (length errors) a (only_if second b) same (only_within second b (length errors) same_b) in
    let nc = no_calls_within asked (length errors) a (only_if second b) bases same_bases in
    cc

pub returns : goal.returns
returns c =
    let given = c.args in
    let xs = given.a.now in
    let ys = only_if given.second given.b.now in
    let es = given.errors.now in
    let n = length es in
    let bs = only_if given.asked given.bases.now in
    let ended = c.loop-i-test.false in
    done c.loop-i.invariant (omega (arith, depths_length n xs ys, ended), omega (arith, capped_length es, ended), omega (arith, length_tabulate n (mark xs ys bs), ended))
    ∙ all_are given.second given.asked xs given.b.now es given.bases.now c.requires.0 c.requires.1 c.requires.2
