-- `molecule_evidence::write_marked` meets its contract: its loop writes the bytes of one position after another. Assumes nothing.
use mathlib.Core.Path.{◌≡◌, ap, ◌∙◌}
use Prim.Native.Nat.{ℕ, ◌≤◌, ◌/◌, ◌*◌, ◌+◌, ◌-◌, min}
use native.Mathlib.Nat.{mul-le-mul_left, mul-div-le}
use native.Mathlib.Omega.{arith}
use lib.ListN.{length}
use lib.Seq.{sets}
use Rattle.lists.specs.Output.{put}
use Rattle.methylation.specs.declared.Evidence.{Evidence}
use Rattle.byte_numbers.specs.Groups.{group, joined}
use Rattle.byte_numbers.proofs.Groups.{begin_join, next_join, done_join}
use Rattle.molecule_evidence.specs.Evidence.{bytes_in, marked_bytes}
use Rattle.molecule_evidence.proofs.Evidence.{length_position}
use Rattle.molecule_evidence.proofs.write_marked.Invariants.{at}
use Rattle.molecule_evidence.proofs.write_marked.Goals as goal

pub loop-i-init : goal.loop-i-init
loop-i-init c =
    let few : c.min-n.result ≤ length c.args.out.now / 9 = omega (arith, c.min-n.ensures, c.min.ensures) in
    begin_join (λ k. length_position _ _ _) (omega (arith, mul-le-mul_left 9 few, mul-div-le (length c.args.out.now) 9))

pub loop-i-preserved : goal.loop-i-preserved
unfolding group
loop-i-preserved c =
    let i = c.loop-i.i in
    let whole : 9 * i + 9 - 9 * i ≡ 9 = omega arith in
    next_join c.loop-i.invariant c.loop-i-test.true (c.store_position.ensures ∙ ap (λ (e : Evidence). sets c.loop-i.out (9 * i) (bytes_in e)) (rw whole at c.evidence_in-evidence.ensures))

pub returns : goal.returns
unfolding marked_bytes
returns c =
    let a = c.args in
    done_join c.loop-i.invariant c.loop-i-test.false
    ∙ ap (λ (k : ℕ). put (joined k (at a.marks.now a.bytes.now)) a.out.now) (c.min-n.ensures ∙ ap (λ (k : ℕ). min k (length a.bytes.now / 9)) c.min.ensures)
