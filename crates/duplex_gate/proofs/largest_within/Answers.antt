-- `duplex_gate::largest_within` meets its contract: what the loop found, and what is behind where both strands reach. Assumes nothing.
use mathlib.Core.Path.{◌≡◌, refl, ap, ◌∙◌}
use Prim.Native.Nat.{ℕ, min}
use native.Mathlib.Omega.{arith}
use lib.ListN.{length, take, length-take}
use Rattle.std.proofs.Common.{rules}
use Rattle.std.proofs.lemmas.Slice.Zip.{zip_end}
use Rattle.numbers.specs.Numbers.{largest}
use Rattle.duplex_gate.specs.ConsensusGate.{largest_within}
use Rattle.duplex_gate.proofs.Largest.{cut, all_of}
use Rattle.duplex_gate.proofs.largest_within.Goals as goal

pub returns-then-ab_end-ba_end : goal.returns-then-ab_end-ba_end
returns-then-ab_end-ba_end c =
    let r = c.args.r in
    let both = c.min-both.result in
    let turns : length c.loop-of_a.yielded ≡ min (length (take both r.ab.now)) (length (take both r.ba.now)) = zip_end (take both r.ab.now) (take both r.ba.now) c.loop-of_a.yielded _ _ c.next.new.self _ (search rules) (search rules) c.loop-of_a.yielded_by c.in-None.is c.next.ensures.steps in
    let of_ab : length c.loop-of_a.yielded ≡ c.min-ab_end.result = omega (arith, turns, length-take both r.ab.now, length-take both r.ba.now) in
    let of_ba : length c.loop-of_a.yielded ≡ c.min-ba_end.result = omega (arith, turns, length-take both r.ab.now, length-take both r.ba.now) in (
      c.from.ensures ∙ c.loop-of_a.invariant.0 ∙ ap (λ (n : ℕ). largest_within n r.ab.now) of_ab ∙ ap largest (cut r.positions r.ab.now c.min-ab_end.ensures),
      c.from-2.ensures ∙ c.loop-of_a.invariant.1 ∙ ap (λ (n : ℕ). largest_within n r.ba.now) of_ba ∙ ap largest (cut r.positions r.ba.now c.min-ba_end.ensures),
    )

pub returns : goal.returns
returns c =
    let r = c.args.r in
    let both = c.min-both.result in
    let turns : length c.loop-of_a.yielded ≡ min (length (take both r.ab.now)) (length (take both r.ba.now)) = zip_end (take both r.ab.now) (take both r.ba.now) c.loop-of_a.yielded _ _ c.next.new.self _ (search rules) (search rules) c.loop-of_a.yielded_by c.in-None.is c.next.ensures.steps in
    let ended : length c.loop-of_a.yielded ≡ both = omega (arith, turns, length-take both r.ab.now, length-take both r.ba.now) in (
      c.or_larger.ensures.0 ∙ all_of r.positions both r.ab.now c.min-ab_end.ensures (omega arith) (c.from.ensures ∙ c.loop-of_a.invariant.0 ∙ ap (λ (n : ℕ). largest_within n r.ab.now) ended) refl,
      c.or_larger.ensures.1 ∙ all_of r.positions both r.ba.now c.min-ba_end.ensures (omega arith) (c.from-2.ensures ∙ c.loop-of_a.invariant.1 ∙ ap (λ (n : ℕ). largest_within n r.ba.now) ended) refl,
    )
