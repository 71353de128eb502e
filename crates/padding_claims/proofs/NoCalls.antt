-- The claims of specs/NoCalls.antt.
--     no_call_cons            nc of a strand with one more position in front
--     padded_no_calls         nc of a padded strand
-- Assumes nothing.
use mathlib.Core.Path.{◌≡◌, refl, sym, ap, ◌∙◌}
use mathlib.Core.Bool.{Bool, true, false, cond, ◌&&◌}
use mathlib.Core.List.{List, [], ◌∷◌, ◌++◌}
use Prim.Native.Nat.{ℕ, zero, suc, ◌-◌, ◌≤◌}
use native.Mathlib.Omega.{arith}
use lib.Dec.{eqb, ltb}
use lib.ListN.{length, get_or, replicate}
use Rattle.lists.specs.Count.{count_of}
use Rattle.lists.specs.Part.{only_if}
use Rattle.lists.specs.Table.{tabulate}
use Rattle.lists.proofs.Count.{count_cons, counts_few}
use Rattle.refusals.proofs.Condition.{neither, not_ragged}
use Rattle.refusals.proofs.Claims.{none_lost}
use Rattle.dna.specs.Dna.{letter_n}
use Rattle.vanilla_caller.specs.Strand.{Arrays, lengths}
use Rattle.vanilla_padded.specs.Padding.{Padding, kept, pad_to, padded_faults, padded_refused}
use Rattle.duplex_metrics.specs.Metrics.{Input, no_calls, record_depth, record_depths, record_no_calls, is_no_call, metrics_of}
use Rattle.duplex_metrics.specs.declared.MetricsRecord.{MetricsRecord}
use Rattle.duplex_metrics.proofs.Returned.{record_is}
use Rattle.padding_claims.specs.NoCalls.{alone, alone_padded, PaddingIsNoNoCall, NoneWithoutDepth}
use Rattle.std.proofs.Common.{Ok, None, Option}
use Rattle.methylation.specs.declared.ConversionPattern.{ConversionPattern}

-- nc of a record that was returned.
nc_is : (x : Input) (r : MetricsRecord) → metrics_of x ≡ Ok r → r.nc ≡ no_calls x
nc_is x r e = ap (λ (m : MetricsRecord). m.nc) (record_is x r e)

-- nc of a strand alone, one position more in front.
no_call_cons :
    (d base : ℕ) (ds bases : List ℕ)
    → record_no_calls (d ∷ ds) [] (base ∷ bases) ≡ cond (is_no_call base (record_depth (d ∷ []) [] 0)) (suc (record_no_calls ds [] bases)) (record_no_calls ds [] bases)
unfolding record_no_calls tabulate record_depth
no_call_cons d base ds bases = count_cons (λ (met : Bool). met) _ _

-- One that has no depth counts for nothing.
nothing_more : (base : ℕ) (ds bases : List ℕ) → record_no_calls (0 ∷ ds) [] (base ∷ bases) ≡ record_no_calls ds [] bases
unfolding record_depth
nothing_more base ds bases = no_call_cons 0 base ds bases ∙ go (eqb base letter_n)
  where
    go : (b : Bool) → cond (b && false) (suc (record_no_calls ds [] bases)) (record_no_calls ds [] bases) ≡ record_no_calls ds [] bases
    go true = refl
    go false = refl

-- k positions of padding on the left, and on the right.
left_padded : (k v : ℕ) (ds bases : List ℕ) → record_no_calls (replicate k 0 ++ ds) [] (replicate k v ++ bases) ≡ record_no_calls ds [] bases
left_padded zero v ds bases = refl
left_padded (suc k) v ds bases = nothing_more v (replicate k 0 ++ ds) (replicate k v ++ bases) ∙ left_padded k v ds bases

only_padding : (k v : ℕ) → record_no_calls (replicate k 0) [] (replicate k v) ≡ record_no_calls [] [] []
only_padding zero v = refl
only_padding (suc k) v = nothing_more v (replicate k 0) (replicate k v) ∙ only_padding k v

right_padded :
    (k v : ℕ) (ds bases : List ℕ)
    → length ds ≡ length bases
    → record_no_calls (ds ++ replicate k 0) [] (bases ++ replicate k v) ≡ record_no_calls ds [] bases
right_padded k v [] [] e = only_padding k v
right_padded k v [] (base ∷ bases) e = absurd (omega (arith, e))
right_padded k v (d ∷ ds) [] e = absurd (omega (arith, e))
right_padded k v (d ∷ ds) (base ∷ bases) e =
    no_call_cons d base (ds ++ replicate k 0) (bases ++ replicate k v)
    ∙ ap (λ (n : ℕ). cond (is_no_call base (record_depth (d ∷ []) [] 0)) (suc n) n) (right_padded k v ds bases (omega (arith, e)))
    ∙ sym (no_call_cons d base ds bases)

padded_no_calls :
    (n : ℕ) (left : Bool) (v : ℕ) (ds bases : List ℕ)
    → length ds ≡ length bases
    → record_no_calls (pad_to n left 0 ds) [] (pad_to n left v bases) ≡ record_no_calls ds [] bases
unfolding pad_to
padded_no_calls n true v ds bases e = rw e (left_padded (n - length bases) v ds bases)
padded_no_calls n false v ds bases e = rw e (right_padded (n - length bases) v ds bases e)

-- A strand that `padded` takes has as many depths as bases.
even : (annotation : Option ConversionPattern) (s : Arrays) (p : Padding) (out : Arrays) → padded_refused annotation s p out ≡ None → length s.depths ≡ length s.bases
even annotation s p out e =
    let ragged_none = (none_lost (padded_faults (lengths annotation s) p.new_length (lengths (kept annotation (length s.bases) p.new_length) out)) e).1.0 in
    (not_ragged (length s.bases) (length s.quals ∷ length s.depths ∷ length s.errors ∷ []) (neither _ _ ragged_none).0).1.0

pub padding_is_no_no_call : PaddingIsNoNoCall
unfolding only_if
padding_is_no_no_call annotation s p out before after taken e f =
    nc_is (alone_padded annotation s p) after f
    ∙ padded_no_calls p.new_length p.left p.base s.depths s.bases (even annotation s p out taken)
    ∙ sym (nc_is (alone annotation s) before e)

-- A test that asks for depth is met at most where there is depth.
met_with_depth : (n : ℕ) (p : ℕ → Bool) (depth : ℕ → ℕ) → count_of (λ (met : Bool). met) (tabulate n (λ i. p i && ltb 0 (depth i))) ≤ count_of (ltb 0) (tabulate n depth)
unfolding tabulate
met_with_depth zero p depth = omega (arith, counts_few {A = Bool} (λ met. met) [])
met_with_depth (suc n) p depth =
    let here = count_cons (λ (met : Bool). met) (p 0 && ltb 0 (depth 0)) (tabulate n (λ i. p (suc i) && ltb 0 (depth (suc i)))) in
    let there = count_cons (ltb 0) (depth 0) (tabulate n (λ i. depth (suc i))) in
    rw (here, there) (go (p 0) (ltb 0 (depth 0)) (met_with_depth n (λ i. p (suc i)) (λ i. depth (suc i))))
  where
    go : (a b : Bool) {x y : ℕ} → x ≤ y → cond (a && b) (suc x) x ≤ cond b (suc y) y
    go true true h = omega arith
    go true false h = h
    go false true h = omega arith
    go false false h = h

pub none_without_depth : NoneWithoutDepth
unfolding record_no_calls record_depths
none_without_depth x r e =
    rw (nc_is x r e) (met_with_depth (length x.bases) (λ i. eqb (get_or x.bases i 0) letter_n) (record_depth x.a (only_if x.second x.b)))
