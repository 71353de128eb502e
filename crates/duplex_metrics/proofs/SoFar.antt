-- Laws of running figures.
--     continues               with one position more they are those of the positions so far
--     Reached                 what a loop has after i turns, a position a turn: begin, next, done
--     depths_first, only_within     where the smallest is looked for from
--     mark                    whether a position is a no-call
--     no_calls_within         the no-calls, with bases and without
--     depths_alike, alike     depths that agree within the record give the same depths, figures and no-calls
--     cut_at, empty_at, padded_cut     arrays that agree so
-- Assumes nothing.
use mathlib.Core.Path.{◌≡◌, refl, sym, ap, ap₂, ◌∙◌}
use mathlib.Core.Bool.{Bool, true, false, cond}
use mathlib.Core.List.{List, [], ◌∷◌, ◌++◌, foldl-append}
use Prim.Native.Nat.{ℕ, zero, suc, ◌+◌, ◌-◌, ◌*◌, ◌≤◌, ◌<◌, min, max}
use native.Mathlib.Numerals.{add-one}
use native.Mathlib.Omega.{arith}
use lib.ListN.{length, take, get_or, replicate, length-replicate}
use lib.Seq.{take-suc, take_all, get_or-take}
use Rattle.lists.specs.Count.{count_if, count_of}
use Rattle.lists.specs.Output.{put}
use Rattle.lists.specs.Part.{only_if}
use Rattle.lists.specs.Table.{tabulate}
use Rattle.lists.proofs.Count.{count_cons, count_snoc}
use Rattle.lists.proofs.Table.{tabulate_equal}
use Rattle.caller.specs.Short.{short}
use Rattle.duplex_metrics.specs.Metrics.{record_depth, record_depths, is_no_call, record_no_calls}
use Rattle.duplex_metrics.specs.Running.{so_far, added, Continues, running}
use Rattle.duplex_metrics.specs.declared.Running.{Running}

-- Whether each position is a no-call.
abbrev pub mark : List ℕ → List ℕ → List ℕ → ℕ → Bool
mark a b bases i = is_no_call (get_or bases i 0) (record_depth a b i)

abbrev is : Bool → Bool
is met = met

one_more : (ns : List Bool) (b : Bool) → count_of is ns + cond b 1 0 ≡ count_of is (ns ++ b ∷ [])
unfolding count_if
one_more ns true = sym (count_snoc is ns true)
one_more ns false = omega arith ∙ sym (count_snoc is ns false)

pub continues : (r : Running) (depth error base : ℕ) → Continues r depth error base (added r depth error base)
continues r depth error base first ds es ns h =
    let a = foldl-append max 0 ds (depth ∷ []) in
    let b = foldl-append min first ds (depth ∷ []) in
    let c = foldl-append ◌+◌ 0 ds (depth ∷ []) in
    let d = foldl-append ◌+◌ 0 es (error ∷ []) in
    let e = one_more ns (is_no_call base depth) in
    cc

-- The figures of the first i positions, of at most 65,535 each.
pub record Reached (first : ℕ) (ds es : List ℕ) (ns : List Bool) (i : ℕ) (r : Running) : Type 0 where
  pub within : i ≤ length ds
  pub few_depths : r.depths ≤ 65535 * i
  pub few_errors : r.errors ≤ 65535 * i
  pub few_nc : r.nc ≤ i
  pub so_far_is : r ≡ so_far first (take i ds) (take i es) (take i ns)

pub at_most_one : (b : Bool) → cond b 1 0 ≤ 1
at_most_one true = omega arith
at_most_one false = omega arith

longer :
    (first : ℕ) (ds es : List ℕ) (ns : List Bool) (i d e : ℕ) (n : Bool)
    → (i < length ds) × (i < length es) × (i < length ns)
    → (d ≡ get_or ds i 0) × (e ≡ get_or es i 0) × (n ≡ get_or ns i false)
    → so_far first (take i ds ++ d ∷ []) (take i es ++ e ∷ []) (take i ns ++ n ∷ []) ≡ so_far first (take (i + 1) ds) (take (i + 1) es) (take (i + 1) ns)
longer first ds es ns i d e n h is_at =
    rw (is_at.0, is_at.1, is_at.2, add-one, take-suc ds i 0 h.0, take-suc es i 0 h.1, take-suc ns i false h.2)

module _ {first : ℕ} {ds es : List ℕ} {ns : List Bool} where
  pub begin : {r : Running} → r ≡ so_far first [] [] [] → Reached first ds es ns 0 r
  unfolding count_of
  begin e = record {
    within = omega arith;
    few_depths = omega (arith, ap (λ (z : Running). z.depths) e);
    few_errors = omega (arith, ap (λ (z : Running). z.errors) e);
    few_nc = omega (arith, ap (λ (z : Running). z.nc) e);
    so_far_is = e;
  }

  pub next :
      (base : ℕ) {i : ℕ} {r s : Running} {d e : ℕ}
      → Reached first ds es ns i r
      → (i < length ds) × (i < length es) × (i < length ns)
      → (d ≡ get_or ds i 0) × (e ≡ get_or es i 0) × (is_no_call base d ≡ get_or ns i false)
      → (d ≤ 65535) × (e ≤ 65535)
      → (s ≡ added r d e base) × Continues r d e base s
      → Reached first ds es ns (i + 1) s
  next base {i} {r} {s} {d} {e} at h is_at few told =
      let sum = told.0 in
      record {
        within = omega (arith, h.0);
        few_depths = omega (arith, at.few_depths, few.0, ap (λ (z : Running). z.depths) sum);
        few_errors = omega (arith, at.few_errors, few.1, ap (λ (z : Running). z.errors) sum);
        few_nc = omega (arith, at.few_nc, at_most_one (is_no_call base d), ap (λ (z : Running). z.nc) sum);
        so_far_is = told.1 first (take i ds) (take i es) (take i ns) at.so_far_is ∙ longer first ds es ns i d e (is_no_call base d) h is_at;
      }

  pub done :
      {i : ℕ} {r : Running}
      → Reached first ds es ns i r
      → (length ds ≤ i) × (length es ≤ i) × (length ns ≤ i)
      → r ≡ so_far first ds es ns
  done {i} at h = at.so_far_is ∙ rw (take_all i ds h.0, take_all i es h.1, take_all i ns h.2)

pub depths_first : (n : ℕ) (a b : List ℕ) → length a ≡ n → length b ≤ n → record_depth a b 0 ≡ get_or (record_depths n a b) 0 0
unfolding record_depths record_depth tabulate
depths_first zero [] [] h k = refl
depths_first zero [] (y ∷ ys) h k = absurd (omega (arith, k))
depths_first zero (x ∷ xs) b h k = absurd (omega (arith, h))
depths_first (suc n) a b h k = refl

-- Of an array that is there it has as many elements, else none.
pub only_within : (there : Bool) (xs : List ℕ) (n : ℕ) → (there ≡ true → length xs ≡ n) → length (only_if there xs) ≤ n
unfolding only_if
only_within true xs n h = omega (arith, h refl)
only_within false xs n h = omega arith

-- Without bases there is no no-call.
none_counted : (n : ℕ) (f : ℕ → Bool) → ((i : ℕ) → f i ≡ false) → count_of is (tabulate n f) ≡ 0
unfolding tabulate count_of
none_counted zero f h = refl
none_counted (suc n) f h = count_cons is (f 0) (tabulate n (λ i. f (suc i))) ∙ rw (h 0) (none_counted n (λ i. f (suc i)) (λ i. h (suc i)))

pub no_calls_within :
    (asked : Bool) (n : ℕ) (a b bases : List ℕ)
    → (asked ≡ true → length bases ≡ n)
    → count_of is (tabulate n (λ i. is_no_call (get_or (only_if asked bases) i 0) (record_depth a b i))) ≡ record_no_calls a b (only_if asked bases)
unfolding only_if record_no_calls
no_calls_within true n a b bases h = ap (λ (m : ℕ). count_of is (tabulate m (λ i. is_no_call (get_or bases i 0) (record_depth a b i)))) (sym (h refl))
no_calls_within false n a b bases h = none_counted n (λ i. is_no_call 0 (record_depth a b i)) (λ i. refl) ∙ sym (none_counted 0 (λ i. is_no_call 0 (record_depth a b i)) (λ i. refl))

pub depths_alike :
    (n : ℕ) (a b a' b' : List ℕ)
    → ((i : ℕ) → i < n → get_or a' i 0 ≡ get_or a i 0)
    → ((i : ℕ) → i < n → get_or b' i 0 ≡ get_or b i 0)
    → record_depths n a' b' ≡ record_depths n a b
unfolding record_depths record_depth
depths_alike n a b a' b' h k = tabulate_equal n (record_depth a' b') (record_depth a b) (λ i l. ap₂ (λ (x y : ℕ). short x + short y) (h i l) (k i l))

pub alike :
    (a b a' b' errors bases : List ℕ)
    → length bases ≡ length errors
    → ((i : ℕ) → i < length errors → get_or a' i 0 ≡ get_or a i 0)
    → ((i : ℕ) → i < length errors → get_or b' i 0 ≡ get_or b i 0)
    → running a' b' errors bases ≡ running a b errors bases
unfolding record_depth record_no_calls
alike a b a' b' errors bases same h k =
    let ds = depths_alike (length errors) a b a' b' h k in
    let ns =
    tabulate_equal (length bases) (λ i. is_no_call (get_or bases i 0) (record_depth a' b' i)) (λ i. is_no_call (get_or bases i 0) (record_depth a b i))
    (λ i l. ap₂ (λ (x y : ℕ). is_no_call (get_or bases i 0) (short x + short y)) (h i (omega arith)) (k i (omega arith))) in
    rw (ds, ns)

-- The front of an array within the record: the array's own; of zeros 0; of a copy with zeros behind it what was copied.
pub cut_at : (n : ℕ) (xs : List ℕ) (i : ℕ) → i < n → get_or (take (n - 0) xs) i 0 ≡ get_or xs i 0
cut_at n xs i h = get_or-take (n - 0) xs i 0 (omega arith)

abbrev zeros : ℕ → List ℕ
zeros n = replicate n 0

zero_at : (n i : ℕ) → get_or (zeros n) i 0 ≡ 0
zero_at zero i = refl
zero_at (suc n) zero = refl
zero_at (suc n) (suc i) = zero_at n i

pub empty_at : (xs : List ℕ) (i : ℕ) → length xs ≡ 0 → get_or xs i 0 ≡ 0
empty_at [] i e = refl
empty_at (x ∷ xs) i e = absurd (omega (arith, e))

padded_at : (n : ℕ) (xs : List ℕ) (i : ℕ) → i < n → get_or (put (take n xs) (zeros n)) i 0 ≡ get_or xs i 0
unfolding put
padded_at zero xs i h = absurd (omega arith)
padded_at (suc n) [] i h = zero_at (suc n) i
padded_at (suc n) (x ∷ xs) zero h = refl
padded_at (suc n) (x ∷ xs) (suc i) h = padded_at n xs i (omega arith)

pub padded_cut : (n : ℕ) (xs : List ℕ) {ys : List ℕ} → n ≤ 1024 → ys ≡ put (take (length (zeros 1024)) xs) (zeros 1024) → (i : ℕ) → i < n → get_or (take (n - 0) ys) i 0 ≡ get_or xs i 0
padded_cut n xs {ys} most e i h =
    cut_at n ys i h
    ∙ ap (λ (l : List ℕ). get_or l i 0) (e ∙ ap (λ (m : ℕ). put (take m xs) (zeros 1024)) (length-replicate {A = ℕ} 1024 0))
    ∙ padded_at 1024 xs i (omega arith)
