-- ML's byte is the part of 0 to 1 that a count over a total lies in, and no other byte is; a position without counts is not called.
-- Assumes nothing.
use mathlib.Core.Path.{◌≡◌, refl}
use mathlib.Core.Bool.{Bool, true, false, not, ◌&&◌}
use Prim.Native.Nat.{ℕ, ◌+◌, ◌*◌, ◌/◌, ◌≤◌, ◌<◌, min}
use native.Mathlib.Nat.{div-mul-le_self, lt-div-mul-add, div-lt_iff_lt-mul, mul-div_cancel, mul-le-mul_right, lt_of_mul-lt-mul_right, add-mul, min-le_left}
use native.Mathlib.Omega.{arith}
use borrow.Author.Tests.{ltb-true, ltb-false}
use lib.Dec.{eqb, ltb}
use lib.ListN.{get_or}
use Rattle.methylation.specs.declared.MethylationMode.TheVariants.{EmSeq, Taps}
use Rattle.methylation_calls.specs.Calls.{is_tracked, ml_of}
use Rattle.mm_ml.specs.Tags.{Annotated, called_at}
use Rattle.papers.specs.Papers.{MlByte}

-- For any count that is at most its total.
byte : (count total : ℕ) → 0 < total → count ≤ total → MlByte (min (256 * count / total) 255) count total
byte count total h most = record {
  from = omega (arith, mul-le-mul_right total (min-le_left (256 * count / total) 255), div-mul-le_self (256 * count) total);
  below = λ less.
      let few : 256 * count / total < 256 = (div-lt_iff_lt-mul h).1 (omega arith) in
      let same : min (256 * count / total) 255 ≡ 256 * count / total = omega arith in
      rw (same, add-mul) (omega (arith, lt-div-mul-add {a = 256 * count} h));
  one = λ all. rw (all, mul-div_cancel 256 h);
}

pub ml_em_seq : (unconverted converted : ℕ) → 0 < unconverted + converted → MlByte (ml_of EmSeq unconverted converted) unconverted (unconverted + converted)
ml_em_seq u c h = byte u (u + c) h (omega arith)

pub ml_taps : (unconverted converted : ℕ) → 0 < unconverted + converted → MlByte (ml_of Taps unconverted converted) converted (unconverted + converted)
ml_taps u c h = byte c (u + c) h (omega arith)

-- The part that N is does not reach below the one that M is.
not_below : (N M count total : ℕ) → MlByte N count total → MlByte M count total → count < total → N ≤ M
not_below N M count total n m less =
    let between : N * total < (M + 1) * total = omega (arith, n.from, m.below less) in
    omega (arith, lt_of_mul-lt-mul_right total between)

pub ml_only : (N M count total : ℕ) → count ≤ total → MlByte N count total → MlByte M count total → N ≡ M
ml_only N M count total most n m = go (ltb count total) refl
  where
    go : (b : Bool) → ltb count total ≡ b → N ≡ M
    go true e = omega (arith, not_below N M count total n m (ltb-true count total e), not_below M N count total m n (ltb-true count total e))
    go false e =
        let all : count ≡ total = omega (arith, ltb-false count total e) in
        omega (arith, n.one all, m.one all)

pub no_counts : (s : Annotated) (i : ℕ) → get_or s.unconverted i 0 + get_or s.converted i 0 ≡ 0 → called_at s i ≡ false
unfolding called_at
no_counts s i none = rw none (go (is_tracked s.pattern (get_or s.bases i 0)) (not (eqb (get_or s.marks i 0) 0)))
  where
    go : (tracked marked : Bool) → (tracked && (marked && false)) ≡ false
    go true true = refl
    go true false = refl
    go false marked = refl
