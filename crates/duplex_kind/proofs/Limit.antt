-- What the rows by the lengths of two strands say, and the answer of the call that tests them.
--     lengths_passed, lengths_refused   what that answer says: no row refuses, or the row
--     same_lengths                      that answer, where the limit and the lengths are others'
--     none_over                         where no row refuses, no strand is over 1,024 positions nor over the limit
--     by_7, by_19, by_none              7 where a strand is over 1,024, else 19 where one is over the limit, else no row
--     over_more                         a strand that is not over a limit is not over a higher one
--     as_far, as_far_limits             by two limits that no strand is over, the rows are the same
--     above_all                         a limit above 1,024 is as 1,024
--     no_array, no_evidence             no array of a strand that is not over a limit is
--     long_over                         row 7's condition of a strand as it is given, by its lengths
--     lengths_looked_at                 a strand as far as its evidence is looked at has the same lengths
-- Assumes nothing.
use mathlib.Core.Path.{◌≡◌, refl, sym, ap, ◌∙◌}
use mathlib.Core.Bool.{Bool, true, false, cond, ◌&&◌, ◌||◌}
use mathlib.Core.List.{List, [], ◌∷◌}
use Prim.Native.Nat.{ℕ, ◌≤◌}
use native.Mathlib.Omega.{arith}
use borrow.Author.Tests.{ltb-false, le-ltb}
use lib.Dec.{ltb}
use Rattle.std.proofs.Common.{Option, Some, None, Result, Ok, Err}
use Rattle.std.specs.Option.{option_map_or}
use Rattle.refusals.specs.declared.Refusal.{Refusal}
use Rattle.refusals.specs.declared.Refusal.TheVariants.{TooLong, OverLimit}
use Rattle.refusals.specs.Refusal.{Fault, ◌if◌, over, refused}
use Rattle.refusals.specs.Outcome.{answer}
use Rattle.refusals.proofs.Claims.{none_lost}
use Rattle.refusals.proofs.Condition.{Every, neither, not_over}
use Rattle.refusals.proofs.Outcome.{refused_by, passed_by}
use Rattle.methylation.specs.Arrays.{three, evidence_over}
use Rattle.methylation.specs.declared.EvidenceLengths.{EvidenceLengths}
use Rattle.vanilla_caller.specs.Strand.{lengths, four, strand_too_long}
use Rattle.vanilla_caller.specs.declared.Lengths.{Lengths}
use Rattle.vanilla_caller.proofs.Strand.{lengths_seen}
use Rattle.duplex_kind.specs.Kind.{Strand, given, long}
use Rattle.duplex_kind.specs.Absent.{seen_of}
use Rattle.duplex_kind.specs.Limit.{lengths_of, over_in, limit_faults, length_faults}

-- A strand is over a limit.
abbrev pub either_over : ℕ → Option Lengths → Option Lengths → Bool
either_over limit a b = over_in limit a || over_in limit b

-- Neither strand is over 1,024 positions, nor over the limit.
pub record Within (limit : ℕ) (a b : Option Lengths) : Type 0 where
  pub a_long : over_in 1024 a ≡ false
  pub b_long : over_in 1024 b ≡ false
  pub a_over : over_in limit a ≡ false
  pub b_over : over_in limit b ≡ false

module _ (limit : ℕ) (a b : Option Lengths) where
  abbrev pub refusal : Option Refusal
  refusal = refused (length_faults limit a b)

  module _ {r : Result (Unit {0}) Refusal} (h : r ≡ answer refusal tt) where
    pub lengths_passed : {u : Unit {0}} → r ≡ Ok u → refusal ≡ None
    lengths_passed e = (passed_by refusal tt (sym h ∙ e)).0

    pub lengths_refused : {row : Refusal} → r ≡ Err row → refusal ≡ Some row
    lengths_refused e = refused_by refusal tt (sym h ∙ e)

  pub same_lengths : {other : ℕ} {x y : Option Lengths} {r : Result (Unit {0}) Refusal} → r ≡ answer (refused (length_faults other x y)) tt → other ≡ limit → x ≡ a → y ≡ b → r ≡ answer refusal tt
  same_lengths h e f g = rw (e, f, g) at h

  pub none_over : refusal ≡ None → Within limit a b
  none_over z =
      let clear = none_lost (length_faults limit a b) z in
      let (a_long, b_long) = neither (over_in 1024 a) (over_in 1024 b) clear.0 in
      let (a_over, b_over) = neither (over_in limit a) (over_in limit b) clear.1.0 in
      record { a_long = a_long; b_long = b_long; a_over = a_over; b_over = b_over }

  pub by_7 : either_over 1024 a b ≡ true → refusal ≡ Some TooLong
  by_7 h = rw h

  pub by_19 : either_over 1024 a b ≡ false → either_over limit a b ≡ true → refusal ≡ Some OverLimit
  by_19 h k = rw (h, k)

  pub by_none : either_over 1024 a b ≡ false → either_over limit a b ≡ false → refusal ≡ None
  by_none h k = rw (h, k)

module _ (limit other : ℕ) (more : limit ≤ other) where
  length_more : (n : ℕ) → ltb limit n ≡ false → ltb other n ≡ false
  length_more n e = le-ltb other n (omega (arith, ltb-false limit n e))

  lengths_more : (ns : List ℕ) → over limit ns ≡ false → over other ns ≡ false
  lengths_more [] e = refl
  lengths_more (n ∷ []) e = length_more n e
  lengths_more (n ∷ (m ∷ ms)) e =
      let (here, later) = neither (ltb limit n) (over limit (m ∷ ms)) e in
      rw (length_more n here) (lengths_more (m ∷ ms) later)

  evidence_more : (e : Option EvidenceLengths) → option_map_or (evidence_over limit) e false ≡ false → option_map_or (evidence_over other) e false ≡ false
  evidence_more None h = refl
  evidence_more (Some e) h = lengths_more (three e) h

  pub over_more : (s : Option Lengths) → over_in limit s ≡ false → over_in other s ≡ false
  over_more None h = refl
  over_more (Some s) h =
      let (own, evidence) = neither (over limit (four s)) (option_map_or (evidence_over limit) s.evidence false) h in
      rw (lengths_more (four s) own) (evidence_more s.evidence evidence)

module _ (limit other : ℕ) (a b : Option Lengths) where
  -- Both limits say the same of the two strands.
  alike : either_over limit a b ≡ either_over other a b → limit_faults limit a b ≡ limit_faults other a b
  alike h = ap (λ (met : Bool). (OverLimit if met) ∷ []) h

  pub as_far_limits : either_over limit a b ≡ false → either_over other a b ≡ false → limit_faults limit a b ≡ limit_faults other a b
  as_far_limits h k = alike (h ∙ sym k)

  pub as_far : either_over limit a b ≡ false → either_over other a b ≡ false → length_faults limit a b ≡ length_faults other a b
  as_far h k = ap (λ (fs : List Fault). (TooLong if either_over 1024 a b) ∷ fs) (as_far_limits h k)

pub above_all : (limit : ℕ) (a b : Option Lengths) → 1024 ≤ limit → refused (length_faults limit a b) ≡ refused (length_faults 1024 a b)
above_all limit a b more = go (either_over 1024 a b) refl
  where
    go : (met : Bool) → either_over 1024 a b ≡ met → refused (length_faults limit a b) ≡ refused (length_faults 1024 a b)
    go true h = by_7 limit a b h ∙ sym (by_7 1024 a b h)
    go false h =
        let (a_over, b_over) = neither (over_in 1024 a) (over_in 1024 b) h in
        let none : either_over limit a b ≡ false = rw (over_more 1024 limit more a a_over, over_more 1024 limit more b b_over) in
        by_none limit a b h none ∙ sym (by_none 1024 a b h h)

module _ (limit : ℕ) (s : Lengths) (h : over_in limit (Some s) ≡ false) where
  pub no_array : Every (λ n. n ≤ limit) (four s)
  no_array = not_over limit (four s) (neither (over limit (four s)) _ h).0

  pub no_evidence : (e : EvidenceLengths) → s.evidence ≡ Some e → Every (λ n. n ≤ limit) (three e)
  no_evidence e is = not_over limit (three e) (ap (λ (x : Option EvidenceLengths). option_map_or (evidence_over limit) x false) (sym is) ∙ (neither (over limit (four s)) _ h).1)

pub long_over : (s : Strand) → long (given s) ≡ over_in 1024 (lengths_of s)
long_over s = go s.present
  where
    go : (present : Bool) → (present && strand_too_long (lengths s.annotation s.arrays)) ≡ over_in 1024 (cond present (Some (lengths s.annotation s.arrays)) None)
    go true = refl
    go false = refl

pub lengths_looked_at : (s : Strand) → lengths_of (seen_of s) ≡ lengths_of s
lengths_looked_at s = ap (λ (l : Lengths). cond s.present (Some l) None) (lengths_seen s.annotation s.arrays)
