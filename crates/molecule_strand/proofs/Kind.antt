-- The kind of the record that two strands make, by depths that were read.
--     same_given       what is given of a strand, by its byte counts and its depths
--     refused_early    refused by an early row
--     passed           passed by them
--     kind_whole       where the depths of strands that are not long were read as they are, it is the strands' kind
-- Assumes nothing.
use mathlib.Core.Path.{◌≡◌, refl, ap, ap₂, ◌∙◌}
use mathlib.Core.Bool.{Bool, true, false, cond, ◌&&◌, ◌||◌}
use mathlib.Core.List.{List, [], ◌∷◌}
use Prim.Native.Nat.{ℕ, ◌/◌}
use lib.ListN.{length, take}
use Rattle.std.proofs.Common.{Option, Some, None, Result, Ok, Err}
use Rattle.refusals.specs.declared.Refusal.{Refusal}
use Rattle.refusals.specs.declared.Refusal.TheVariants.{Broken, TooLong, Ragged, TooManyReads, PartOutside}
use Rattle.refusals.specs.Refusal.{◌if◌, refused, too_many}
use Rattle.refusals.specs.Outcome.{answer}
use Rattle.refusals.proofs.Condition.{neither}
use Rattle.byte_numbers.specs.Bytes.{number_of, words16}
use Rattle.byte_numbers.proofs.Groups.{length_by_group}
use Rattle.molecule_evidence.specs.Evidence.{mark_in, count_in}
use Rattle.duplex_kind.specs.Kind.{Given, given, long, uneven, kind_by as kind_of_given, kind_of, kind_given}
use Rattle.duplex_kind.specs.declared.DuplexConsensus.{DuplexConsensus}
use Rattle.molecule_strand.specs.Rows.{misfit_in, long_in, numbers_in, early_faults, given_by, kind_by, kind_read}
use Rattle.molecule_strand.specs.Strand.{StrandBytes, strand_of}

-- What is given of a strand, by its byte counts and its depths.
abbrev given_bytes : StrandBytes → Given
given_bytes s = record { present = s.present; lengths = numbers_in s; depths = words16 s.depths }

pub same_given : (s : StrandBytes) → given_bytes s ≡ given (strand_of s)
unfolding strand_of
same_given s =
    rw
    (length_by_group 2 number_of s.depths, length_by_group 2 number_of s.errors, length_by_group 9 mark_in s.evidence, length_by_group 9 (count_in 1) s.evidence, length_by_group 9 (count_in 5) s.evidence)

-- The rows over what is given, without reads.
abbrev rows : Bool → Bool → Bool → Option DuplexConsensus → Result (Option DuplexConsensus) Refusal
rows p l u made = cond p (Err Broken) (answer (refused ((TooLong if l) ∷ (Ragged if u) ∷ (TooManyReads if (false && too_many (0 ∷ []))) ∷ (PartOutside if (false && false)) ∷ [])) made)

turned_down : (p l u : Bool) (made : Option DuplexConsensus) {e : Refusal} → answer {A = Unit {0}} (refused ((Broken if p) ∷ (TooLong if l) ∷ [])) tt ≡ Err e → Err e ≡ rows p l u made
turned_down true l u made h = cc
turned_down false true u made h = cc
turned_down false false u made h = absurd cc

through : (p l : Bool) {made : Result (Option DuplexConsensus) Refusal} {x : Unit {0}} → answer {A = Unit {0}} (refused ((Broken if p) ∷ (TooLong if l) ∷ [])) tt ≡ Ok x → made ≡ cond p (Err Broken) made
through true l h = absurd cc
through false l h = refl

module _ (a b : StrandBytes) where
  abbrev misfits : Bool
  misfits = misfit_in a || misfit_in b

  abbrev longs : Bool
  longs = long_in a || long_in b

  module _ (x y : List ℕ) where
    pub refused_early : {e : Refusal} → answer {A = Unit {0}} (refused (early_faults a b)) tt ≡ Err e → Err e ≡ kind_read a b x y
    refused_early h = turned_down misfits longs (uneven (given_by a x) || uneven (given_by b y)) (kind_of_given (given_by a x) (given_by b y)) h

    pub passed : {u : Unit {0}} {r : Result (Option DuplexConsensus) Refusal} → answer {A = Unit {0}} (refused (early_faults a b)) tt ≡ Ok u → r ≡ kind_given (given_by a x) (given_by b y) false 0 false → r ≡ kind_read a b x y
    passed h e = e ∙ through misfits longs h

    -- Depths that fit are read as they are; of strands that are long they do not matter.
    pub kind_whole : (long_in a ≡ false → take (length a.depths / 2) x ≡ words16 a.depths) → (long_in b ≡ false → take (length b.depths / 2) y ≡ words16 b.depths) → kind_read a b x y ≡ kind_by a b
    kind_whole f g = ap (λ (k : Result (Option DuplexConsensus) Refusal). cond misfits (Err Broken) k) (go longs refl)
      where
        go : (l : Bool) → longs ≡ l → kind_given (given_by a x) (given_by b y) false 0 false ≡ kind_given (given (strand_of a)) (given (strand_of b)) false 0 false
        go true e =
            let other : (long (given (strand_of a)) || long (given (strand_of b))) ≡ true = rw (ap long (same_given a), ap long (same_given b)) at e in
            rw (e, other) refl
        go false e =
            let (short_a, short_b) = neither (long_in a) (long_in b) e in
            let first : given_by a x ≡ given (strand_of a) = ap (λ (l : List ℕ). record { present = a.present; lengths = numbers_in a; depths = l }) (f short_a) ∙ same_given a in
            let second : given_by b y ≡ given (strand_of b) = ap (λ (l : List ℕ). record { present = b.present; lengths = numbers_in b; depths = l }) (g short_b) ∙ same_given b in
            ap₂ (λ (x y : Given). kind_given x y false 0 false) first second
