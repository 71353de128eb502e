-- Which record some strands make, at numbers. Assumes nothing.
use mathlib.Core.Path.{◌≡◌, refl}
use mathlib.Core.Bool.{true, false}
use mathlib.Core.List.{List, [], ◌∷◌}
use Prim.Native.Nat.{ℕ}
use Rattle.vanilla_caller.specs.Strand.{arrays}
use Rattle.duplex_kind.specs.Kind.{Strand, strand, kind_of}
use Rattle.duplex_kind.specs.declared.DuplexConsensus.TheVariants.{Ab, Ba, Both}
use Rattle.std.proofs.Common.{Some, None}

-- A strand of these bases and depths.
abbrev of : List ℕ → List ℕ → Strand
of bases depths = strand true None (arrays bases [] depths [] [] [] [])

abbrev absent : Strand
absent = strand false None (arrays (65 ∷ []) [] (1 ∷ []) [] [] [] [])

pub record Examples : Type 0 where
  pub neither : kind_of absent absent ≡ None
  pub no_depth : kind_of (of (65 ∷ []) (0 ∷ [])) absent ≡ None
  pub a_alone : kind_of (of (65 ∷ 65 ∷ []) (0 ∷ 1 ∷ [])) absent ≡ Some (Ab 2)
  pub b_alone : kind_of absent (of (65 ∷ []) (1 ∷ [])) ≡ Some (Ba 1)
  pub shorter : kind_of (of (65 ∷ 65 ∷ []) (1 ∷ 1 ∷ [])) (of (65 ∷ []) (1 ∷ [])) ≡ Some (Both 1)
  -- A depth past the record's length does not count.
  pub past_the_end : kind_of (of (65 ∷ 65 ∷ []) (0 ∷ 1 ∷ [])) (of (65 ∷ []) (1 ∷ [])) ≡ Some (Ba 1)

pub examples : Examples
examples = record { neither = refl; no_depth = refl; a_alone = refl; b_alone = refl; shorter = refl; past_the_end = refl }
