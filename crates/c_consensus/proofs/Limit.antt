-- Strands as the code has them, by the lengths of their arrays.
--     lengths_are     how long the numbers are that the bytes stand for
--     fits_short, fits_all, fits_preview     how many depths a strand has: by their test; by row 7 alone; by a preview's limit
-- Assumes nothing.
use mathlib.Core.Path.{◌≡◌, ap, ◌∙◌}
use mathlib.Core.Bool.{true, false}
use Prim.Native.Nat.{ℕ, ◌/◌, ◌≤◌, min}
use native.Mathlib.Omega.{arith}
use borrow.Author.Tests.{ltb-false, not-true}
use lib.Dec.{ltb}
use lib.ListN.{length}
use Rattle.std.proofs.Common.{Option, Some, None}
use Rattle.vanilla_caller.specs.declared.Lengths.{Lengths}
use Rattle.molecule_strand.specs.Rows.{numbers_in}
use Rattle.molecule_strand.specs.Strand.{encoded_in, strand_of}
use Rattle.molecule_strand.specs.declared.EncodedStrand.{EncodedStrand}
use Rattle.molecule_strand.proofs.Kind.{same_given}
use Rattle.duplex_kind.specs.Kind.{Given}
use Rattle.duplex_kind.specs.Limit.{lengths_of, over_in}
use Rattle.duplex_kind.proofs.Limit.{no_array}
use Rattle.c_consensus.specs.Parts.{FitsIn, is_short}

pub lengths_are : (s : EncodedStrand) → Some (numbers_in (encoded_in (Some s))) ≡ lengths_of (strand_of (encoded_in (Some s)))
unfolding strand_of
lengths_are s = ap (λ (g : Given). Some g.lengths) (same_given (encoded_in (Some s)))

-- A strand that is over no limit has no more depths.
depths_within : (limit : ℕ) (s : Option EncodedStrand) → over_in limit (lengths_of (strand_of (encoded_in s))) ≡ false → length (encoded_in s).depths / 2 ≤ limit
depths_within limit None e = omega arith
depths_within limit (Some s) e =
    let n : Lengths = numbers_in (encoded_in (Some s)) in
    (no_array limit n (ap (over_in limit) (lengths_are s) ∙ e)).1.1.0

module _ (limit : ℕ) (s : Option EncodedStrand) where
  pub fits_short : (places : ℕ) → is_short places (encoded_in s) ≡ true → FitsIn places limit (encoded_in s)
  fits_short places e far near = ltb-false places (length (encoded_in s).depths / 2) (not-true (ltb places (length (encoded_in s).depths / 2)) e)

  pub fits_all : FitsIn 1024 limit (encoded_in s)
  fits_all far near = depths_within 1024 s far

  pub fits_preview : FitsIn 256 (min limit 256) (encoded_in s)
  fits_preview far near = omega (arith, depths_within (min limit 256) s near)
