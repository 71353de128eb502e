-- The claims of `specs/ReadBack.antt`. Assumes nothing.
use mathlib.Core.Path.{◌≡◌, refl}
use Rattle.std.proofs.Common.{Option, Some, None}
use Rattle.duplex_partition.specs.declared.MiStrand.{MiStrand}
use Rattle.duplex_partition.specs.declared.MiStrand.TheVariants.{A, B}
use Rattle.replies.proofs.NumbersBack.{numbers_back}
use Rattle.rust_thresholds.specs.Replies.{strand_number}
use Rattle.rust_thresholds.specs.ReadBack.{strand_back, ReadBack}

strand_back_lem : (x : Option MiStrand) → strand_back (strand_number x) ≡ x
strand_back_lem (Some A) = refl
strand_back_lem (Some B) = refl
strand_back_lem None = refl

pub read_back : ReadBack
read_back = record {
  thresholds = record { refusals = λ r. refl; passes = λ t. refl; answers = λ t. refl };
  least = numbers_back.numbers;
  single = numbers_back.bits;
  strand = strand_back_lem;
}
