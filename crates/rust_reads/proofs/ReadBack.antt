-- The claims of `specs/ReadBack.antt`. Assumes nothing.
use mathlib.Core.Path.{◌≡◌, refl}
use Prim.Native.Nat.{ℕ}
use Rattle.std.proofs.Common.{Option, Some, None}
use Rattle.duplex_partition.specs.declared.BaseMi.{BaseMi}
use Rattle.duplex_partition.specs.declared.Partition.{Partition}
use Rattle.replies.proofs.NumbersBack.{numbers_back}
use Rattle.rust_reads.specs.Replies.{parted_reply}
use Rattle.rust_reads.specs.ReadBack.{parted_back, ReadBack}

module _ (a b : ℕ) where
  abbrev at : Option BaseMi → Partition
  at base = record { a = a; b = b; base_mi = base }

  parted_passes : (base : Option BaseMi) → (parted_reply a b base).refused ≡ 0
  parted_passes None = refl
  parted_passes (Some part) = refl

  parted_back_lem : (base : Option BaseMi) → parted_back (parted_reply a b base) ≡ at base
  parted_back_lem None = refl
  parted_back_lem (Some part) = refl

pub read_back : ReadBack
read_back = record {
  yes_or_no = numbers_back.bits;
  partition = record { refusals = λ r. refl; passes = λ x. parted_passes x.a x.b x.base_mi; answers = λ x. parted_back_lem x.a x.b x.base_mi };
}
