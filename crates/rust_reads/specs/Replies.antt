-- The library's answers as numbers.
use Rattle.std.specs.Prelude.{ℕ, ◌≡◌, Option, Some, None, Result, Ok, Err, List}
use Rattle.refusals.specs.declared.Refusal.{Refusal}
use Rattle.refusals.specs.Refusal.{number_of}
use Rattle.duplex_partition.specs.Partition.{PartitionedAs}
use Rattle.duplex_partition.specs.declared.BaseMi.{BaseMi}
use Rattle.duplex_partition.specs.declared.MiPart.{MiPart}
use Rattle.duplex_partition.specs.declared.Partition.{Partition}
use Rattle.rust_reads.specs.declared.PartitionReply.{PartitionReply}

-- base_mi 0: no reads; 1: the part.
abbrev pub parted_reply : ℕ → ℕ → Option BaseMi → PartitionReply
parted_reply a b None = record { refused = 0; base_mi = 0; a = a; b = b; offset = 0; length = 0 }
parted_reply a b (Some part) = record { refused = 0; base_mi = 1; a = a; b = b; offset = part.offset; length = part.length }

abbrev pub partition_reply : Result Partition Refusal → PartitionReply
partition_reply (Ok parted) = parted_reply parted.a parted.b parted.base_mi
partition_reply (Err refusal) = record { refused = number_of refusal; base_mi = 0; a = 0; b = 0; offset = 0; length = 0 }

-- What `gedrashiw_partition_records_by_strand` answers and leaves in its two lists: as the library's call, with its answer as numbers.
pub record PartitionRepliedAs (reads : List MiPart) (bytes a b a_now b_now : List ℕ) (r : PartitionReply) : Type 0 where
  pub told : Result Partition Refusal
  pub answered : r ≡ partition_reply told
  pub lists : PartitionedAs reads bytes a b a_now b_now told
