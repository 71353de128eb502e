-- Each answer can be read back from its numbers, so that a member which stands for another breaks this, in the code and its definition
-- alike.
use Rattle.std.specs.Prelude.{Some, None, cond, eqb}
use Rattle.duplex_partition.specs.declared.Partition.{Partition}
use Rattle.replies.specs.ReadBack.{AnswersBack}
use Rattle.replies.specs.Replies.{bit_reply}
use Rattle.replies.specs.declared.Number.{Number}
use Rattle.rust_reads.specs.Replies.{partition_reply}
use Rattle.rust_reads.specs.declared.PartitionReply.{PartitionReply}

-- How many reads of A and of B, and the base MI.
abbrev pub parted_back : PartitionReply → Partition
parted_back r = record { a = r.a; b = r.b; base_mi = cond (eqb r.base_mi 0) None (Some (record { offset = r.offset; length = r.length })) }

pub record ReadBack : Type 0 where
  -- Of both gates, and of whether all reads have one orientation.
  pub yes_or_no : AnswersBack bit_reply (λ (r : Number). r.refused) (λ (r : Number). eqb r.number 1)
  pub partition : AnswersBack partition_reply (λ (r : PartitionReply). r.refused) parted_back
