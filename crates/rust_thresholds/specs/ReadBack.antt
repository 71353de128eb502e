-- Each answer can be read back from its numbers, so that a member which stands for another breaks this, in the code and its definition
-- alike.
use Rattle.std.specs.Prelude.{◌≡◌, cond, eqb, ℕ, Option, Some, None}
use Rattle.duplex_min_reads.specs.declared.MinReads.{MinReads}
use Rattle.duplex_partition.specs.declared.MiStrand.{MiStrand}
use Rattle.duplex_partition.specs.declared.MiStrand.TheVariants.{A, B}
use Rattle.replies.specs.ReadBack.{AnswersBack}
use Rattle.replies.specs.Replies.{bit_reply, number_reply}
use Rattle.replies.specs.declared.Number.{Number}
use Rattle.rust_thresholds.specs.Replies.{thresholds_reply, strand_number}
use Rattle.rust_thresholds.specs.declared.Thresholds.{Thresholds}

abbrev pub thresholds_back : Thresholds → MinReads
thresholds_back r = record { total = r.total; xy = r.xy; yx = r.yx }

abbrev pub strand_back : ℕ → Option MiStrand
strand_back number = cond (eqb number 1) (Some A) (cond (eqb number 2) (Some B) None)

pub record ReadBack : Type 0 where
  pub thresholds : AnswersBack thresholds_reply (λ (r : Thresholds). r.refused) thresholds_back
  pub least : AnswersBack number_reply (λ (r : Number). r.refused) (λ (r : Number). r.number)
  pub single : AnswersBack bit_reply (λ (r : Number). r.refused) (λ (r : Number). eqb r.number 1)
  pub strand : (x : Option MiStrand) → strand_back (strand_number x) ≡ x
