-- The library's answers as numbers.
use Rattle.std.specs.Prelude.{ℕ, Option, Some, None, Result, Ok, Err}
use Rattle.refusals.specs.declared.Refusal.{Refusal}
use Rattle.refusals.specs.Refusal.{number_of}
use Rattle.duplex_min_reads.specs.declared.MinReads.{MinReads}
use Rattle.duplex_partition.specs.declared.MiStrand.{MiStrand}
use Rattle.duplex_partition.specs.declared.MiStrand.TheVariants.{A, B}
use Rattle.rust_thresholds.specs.declared.Thresholds.{Thresholds}

abbrev pub thresholds_reply : Result MinReads Refusal → Thresholds
thresholds_reply (Ok t) = record { refused = 0; total = t.total; xy = t.xy; yx = t.yx }
thresholds_reply (Err refusal) = record { refused = number_of refusal; total = 0; xy = 0; yx = 0 }

-- 0: none is named; 1: A; 2: B.
abbrev pub strand_number : Option MiStrand → ℕ
strand_number None = 0
strand_number (Some A) = 1
strand_number (Some B) = 2
