-- What the loop keeps.
use Rattle.std.proofs.Common.{◌≡◌, drop}
use Rattle.duplex_partition.specs.Partition.{first_offence}
use Rattle.duplex_partition.proofs.MiReads.first_offence.Given as goal

abbrev pub invariant-loop-read : goal.invariant-loop-read
invariant-loop-read l = first_offence l.self.bytes.now (drop l.read-index l.self.reads.now) ≡ first_offence l.self.bytes.now l.self.reads.now
