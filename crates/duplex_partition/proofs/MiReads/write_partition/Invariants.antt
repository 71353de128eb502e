-- What the loop keeps.
use Rattle.lists.proofs.Indices.{Picking}
use Rattle.duplex_partition.specs.Partition.{read_strand, is_a, is_b}
use Rattle.duplex_partition.proofs.MiReads.write_partition.Given as goal

abbrev pub invariant-loop-i : goal.invariant-loop-i
invariant-loop-i l =
    Picking (λ read. is_a (read_strand l.self.bytes.now read)) l.self.reads.now l.initial.a_out l.i l.a_out l.a
    × Picking (λ read. is_b (read_strand l.self.bytes.now read)) l.self.reads.now l.initial.b_out l.i l.b_out l.b
