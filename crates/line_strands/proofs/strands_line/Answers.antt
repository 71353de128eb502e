-- `line_strands::strands_line` meets its contract: what the call answered and left is what is reported. Assumes nothing.
use Rattle.std.proofs.Common.{rules}
use Rattle.std.specs.Prelude.{is_some}
use Rattle.molecule_strand.specs.Strand.{encoded_in}
use Rattle.molecule_errors.specs.Run.{run_in}
use Rattle.line_strands.proofs.Call.{from_call}
use Rattle.line_strands.proofs.strands_line.Goals as goal

pub returns : goal.returns
returns c =
    let a = c.args in
    let line = rw (c.numbered.ensures, c.count_bytes.ensures, c.count_bytes-2.ensures) at c.record_line.ensures in
    from_call a.min_reads.now (encoded_in a.m.a) (encoded_in a.m.b) (is_some a.m.reads) (run_in a.m.reads)
    (rw c.usual.ensures at c.duplex_consensus_of_bytes-made.ensures)
    line (search rules) (search rules) (search rules)
