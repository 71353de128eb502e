-- `molecule_evidence::write_evidence` meets its contract: its loop writes the bytes of one position after another. Assumes nothing.
use Rattle.byte_numbers.proofs.Groups.{begin_write, next_write, done_write}
use Rattle.molecule_evidence.specs.Evidence.{evidence_bytes}
use Rattle.molecule_evidence.proofs.Evidence.{length_position}
use Rattle.molecule_evidence.proofs.write_evidence.Invariants.{at}
use Rattle.molecule_evidence.proofs.write_evidence.Goals as goal

pub loop-i-init : goal.loop-i-init
loop-i-init c =
    let e = c.args.evidence in
    begin_write 9 (at e.unconverted.now e.converted.now) 0 _ _ (λ mark i. length_position mark _ _) c.min-n.ensures

pub loop-i-preserved : goal.loop-i-preserved
loop-i-preserved c = next_write c.loop-i.invariant c.loop-i-test.true (rw (c.get_or.ensures, c.get_or-in-loop-i.ensures) at c.store_position.ensures)

pub returns : goal.returns
unfolding evidence_bytes
returns c = done_write c.loop-i.invariant c.loop-i-test.false
