-- `molecule_consensus::RecordBuffers::zeros` meets its contract: all arrays are zeros, those for evidence too. Assumes nothing.
use Rattle.molecule_consensus.proofs.RecordBuffers.zeros.Goals as goal

pub returns : goal.returns
returns c = rw (c.zeros.ensures, c.zeros-2.ensures)
