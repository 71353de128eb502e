-- `duplex_texts::restore_by` meets its contract. Assumes nothing.
use Rattle.duplex_texts.proofs.Texts.{restored_by}
use Rattle.duplex_texts.proofs.restore_by.Goals as goal

pub returns-in-Some : goal.returns-in-Some
returns-in-Some c = restored_by c.args.seq.now c.in-Some.is c.requires c.restore_unconverted_bases.ensures.consensus_bases_after
