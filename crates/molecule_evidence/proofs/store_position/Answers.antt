-- `molecule_evidence::store_position` meets its contract: the mark and the bytes of two counts, one after another. Assumes nothing.
use mathlib.Core.Path.{◌∙◌}
use native.Mathlib.Omega.{arith}
use Rattle.molecule_evidence.proofs.Evidence.{position_stored}
use Rattle.molecule_evidence.proofs.store_position.Goals as goal

pub returns : goal.returns
returns c =
    let a = c.args in
    position_stored a.out.now a.at a.evidence.mark a.evidence.unconverted a.evidence.converted c.requires (omega arith) (omega arith) (c.copy_from_slice.ensures.after ∙ c.to_le_bytes.ensures) (c.copy_from_slice-2.ensures.after ∙ c.to_le_bytes-2.ensures)
