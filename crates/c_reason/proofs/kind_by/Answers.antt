-- `c_reason::kind_by` meets its contract: the depths that were read are all of them. Assumes nothing.
use mathlib.Core.Path.{◌∙◌}
use Rattle.molecule_strand.specs.Strand.{encoded_in}
use Rattle.molecule_strand.proofs.Kind.{kind_whole}
use Rattle.c_reason.proofs.Bytes.{depths_read}
use Rattle.c_reason.proofs.kind_by.Goals as goal

pub returns : goal.returns
returns c =
    let a = c.args in
    c.kind_of_depths.ensures
    ∙ kind_whole (encoded_in a.a) (encoded_in a.b) _ _ (depths_read a.a c.depths_of.ensures c.read.ensures) (depths_read a.b c.depths_of-2.ensures c.read-2.ensures)
