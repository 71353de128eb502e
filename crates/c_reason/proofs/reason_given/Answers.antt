-- `c_reason::reason_given` meets its contract: it is what is said of the kind. Assumes nothing.
use mathlib.Core.Path.{◌∙◌}
use Rattle.molecule_strand.specs.Strand.{encoded_in}
use Rattle.c_reason.proofs.Bytes.{by_kind}
use Rattle.c_reason.proofs.reason_given.Goals as goal

pub returns : goal.returns
returns c =
    let a = c.args in
    rw (c.kind_by.ensures, c.shown_at-at_a.ensures, c.shown_at-at_b.ensures) at c.reason_in.ensures ∙ by_kind (encoded_in a.a) (encoded_in a.b) a.position
