-- `duplex_record::plain_record` meets its contract: nothing goes to outputs of no evidence. Assumes nothing.
use mathlib.Core.Path.{refl}
use Rattle.duplex_record.proofs.Unannotated.{none_left}
use Rattle.duplex_record.proofs.plain_record.Goals as goal

pub returns-clause-made : goal.returns-clause-made
returns-clause-made c =
    let made = rw (c.plain.ensures, c.plain-2.ensures, c.none.ensures, c.none-2.ensures) at c.duplex_record.ensures.made in
    let left = none_left c.args.a c.args.b refl refl made in
    rw (left.0, left.1) at made
