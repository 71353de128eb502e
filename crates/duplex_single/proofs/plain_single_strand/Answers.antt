-- `duplex_single::plain_single_strand` meets its contract: what it writes of the strand without its annotation. Assumes nothing.
use Rattle.std.proofs.Common.{rules, None}
use Rattle.lists.specs.Part.{only_if}
use Rattle.vanilla_caller.specs.Strand.{arrays_in}
use Rattle.duplex_single.proofs.Absent.{not_looked_at}
use Rattle.duplex_single.proofs.plain_single_strand.Goals as goal

pub returns-clause-single : goal.returns-clause-single
unfolding only_if
returns-clause-single c =
    let made = not_looked_at None (arrays_in c.args.strand) _ _ _ (rw c.plain.ensures at c.gated_single_strand.ensures.single) in
    search (rules, made)
