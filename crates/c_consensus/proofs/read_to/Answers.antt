-- `c_consensus::read_to` meets its contract: to outputs of no places nothing is read. Assumes nothing.
use mathlib.Core.Path.{refl}
use Rattle.std.proofs.Common.{rules}
use Rattle.lists.specs.Output.{put}
use Rattle.c_consensus.proofs.read_to.Goals as goal

pub returns : goal.returns
unfolding put
returns c =
    let read = c.read_strand.ensures.read in
    record { depths = read.depths; errors = read.errors; marks = search (rules, read.marks); unconverted = refl; converted = refl }
