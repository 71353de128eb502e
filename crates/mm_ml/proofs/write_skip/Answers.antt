-- `mm_ml::write_skip` meets its contract: the comma is set at the place, and the count copied behind it. Assumes nothing.
use Rattle.decimal.specs.Decimal.{decimal}
use Rattle.mm_ml.proofs.Strand.{after_comma}
use Rattle.mm_ml.proofs.write_skip.Goals as goal

pub returns-clause-mm_after : goal.returns-clause-mm_after
returns-clause-mm_after c = after_comma c.args.mm.now c.args.at (decimal c.args.skip) c.requires c.write_decimal.ensures.out_after
