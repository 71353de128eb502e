-- `c_tags::write_summed` meets its contract: the sums are written, all of them. Assumes nothing.
use Rattle.c_tags.proofs.Bytes.{summed}
use Rattle.c_tags.proofs.write_summed.Goals as goal

pub returns : goal.returns
returns c =
    summed c.args.positions c.args.a.now c.args.b.now c.args.out.now c.requires.fits c.requires.few.0 c.requires.few.1
    c.summed_counts.ensures.out_after
    c.front.ensures
    c.write.ensures
