-- `c_tags::write_held` meets its contract: what is held is written, all of it. Assumes nothing.
use Rattle.c_tags.proofs.Bytes.{counted}
use Rattle.c_tags.proofs.write_held.Goals as goal

pub returns : goal.returns
returns c =
    counted c.args.counts.now c.args.out.now c.requires c.tag_counts.ensures.out_after c.front.ensures c.write.ensures
