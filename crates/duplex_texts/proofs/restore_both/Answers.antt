-- `duplex_texts::restore_both` meets its contract: a copy, whose front is restored by one strand and then by the other. Assumes nothing.
use mathlib.Core.Path.{refl, sym, ◌∙◌}
use Rattle.lists.proofs.Output.{put_fitting}
use Rattle.methylation_restore.specs.Restore.{strand_bases}
use Rattle.duplex_texts.specs.Texts.{strand_in, restored_seq}
use Rattle.duplex_texts.proofs.Texts.{strand_length, part_restored}
use Rattle.duplex_texts.proofs.restore_both.Goals as goal

pub returns : goal.returns
unfolding restored_seq
returns c =
    let a = strand_in c.args.a in
    let b = strand_in c.args.b in
    let bases = c.args.bases.now in
    let seq = c.args.seq.now in
    let copied = c.copy.ensures ∙ put_fitting bases seq c.requires.room in
    let first = part_restored a.annotation a.evidence.marks bases seq copied refl c.restore_by.ensures in
    let size = sym (strand_length a.annotation a.evidence.marks bases) in
    part_restored b.annotation b.evidence.marks (strand_bases a.annotation a.evidence.marks bases) seq first size c.restore_by-2.ensures
