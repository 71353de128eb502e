-- The claim of specs/Absent.antt. Assumes nothing.
use Rattle.std.proofs.Common.{None, Some, Option}
use Rattle.lists.specs.Part.{only_if}
use Rattle.methylation.specs.declared.ConversionPattern.{ConversionPattern}
use Rattle.duplex_texts.specs.Texts.{seen_of, restored_seq, strand_mm, strand_ml, duplex_texts}
use Rattle.duplex_texts.proofs.Absent.{strand_with}
use Rattle.duplex_tags.specs.Tags.{counts_of, kind_counts}
use Rattle.duplex_tags.specs.Outputs.{DuplexTaggedAs}
use Rattle.duplex_tags.specs.Absent.{NotLookedAt}

pub not_looked_at : NotLookedAt
unfolding duplex_texts restored_seq strand_mm strand_ml kind_counts counts_of only_if
not_looked_at mode bases a b texts counts texts_now counts_now r t = go a.annotation b.annotation t
  where
    go :
        (x y : Option ConversionPattern)
        → DuplexTaggedAs mode bases (seen_of (strand_with x a.evidence)) (seen_of (strand_with y b.evidence)) texts counts texts_now counts_now r
        → DuplexTaggedAs mode bases (strand_with x a.evidence) (strand_with y b.evidence) texts counts texts_now counts_now r
    go None None t = record { answered = t.answered; the_texts = t.the_texts; the_counts = t.the_counts }
    go None (Some q) t = record { answered = t.answered; the_texts = t.the_texts; the_counts = t.the_counts }
    go (Some p) None t = record { answered = t.answered; the_texts = t.the_texts; the_counts = t.the_counts }
    go (Some p) (Some q) t = record { answered = t.answered; the_texts = t.the_texts; the_counts = t.the_counts }
