-- `duplex_texts::strand_texts` meets its contract: nothing without an annotation, and with one the text and the ML bytes. Assumes nothing.
use mathlib.Core.Path.{ap}
use Rattle.methylation.specs.Annotation.{pattern_held}
use Rattle.duplex_texts.specs.Texts.{strand_in}
use Rattle.duplex_texts.proofs.Texts.{no_texts, some_texts}
use Rattle.duplex_texts.proofs.strand_texts.Goals as goal

pub returns-in_default : goal.returns-in_default
returns-in_default c = no_texts _ _ _ _ (strand_in c.args.s) (ap pattern_held c.in_default.is) c.default.ensures

pub returns : goal.returns
returns c =
    let lengths = rw (c.flatten.ensures, c.ok.ensures.value) at c.unwrap_or_default.ensures in
    some_texts _ _ _ _ c.in-Some.is c.requires.as_long c.requires.room c.build_mm_ml_tags.ensures lengths
