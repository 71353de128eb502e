-- What the parts of `gedrashiw_methylation_tags` promise each other.
use Rattle.std.specs.Prelude.{ℕ, ◌/◌, ◌≡◌, true, false, Option, Result, Ok, Err, List}
use Rattle.refusals.specs.declared.Refusal.{Refusal}
use Rattle.refusals.specs.declared.Refusal.TheVariants.{Broken}
use Rattle.methylation.specs.Choices.{mode_of}
use Rattle.molecule_strand.specs.Strand.{pattern_held, bytes_held}
use Rattle.molecule_strand.specs.declared.EncodedAnnotation.{EncodedAnnotation}
use Rattle.duplex_texts.specs.Texts.{StrandAnnotation}
use Rattle.duplex_texts.specs.declared.TextLengths.{TextLengths}
use Rattle.duplex_tags.specs.declared.KindLengths.{KindLengths}
use Rattle.rust_methylation.specs.Entries.{DuplexArrays}
use Rattle.c_tags.specs.Tags.{AnnotationBytes, is_broken, wrong_given, strand_of, strand_given, TagsBytesAs}
use Rattle.c_tags.specs.declared.Given.{Given}

-- The strand that an annotation with its bytes stands for.
abbrev pub strand_seen : Option EncodedAnnotation → StrandAnnotation
strand_seen s = strand_of (pattern_held s) (bytes_held s)

-- What is read of a strand: 13, or the strand that is given.
abbrev pub EvidenceReadAs : AnnotationBytes → Result (Option EncodedAnnotation) Refusal → Type 0
EvidenceReadAs s (Ok e) = (is_broken s ≡ false) × (strand_seen e ≡ strand_given s)
EvidenceReadAs s (Err row) = (is_broken s ≡ true) × (row ≡ Broken)

-- What is read of all that is given: 13, or both strands and the chemistry.
abbrev pub ReadAs : AnnotationBytes → AnnotationBytes → ℕ → Result Given Refusal → Type 0
ReadAs a b mode (Ok g) = (wrong_given a b mode ≡ false) × (strand_seen g.a ≡ strand_given a) × (strand_seen g.b ≡ strand_given b) × (g.mode ≡ mode_of mode)
ReadAs a b mode (Err row) = (wrong_given a b mode ≡ true) × (row ≡ Broken)

-- What is answered and left of a call that was read so: what refuses it changes nothing.
abbrev pub TagsReadAs : Result Given Refusal → List ℕ → DuplexArrays → DuplexArrays → Result TextLengths Refusal → Type 0
TagsReadAs (Ok g) bases before now told = TagsBytesAs g.mode bases (strand_seen g.a) (strand_seen g.b) before now told
TagsReadAs (Err row) bases before now told = (told ≡ Err row) × (now ≡ before)

-- How many counts outputs of so many bytes hold.
abbrev pub counts_in : KindLengths → KindLengths
counts_in bytes = record { a = bytes.a / 2; b = bytes.b / 2; both = bytes.both / 2 }
