-- The methylation evidence of a simplex consensus, from its source reads and the reference: at each position a mark and two counts.
use Rattle.std.specs.Prelude.{ℕ, ◌+◌, ◌<◌, ◌≤◌, ◌≡◌, Bool, true, cond, not, ◌&&◌, Option, Some, None, Result, List, [], ◌∷◌, eqb, length, get_or, option_map}
use Rattle.lists.specs.Count.{count_of}
use Rattle.lists.specs.Output.{put}
use Rattle.lists.specs.Table.{tabulate}
use Rattle.refusals.specs.declared.Refusal.{Refusal}
use Rattle.refusals.specs.declared.Refusal.TheVariants.{Broken, TooLong, TooManyReads, PartOutside, OutputTooShort}
use Rattle.refusals.specs.Refusal.{Fault, ◌if◌, too_long, too_many, too_short, refused}
use Rattle.refusals.specs.Outcome.{answer}
use Rattle.dna.specs.Dna.{upper}
use Rattle.methylation.specs.Arrays.{EvidenceArrays, evidence_arrays, evidence_lengths, three, LeavesEvidence}
use Rattle.methylation.specs.Methylation.{pattern_bases}
use Rattle.methylation.specs.declared.ConversionPattern.{ConversionPattern}
use Rattle.replies.specs.Replies.{count_reply}
use Rattle.replies.specs.declared.Count.{Count}
use Rattle.source_reads.specs.Reads.{reaches, any_leaves}
use Rattle.source_reads.specs.declared.SourceRead.{SourceRead}
use Rattle.simplex_methylation.specs.declared.Common.{Common}

-- What all reads have in common: the pattern, the bytes of their bases, the reference bases by position, and the bytes of their
-- alignment marks, or none where every position is counted.
pub record Setting : Type 0 where
  pub pattern : ConversionPattern
  pub bytes : List ℕ
  pub reference : List ℕ
  pub aligned : Option (List ℕ)

abbrev pub setting : ConversionPattern → List ℕ → List ℕ → List ℕ → Bool → Setting
setting pattern bytes reference aligned everywhere = record { pattern = pattern; bytes = bytes; reference = reference; aligned = cond everywhere None (Some aligned) }

-- That of the values lent for it.
abbrev pub setting_in : Common → Setting
setting_in c = record { pattern = c.pattern; bytes = c.list.bytes.now; reference = c.reference.now; aligned = option_map (λ marks. marks.now) c.aligned }

-- A base is a capital letter, or its lower case.
unfoldable pub is_letter : ℕ → ℕ → Bool
is_letter letter base = eqb (upper base) letter

-- A reference base is the given letter at position i. The byte 0 stands for none, as at an insertion, and past the end there is none.
unfoldable pub informative : ℕ → List ℕ → ℕ → Bool
informative letter reference i = is_letter letter (get_or reference i 0)

-- Base i from an offset on is the letter.
unfoldable pub base_is : ℕ → List ℕ → ℕ → ℕ → Bool
base_is letter bytes offset i = is_letter letter (get_or bytes (offset + i) 0)

-- Base i of the read at an offset is aligned. Its marks lie as far into their bytes as its bases do into theirs; past the end none is.
unfoldable pub is_aligned : List ℕ → ℕ → ℕ → Bool
is_aligned aligned offset i = not (eqb (get_or aligned (offset + i) 0) 0)

-- The read at an offset is looked at in position i: the position is informative, and the read aligned there.
unfoldable pub looked : ℕ → List ℕ → List ℕ → ℕ → ℕ → Bool
looked letter reference aligned offset i = informative letter reference i && is_aligned aligned offset i

-- It counts there whatever its base: by the marks, and everywhere without them.
abbrev pub counts_at : Option (List ℕ) → ℕ → List ℕ → ℕ → ℕ → Bool
counts_at None letter reference offset i = true
counts_at (Some aligned) letter reference offset i = looked letter reference aligned offset i

-- The read counts for a letter at position i: it has a base there, is looked at there or all positions are, and the base is the letter.
unfoldable pub shown : Setting → ℕ → ℕ → SourceRead → Bool
shown s letter i read =
    reaches s.bytes i read
    && (counts_at s.aligned (pattern_bases s.pattern).reference s.reference read.offset i
    && base_is letter s.bytes read.offset i)

-- Base i of a read's bases is the letter; and one that is aligned is it, at an informative position.
abbrev pub shows : ℕ → List ℕ → ℕ → Bool
shows letter bases i = is_letter letter (get_or bases i 0)

abbrev pub shows_aligned : ℕ → ℕ → List ℕ → List ℕ → List ℕ → ℕ → Bool
shows_aligned base_of letter reference aligned bases i = (informative base_of reference i && not (eqb (get_or aligned i 0) 0)) && shows letter bases i

-- The marks of n positions, 1 where informative.
unfoldable pub marks_of : ℕ → List ℕ → ℕ → List ℕ
marks_of letter reference n = tabulate n (λ i. cond (informative letter reference i) 1 0)

-- How many reads count for a letter, at each of n positions.
unfoldable pub counts_of : Setting → ℕ → List SourceRead → ℕ → List ℕ
counts_of s letter reads n = tabulate n (λ i. count_of (shown s letter i) reads)

-- Counts at n positions, one more at each position that is met.
unfoldable pub added : ℕ → (ℕ → Bool) → List ℕ → List ℕ
added n met so_far = tabulate n (λ i. cond (met i) (get_or so_far i 0 + 1) (get_or so_far i 0))

-- Each of the first n counts is below a limit.
abbrev pub Below : ℕ → ℕ → List ℕ → Type 0
Below limit n so_far = (i : ℕ) → i < n → get_or so_far i 0 < limit

-- One more of at most 1,024 reads can be added to the first n counts.
pub record Countable (n : ℕ) (so_far : List ℕ) : Type 0 where
  pub room : n ≤ length so_far
  pub below : Below 1024 n so_far

-- Whether the pattern stands for nothing, the length of the consensus, the number of reads, whether a read's part leaves its bytes, and the lengths of the outputs.
abbrev pub simplex_faults : Bool → ℕ → ℕ → Bool → List ℕ → List Fault
simplex_faults wrong n reads leaving outs =
    (Broken if wrong)
    ∷ (TooLong if too_long (n ∷ []))
    ∷ (TooManyReads if too_many (reads ∷ []))
    ∷ (PartOutside if leaving)
    ∷ (OutputTooShort if too_short n outs)
    ∷ []

-- The marks and counts of n positions.
abbrev pub evidence : Setting → List SourceRead → ℕ → EvidenceArrays
evidence s reads n =
    let letters = pattern_bases s.pattern in
    evidence_arrays (marks_of letters.reference s.reference n) (counts_of s letters.unconverted reads n) (counts_of s letters.converted reads n)

-- What a call of `add_read` leaves of the two counts.
pub record AddedAs (s : Setting) (read : SourceRead) (n : ℕ) (unconverted converted unconverted' converted' : List ℕ) : Type 0 where
  pub unconverted_ones : unconverted' ≡ put (added n (λ i. shown s (pattern_bases s.pattern).unconverted i read) unconverted) unconverted
  pub converted_ones : converted' ≡ put (added n (λ i. shown s (pattern_bases s.pattern).converted i read) converted) converted

-- The refusal, if any.
abbrev pub simplex_refused : Bool → Setting → List SourceRead → ℕ → EvidenceArrays → Option Refusal
simplex_refused wrong s reads n before = refused (simplex_faults wrong n (length reads) (any_leaves (length s.bytes) reads) (three (evidence_lengths before)))

-- What a call of `annotate_simplex_methylation` answers and leaves.
pub record EvidencedAs (wrong : Bool) (s : Setting) (reads : List SourceRead) (n : ℕ) (before now : EvidenceArrays) (r : Result ℕ Refusal) : Type 0 where
  pub answered : r ≡ answer (simplex_refused wrong s reads n before) n
  pub left : LeavesEvidence (simplex_refused wrong s reads n before) (evidence s reads n) before now

-- The same of `gedrashiw_annotate_simplex_methylation`, with the answer as numbers.
pub record AnnotatedAs (wrong : Bool) (s : Setting) (reads : List SourceRead) (n : ℕ) (before now : EvidenceArrays) (r : Count) : Type 0 where
  pub answered : r ≡ count_reply (answer (simplex_refused wrong s reads n before) n)
  pub left : LeavesEvidence (simplex_refused wrong s reads n before) (evidence s reads n) before now
