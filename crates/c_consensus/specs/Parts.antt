-- What the parts of the call from bytes to bytes promise each other.
use Rattle.std.specs.Prelude.{ℕ, ◌/◌, ◌≡◌, ◌≤◌, Bool, true, false, cond, not, Option, Some, None, Result, Ok, Err, List, [], ◌∷◌, eqb, ltb, length, take, replicate}
use Rattle.lists.specs.Output.{put}
use Rattle.lists.specs.Table.{tabulate}
use Rattle.refusals.specs.declared.Refusal.{Refusal}
use Rattle.refusals.specs.declared.Refusal.TheVariants.{Broken, TooManyReads}
use Rattle.refusals.specs.Refusal.{◌if◌, code, refused, too_many}
use Rattle.refusals.specs.Outcome.{answer}
use Rattle.settings.specs.Settings.{given_of}
use Rattle.settings.specs.declared.GivenSettings.{GivenSettings}
use Rattle.settings.specs.declared.Settings.{Settings}
use Rattle.methylation.specs.Arrays.{evidence_arrays}
use Rattle.methylation.specs.declared.ConversionPattern.{ConversionPattern}
use Rattle.vanilla_caller.specs.Strand.{Arrays, arrays, annotation_in, arrays_in}
use Rattle.vanilla_caller.specs.declared.VanillaConsensusRead.{VanillaConsensusRead}
use Rattle.byte_numbers.specs.Bytes.{words16}
use Rattle.molecule_evidence.specs.Evidence.{marks_of, marked_bytes, positions_marked}
use Rattle.molecule_strand.specs.Strand.{StrandBytes, Numbers, numbers, numbers_strand, strand_of}
use Rattle.molecule_fields.specs.Widths.{is_run}
use Rattle.molecule_reads.specs.Run.{reads_of}
use Rattle.duplex_molecule.specs.declared.CtInput.{CtInput}
use Rattle.duplex_arrays.specs.Positions.{unless_short, combined_errors, uncounted, errors_short}
use Rattle.duplex_evidence.specs.Kept.{mark_of, marks_short}
use Rattle.duplex_kind.specs.Kind.{Strand, strand}
use Rattle.duplex_kind.specs.Limit.{lengths_of, over_in, length_faults}
use Rattle.duplex_kind.specs.declared.DuplexConsensus.{DuplexConsensus}
use Rattle.duplex_consensus.specs.Consensus.{combined_of, counted_positions}
use Rattle.source_reads.specs.Reads.{counted_errors}

-- A call's own arrays for a strand's depths, errors and marks, of n places each, as it begins with them. There is none for counts.
abbrev pub zero_numbers : ℕ → Numbers
zero_numbers n = numbers (replicate n 0) (replicate n 0) (replicate n 0) [] []

-- The strand whose numbers are at their front.
abbrev pub strand_read : StrandBytes → Numbers → Strand
strand_read s n = numbers_strand s n.depths n.errors (evidence_arrays n.marks [] [])

-- A strand as the code has it, whether or not it is there.
pub record StrandIs (s : Strand) (read : VanillaConsensusRead) : Type 0 where
  pub annotation : annotation_in read ≡ s.annotation
  pub arrays : arrays_in read ≡ s.arrays

-- The kind of a record and the settings that it is made by, or what refuses either.
abbrev pub Settled : Type 0
Settled = Result (Option DuplexConsensus × GivenSettings) Refusal

-- As the code has it.
abbrev pub settled_by : Result (Option DuplexConsensus × Settings) Refusal → Settled
settled_by (Ok s) = Ok (s.0, given_of s.1)
settled_by (Err row) = Err row

-- The settings are refused before the lengths, and these before the kind.
abbrev pub both_of : Result GivenSettings Refusal → Result (Unit {0}) Refusal → Result (Option DuplexConsensus) Refusal → Settled
both_of (Err row) within kind = Err row
both_of (Ok lab) (Err row) kind = Err row
both_of (Ok lab) (Ok passed) (Err row) = Err row
both_of (Ok lab) (Ok passed) (Ok kind) = Ok (kind, lab)

-- The kind's own 13 comes before the settings' rows.
abbrev pub is_broken : Result (Option DuplexConsensus) Refusal → Bool
is_broken (Ok kind) = false
is_broken (Err row) = eqb (code row) (code Broken)

abbrev pub settled : Result GivenSettings Refusal → Result (Unit {0}) Refusal → Result (Option DuplexConsensus) Refusal → Settled
settled tested within kind = cond (is_broken kind) (Err Broken) (both_of tested within kind)

-- The rows by lengths, of strands whose numbers are bytes.
abbrev pub within_limit : ℕ → StrandBytes → StrandBytes → Result (Unit {0}) Refusal
within_limit limit a b = answer (refused (length_faults limit (lengths_of (strand_of a)) (lengths_of (strand_of b)))) tt

-- The same, or row 9 behind its rows.
abbrev pub unless_many : Bool → Settled → Settled
unless_many many (Ok s) = answer (refused ((TooManyReads if many) ∷ [])) s
unless_many many (Err row) = Err row

-- By a run of reads too, where there is a list.
abbrev pub with_list : Bool → List ℕ → Settled → Settled
with_list listed run s = cond listed (cond (is_run run) (unless_many (too_many (length (reads_of run) ∷ [])) s) (Err Broken)) s

-- A strand of the code that is there.
abbrev pub given : VanillaConsensusRead → Strand
given s = strand true (annotation_in s) (arrays_in s)

-- What is left in an array for errors: those of the list's reads are counted at each position of a record of two strands.
abbrev pub list_errors : Bool → List ℕ → Result (Option DuplexConsensus) Refusal → VanillaConsensusRead → VanillaConsensusRead → List ℕ → List ℕ
list_errors listed run kind a b errors = cond listed (counted_errors (reads_of run) run (combined_of (given a) (given b) (counted_positions true kind)) errors) errors

-- The estimate is written there where there is no list.
abbrev pub errors_left : CtInput → Bool → ℕ → Arrays → Arrays → List ℕ → List ℕ
errors_left ct listed n a b errors = cond listed errors (put (unless_short (errors_short n a b errors) (combined_errors false uncounted n ct a b)) errors)

-- The marks that a strand of this pattern keeps, written over others.
abbrev pub marks_left : ℕ → CtInput → Option ConversionPattern → List ℕ → List ℕ → List ℕ → List ℕ
marks_left n ct annotation a b marks = put (unless_short (marks_short n a b marks) (tabulate n (mark_of ct annotation a b))) marks

-- What is left of a strand's evidence, by its annotation.
abbrev pub kept_left : Option ConversionPattern → List ℕ → List ℕ → List ℕ → List ℕ
kept_left None marks evidence out = out
kept_left (Some pattern) marks evidence out = put (marked_bytes (positions_marked marks evidence out) marks evidence) out

abbrev pub KeptAs : ℕ → CtInput → StrandBytes → List ℕ → List ℕ → List ℕ → List ℕ → List ℕ → Type 0
KeptAs n ct s a b marks before now = now ≡ kept_left s.annotation (take n (marks_left n ct s.annotation a b marks)) s.evidence before

-- A strand that rows 7 and 19 let pass has no more depths.
abbrev pub FitsIn : ℕ → ℕ → StrandBytes → Type 0
FitsIn n limit s = over_in 1024 (lengths_of (strand_of s)) ≡ false → over_in limit (lengths_of (strand_of s)) ≡ false → length s.depths / 2 ≤ n

abbrev pub is_short : ℕ → StrandBytes → Bool
is_short places s = not (ltb places (length s.depths / 2))

-- A strand without its counts of evidence.
abbrev pub marked_strand : StrandBytes → Strand
marked_strand s = strand s.present s.annotation (arrays s.bases s.quals (words16 s.depths) (words16 s.errors) (marks_of s.evidence) [] [])
