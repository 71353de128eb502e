-- A strand given as bytes, document 01's forms for the viewer and for an encoded molecule: depths and errors two bytes a position, low
-- byte first, evidence nine.
use Rattle.std.specs.Prelude.{None, Some, Option, Result, Ok, Err, ℕ, ◌/◌, ◌≤◌, ◌≡◌, Bool, true, false, cond, ◌&&◌, List, [], eqb, ltb, length, take}
use Rattle.std.specs.Option.{option_and}
use Rattle.lists.specs.Output.{put}
use Rattle.lists.specs.Part.{only_if}
use Rattle.refusals.specs.declared.Refusal.{Refusal}
use Rattle.refusals.specs.declared.Refusal.TheVariants.{Broken}
use Rattle.methylation.specs.Arrays.{EvidenceArrays, evidence_of_length}
use Rattle.methylation.specs.Methylation.{is_annotated}
use Rattle.methylation.specs.declared.ConversionPattern.{ConversionPattern}
use Rattle.methylation.specs.declared.ConversionPattern.TheVariants.{CToT, GToA}
use Rattle.methylation.specs.declared.EvidenceLengths.{EvidenceLengths}
use Rattle.vanilla_caller.specs.Strand.{arrays}
use Rattle.byte_numbers.specs.Bytes.{words16}
use Rattle.molecule_evidence.specs.Evidence.{marks_of, unconverted_of, converted_of}
use Rattle.duplex_kind.specs.Kind.{Strand, strand}
use Rattle.molecule_strand.specs.declared.EncodedAnnotation.{EncodedAnnotation}
use Rattle.molecule_strand.specs.declared.EncodedStrand.{EncodedStrand}

-- A pattern by its byte: 0 is C to T, 1 G to A. A byte above 1 is refused.
abbrev pub encoded_pattern : ℕ → ConversionPattern
encoded_pattern byte = cond (eqb byte 0) CToT GToA

-- An annotation, where there is one, by the byte of its pattern.
abbrev pub encoded_annotation : Bool → ℕ → Option ConversionPattern
encoded_annotation annotated pattern = cond annotated (Some (encoded_pattern pattern)) None

-- A pattern above 1 is refused, where there is an annotation.
abbrev pub wrong_encoded_pattern : Bool → ℕ → Bool
wrong_encoded_pattern annotated pattern = annotated && ltb 1 pattern

abbrev pub encoded_annotation_in : Bool → ℕ → Result (Option ConversionPattern) Refusal
encoded_annotation_in annotated pattern = cond (wrong_encoded_pattern annotated pattern) (Err Broken) (Ok (encoded_annotation annotated pattern))

pub record StrandBytes : Type 0 where
  pub present : Bool
  pub annotation : Option ConversionPattern
  pub bases : List ℕ
  pub quals : List ℕ
  pub depths : List ℕ
  pub errors : List ℕ
  pub evidence : List ℕ

abbrev pub strand_bytes : Bool → Option ConversionPattern → List ℕ → List ℕ → List ℕ → List ℕ → List ℕ → StrandBytes
strand_bytes present annotation bases quals depths errors evidence = record {
  present = present;
  annotation = annotation;
  bases = bases;
  quals = quals;
  depths = depths;
  errors = errors;
  evidence = evidence;
}

-- An annotation's pattern, and the bytes of its evidence; without one there is neither.
abbrev pub pattern_held : Option EncodedAnnotation → Option ConversionPattern
pattern_held None = None
pattern_held (Some m) = Some m.pattern

abbrev pub bytes_held : Option EncodedAnnotation → List ℕ
bytes_held None = []
bytes_held (Some m) = m.evidence.now

-- How long that evidence is, by its whole positions, where there is an annotation.
abbrev pub lengths_held : Option EncodedAnnotation → Option EvidenceLengths
lengths_held m = option_and (pattern_held m) (Some (evidence_of_length (length (bytes_held m) / 9)))

-- As the code has it, where it is there.
abbrev pub encoded_in : Option EncodedStrand → StrandBytes
encoded_in None = strand_bytes false None [] [] [] [] []
encoded_in (Some s) = strand_bytes true (pattern_held s.methylation) s.bases.now s.quals.now s.depths.now s.errors.now (bytes_held s.methylation)

-- The strand that the bytes stand for.
unfoldable pub strand_of : StrandBytes → Strand
strand_of s =
    strand s.present s.annotation
    (arrays s.bases s.quals (words16 s.depths) (words16 s.errors) (marks_of s.evidence) (unconverted_of s.evidence) (converted_of s.evidence))

-- The same, of each array of numbers at most so many.
unfoldable pub strand_within : ℕ → StrandBytes → Strand
strand_within n s =
    strand s.present s.annotation
    (arrays s.bases s.quals (take n (words16 s.depths)) (take n (words16 s.errors)) (take n (marks_of s.evidence)) (take n (unconverted_of s.evidence)) (take n (converted_of s.evidence)))

-- Bytes of at most 1,024 positions an array.
pub record Narrow (s : StrandBytes) : Type 0 where
  pub depths : length s.depths / 2 ≤ 1024
  pub errors : length s.errors / 2 ≤ 1024
  pub evidence : length s.evidence / 9 ≤ 1024

-- The arrays that a strand's numbers are read to.
pub record Numbers : Type 0 where
  pub depths : List ℕ
  pub errors : List ℕ
  pub marks : List ℕ
  pub unconverted : List ℕ
  pub converted : List ℕ

abbrev pub numbers : List ℕ → List ℕ → List ℕ → List ℕ → List ℕ → Numbers
numbers depths errors marks unconverted converted = record { depths = depths; errors = errors; marks = marks; unconverted = unconverted; converted = converted }

-- What some bytes stand for is read to a lent array, as many numbers as it has places.
abbrev pub ReadTo : List ℕ → List ℕ → List ℕ → Type 0
ReadTo xs before now = now ≡ put (take (length before) xs) before

-- The evidence that is looked at.
abbrev pub evidence_seen : StrandBytes → List ℕ
evidence_seen s = only_if (is_annotated s.annotation) s.evidence

-- What reading a strand's depths, errors and evidence leaves in the arrays.
pub record StrandRead (s : StrandBytes) (before now : Numbers) : Type 0 where
  pub depths : ReadTo (words16 s.depths) before.depths now.depths
  pub errors : ReadTo (words16 s.errors) before.errors now.errors
  pub marks : ReadTo (marks_of (evidence_seen s)) before.marks now.marks
  pub unconverted : ReadTo (unconverted_of (evidence_seen s)) before.unconverted now.unconverted
  pub converted : ReadTo (converted_of (evidence_seen s)) before.converted now.converted

-- The same of depths and errors alone.
pub record NumbersRead (s : StrandBytes) (depths_before errors_before depths_now errors_now : List ℕ) : Type 0 where
  pub depths : ReadTo (words16 s.depths) depths_before depths_now
  pub errors : ReadTo (words16 s.errors) errors_before errors_now

-- The strand whose numbers are at the front of some arrays: of each as many as its bytes stand for.
abbrev pub numbers_strand : StrandBytes → List ℕ → List ℕ → EvidenceArrays → Strand
numbers_strand s depths errors evidence =
    let places = length (evidence_seen s) / 9 in
    strand s.present s.annotation
    (arrays s.bases s.quals (take (length s.depths / 2) depths) (take (length s.errors / 2) errors)
    (take places evidence.marks) (take places evidence.unconverted) (take places evidence.converted))
