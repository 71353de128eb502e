-- The text for two strands given as bytes and a list of reads that is a run, document 01's line program: what the library's call on
-- them answers by the usual settings, and leaves in output buffers of 1,024 places that start as zeros.
use Rattle.std.specs.Prelude.{ℕ, Bool, Option, Result, List}
use Rattle.refusals.specs.declared.Refusal.{Refusal}
use Rattle.refusals.specs.Outcome.{answer, after, by_number, zeros}
use Rattle.settings.specs.Settings.{usual}
use Rattle.byte_numbers.specs.Bytes.{words16}
use Rattle.molecule_strand.specs.Strand.{StrandBytes, strand_of}
use Rattle.duplex_outputs.specs.Outputs.{RecordArrays}
use Rattle.duplex_kind.specs.Kind.{kind_of}
use Rattle.duplex_kind.specs.declared.DuplexConsensus.{DuplexConsensus}
use Rattle.molecule_consensus.specs.Bytes.{seen, inputs_refused, bytes_record}
use Rattle.line_format.specs.Line.{columns}
use Rattle.line_report.specs.Report.{Counts, counts, strands}
use Rattle.line_record.specs.Line.{answer_text}

-- The refusal of the call, if any. The outputs are long enough for every record.
abbrev pub refusal_of : StrandBytes → StrandBytes → Bool → List ℕ → Option Refusal
refusal_of a b listed run = inputs_refused (seen a) (seen b) listed run

abbrev pub answer_of : StrandBytes → StrandBytes → Bool → List ℕ → Result (Option DuplexConsensus) Refusal
answer_of a b listed run = answer (refusal_of a b listed run) (kind_of (strand_of (seen a)) (strand_of (seen b)))

abbrev pub record_in : StrandBytes → StrandBytes → Bool → List ℕ → RecordArrays
record_in a b listed run = bytes_record usual (seen a) (seen b) listed run

-- The depths and errors of a strand.
abbrev pub counts_of : StrandBytes → Counts
counts_of s = counts (words16 s.depths) (words16 s.errors)

unfoldable pub strands_text : List ℕ → StrandBytes → StrandBytes → Bool → List ℕ → List ℕ
strands_text thresholds a b listed run =
    answer_text (by_number (answer_of a b listed run)) (strands (counts_of a) (counts_of b)) thresholds
    (columns
    (after (refusal_of a b listed run) (record_in a b listed run).bases zeros)
    (after (refusal_of a b listed run) (record_in a b listed run).quals zeros)
    (after (refusal_of a b listed run) (record_in a b listed run).errors zeros))
