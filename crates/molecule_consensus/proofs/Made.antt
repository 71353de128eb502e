-- The record of what was read, as that of the bytes.
--     strand_is                  a strand whose numbers were read
--     answered_of                the record that was refused, or made with its errors counted
-- Assumes nothing.
use mathlib.Core.Path.{◌≡◌, sym, ap, ◌∙◌}
use mathlib.Core.Bool.{Bool, false, not, ◌&&◌}
use mathlib.Core.List.{List}
use Prim.Native.Nat.{ℕ}
use Rattle.std.proofs.Common.{Option, Result, Ok, Err}
use Rattle.std.specs.Prelude.{is_some}
use Rattle.refusals.specs.declared.Refusal.{Refusal}
use Rattle.refusals.specs.Refusal.{refused}
use Rattle.refusals.specs.Outcome.{answer, zeros}
use Rattle.settings.specs.declared.GivenSettings.{GivenSettings}
use Rattle.methylation.specs.Arrays.{evidence_arrays}
use Rattle.molecule_fields.specs.Widths.{is_run}
use Rattle.duplex_outputs.specs.Outputs.{RecordArrays}
use Rattle.duplex_strands.specs.Combine.{uncounted}
use Rattle.duplex_kind.specs.Kind.{Strand, count_in, leaving_in}
use Rattle.duplex_kind.specs.declared.DuplexConsensus.{DuplexConsensus}
use Rattle.duplex_kind.specs.declared.GivenReads.{GivenReads}
use Rattle.duplex_record.specs.Record.{DuplexAs}
use Rattle.duplex_consensus.specs.Consensus.{bases_of, combined_of, counted_positions}
use Rattle.duplex_consensus.proofs.Counting.{none_asked}
use Rattle.duplex_consensus.proofs.Made.{with_errors}
use Rattle.source_reads.specs.Reads.{counted_errors}
use Rattle.molecule_reads.specs.Run.{reads_of}
use Rattle.molecule_errors.proofs.Run.{Listed, refused_as, made_as}
use Rattle.molecule_strand.specs.Rows.{early_faults}
use Rattle.molecule_strand.specs.Strand.{strand_of, encoded_in, Narrow, Numbers, numbers, StrandRead, numbers_strand}
use Rattle.molecule_strand.specs.declared.EncodedStrand.{EncodedStrand}
use Rattle.molecule_strand.proofs.Strand.{looked_at, strand_whole}
use Rattle.molecule_consensus.specs.Bytes.{seen, BytesAs}
use Rattle.molecule_consensus.proofs.Bytes.{seen_is, passed_on}

-- A strand whose numbers were read to arrays of 1,024 places each.
pub strand_is :
    (s : Option EncodedStrand) {x : Strand} {now : Numbers}
    → Narrow (looked_at (encoded_in s))
    → x ≡ numbers_strand (encoded_in s) now.depths now.errors (evidence_arrays now.marks now.unconverted now.converted)
    → StrandRead (encoded_in s) (numbers zeros zeros zeros zeros zeros) now
    → x ≡ strand_of (seen (encoded_in s))
strand_is s few e h = e ∙ strand_whole (encoded_in s) h few ∙ ap strand_of (sym (seen_is s))

module _
    (lab : GivenSettings) (a b : Option EncodedStrand) (listed : Bool) (run : List ℕ) (before : RecordArrays)
    (t : (listed && not (is_run run)) ≡ false)
    {u : Unit {0}} (early : answer (refused (early_faults (encoded_in a) (encoded_in b))) (tt {0}) ≡ Ok u)
    {list : Option GivenReads} (l : Listed listed run list)
    {x y : Strand} (first : x ≡ strand_of (seen (encoded_in a))) (second : y ≡ strand_of (seen (encoded_in b)))
  where
    refused_by_row : {now : RecordArrays} {row : Refusal} → DuplexAs lab x y (is_some list) (count_in list) (leaving_in list) uncounted before now (Err row) → BytesAs lab (seen (encoded_in a)) (seen (encoded_in b)) listed run before now (Err row)
    refused_by_row d = passed_on lab a b listed run before t early (refused_as lab _ _ l (rw (first, second) at d))

    made_of :
        {now : RecordArrays} {made : Option DuplexConsensus} {us : List ℕ} {p q : Strand}
        → DuplexAs lab x y (is_some list) (count_in list) (leaving_in list) uncounted before now (Ok made)
        → p ≡ x
        → q ≡ y
        → us ≡ counted_errors (reads_of run) run (combined_of p q (counted_positions {E = Refusal} listed (Ok made))) now.errors
        → BytesAs lab (seen (encoded_in a)) (seen (encoded_in b)) listed run before (with_errors us now) (Ok made)
    made_of {now} d e f c = passed_on lab a b listed run before t early (made_as lab _ _ l before now (rw (first, second) at d) (rw (e ∙ first, f ∙ second) at c))

    -- Made or refused: where it was refused, no errors were counted.
    pub answered_of :
        {now : RecordArrays} (r : Result (Option DuplexConsensus) Refusal) {us : List ℕ} {p q : Strand}
        → DuplexAs lab x y (is_some list) (count_in list) (leaving_in list) uncounted before now r
        → p ≡ x
        → q ≡ y
        → us ≡ counted_errors (reads_of run) run (combined_of p q (counted_positions listed r)) now.errors
        → BytesAs lab (seen (encoded_in a)) (seen (encoded_in b)) listed run before (with_errors us now) r
    answered_of (Ok made) d e f c = made_of d e f c
    answered_of {now} (Err row) {us} {p} {q} d e f c =
        let kept : us ≡ now.errors = c ∙ none_asked (reads_of run) run _ (bases_of p.arrays) (bases_of q.arrays) now.errors in
        rw kept (refused_by_row d)
