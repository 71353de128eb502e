-- The line of what the library's call answered and left in its buffers. Assumes nothing.
use mathlib.Core.Path.{◌≡◌, subst}
use mathlib.Core.Bool.{Bool}
use mathlib.Core.List.{List}
use Prim.Native.Nat.{ℕ}
use native.Mathlib.Omega.{arith}
use lib.ListN.{length}
use Rattle.molecule_strand.specs.Strand.{StrandBytes}
use Rattle.duplex_outputs.specs.Outputs.{RecordArrays, record_of}
use Rattle.std.proofs.Common.{Option, Result}
use Rattle.settings.specs.Settings.{usual}
use Rattle.refusals.specs.declared.Refusal.{Refusal}
use Rattle.refusals.specs.Outcome.{by_number, zeros}
use Rattle.duplex_kind.specs.declared.DuplexConsensus.{DuplexConsensus}
use Rattle.molecule_consensus.specs.Bytes.{seen, BytesAs}
use Rattle.molecule_consensus.proofs.Ample.{Ample, zeros_ample, inputs_alone}
use Rattle.line_format.specs.Line.{Fits, columns}
use Rattle.line_report.specs.Report.{strands}
use Rattle.line_record.specs.Line.{answer_text, Within, Holds, HoldsOf}
use Rattle.line_record.specs.declared.Line.{Line}
use Rattle.line_strands.specs.Strands.{counts_of, strands_text}

-- The buffers as the call begins.
abbrev pub buffers : RecordArrays
buffers = record_of zeros zeros zeros zeros zeros zeros zeros zeros zeros

ample : Ample buffers
ample = zeros_ample

module _ (ts : List ℕ) (a b : StrandBytes) (listed : Bool) (run : List ℕ) {now : RecordArrays} {made : Result (Option DuplexConsensus) Refusal} (e : BytesAs usual (seen a) (seen b) listed run buffers now made) where
  abbrev found : List ℕ
  found = answer_text (by_number made) (strands (counts_of a) (counts_of b)) ts (columns now.bases now.quals now.errors)

  same_text : found ≡ strands_text ts a b listed run
  unfolding strands_text
  same_text = rw (e.answered, e.outputs.bases, e.outputs.quals, e.outputs.errors, inputs_alone (seen a) (seen b) listed run buffers ample)

  -- The text before the lengths, so that wrong columns are refused for what they print.
  pub from_call : {r : Line} → HoldsOf found (columns now.bases now.quals now.errors) r → length now.bases ≡ 1024 → length now.quals ≡ 1024 → length now.errors ≡ 1024 → Holds (strands_text ts a b listed run) r
  from_call {r} h b_size q_size e_size = record {
    written = subst (λ (t : List ℕ). Within t r) same_text h.written;
    fits = subst Fits same_text (h.fits record { bases = omega arith; quals = omega arith; errors = omega arith });
  }
