-- Strands without annotation leave nothing in the evidence's outputs where nothing stood. Assumes nothing.
use mathlib.Core.Path.{◌≡◌, refl, sym, ◌∙◌}
use mathlib.Core.Bool.{Bool}
use mathlib.Core.List.{[]}
use Prim.Native.Nat.{ℕ}
use Rattle.std.proofs.Common.{Option, Some, None, Result}
use Rattle.lists.specs.Part.{only_if}
use Rattle.refusals.specs.declared.Refusal.{Refusal}
use Rattle.settings.specs.declared.GivenSettings.{GivenSettings}
use Rattle.methylation.specs.Arrays.{EvidenceArrays, evidence_arrays, LeavesEvidence}
use Rattle.methylation.specs.Outputs.{no_evidence}
use Rattle.vanilla_caller.specs.declared.VanillaConsensusRead.{VanillaConsensusRead}
use Rattle.duplex_outputs.specs.Outputs.{RecordArrays}
use Rattle.duplex_strands.specs.Combine.{kept_marks, kept_unconverted, kept_converted}
use Rattle.duplex_kind.specs.Kind.{Strand, kind_of}
use Rattle.duplex_kind.specs.declared.DuplexConsensus.{DuplexConsensus}
use Rattle.duplex_kind.specs.declared.DuplexConsensus.TheVariants.{Ab, Ba, Both}
use Rattle.duplex_record.specs.Parts.{plain_of}
use Rattle.duplex_record.specs.Record.{record_arrays, DuplexAs}
use Rattle.duplex_record.proofs.Untouched.{after_none}

unannotated : (s : Option VanillaConsensusRead) → (plain_of s).annotation ≡ None
unannotated None = refl
unannotated (Some s) = refl

none_written : (lab : GivenSettings) (a b : Strand) (listed : Bool) (f : ℕ → ℕ) (k : Option DuplexConsensus) → a.annotation ≡ None → b.annotation ≡ None → ((record_arrays lab a b listed f k).a ≡ no_evidence) × ((record_arrays lab a b listed f k).b ≡ no_evidence)
unfolding kept_marks kept_unconverted kept_converted only_if
none_written lab a b listed f None e g = (refl, refl)
none_written lab a b listed f (Some (Ab n)) e g = rw e (refl, refl)
none_written lab a b listed f (Some (Ba n)) e g = rw g (refl, refl)
none_written lab a b listed f (Some (Both n)) e g = rw (e, g) (refl, refl)

same_arrays : {e : EvidenceArrays} → e.marks ≡ [] → e.unconverted ≡ [] → e.converted ≡ [] → evidence_arrays e.marks e.unconverted e.converted ≡ no_evidence
same_arrays m u c = rw (m, u, c) refl

-- What nothing goes to, where nothing stood.
still_none : (row : Option Refusal) {written before now : EvidenceArrays} → written ≡ no_evidence → before ≡ no_evidence → LeavesEvidence row written before now → now ≡ no_evidence
still_none row {written} {before} {now} e f l =
    let left = rw (e, f) at l in
    let marks : now.marks ≡ [] = left.marks ∙ sym (after_none row []) in
    let unconverted : now.unconverted ≡ [] = left.unconverted ∙ sym (after_none row []) in
    let converted : now.converted ≡ [] = left.converted ∙ sym (after_none row []) in
    same_arrays marks unconverted converted

pub none_left :
    {lab : GivenSettings} (a b : Option VanillaConsensusRead) {listed leaving : Bool} {count : ℕ} {f : ℕ → ℕ} {before now : RecordArrays} {r : Result (Option DuplexConsensus) Refusal}
    → before.a ≡ no_evidence
    → before.b ≡ no_evidence
    → DuplexAs lab (plain_of a) (plain_of b) listed count leaving f before now r
    → (now.a ≡ no_evidence) × (now.b ≡ no_evidence)
none_left {lab} a b {listed} {leaving} {count} {f} e g made =
    let (first, second) = none_written lab (plain_of a) (plain_of b) listed f (kind_of (plain_of a) (plain_of b)) (unannotated a) (unannotated b) in
    (still_none _ first e made.outputs.a, still_none _ second g made.outputs.b)
