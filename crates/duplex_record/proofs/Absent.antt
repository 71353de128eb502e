-- The claim of specs/Absent.antt. Assumes nothing.
use mathlib.Core.Path.{◌≡◌, refl, ap, ◌∙◌}
use mathlib.Core.Bool.{Bool, true, false, cond}
use mathlib.Core.List.{[], ◌∷◌, ◌++◌}
use Prim.Native.Nat.{ℕ}
use Rattle.std.proofs.Common.{Option, Some, None, Result}
use Rattle.refusals.specs.declared.Refusal.{Refusal}
use Rattle.refusals.specs.declared.Refusal.TheVariants.{OutputTooShort}
use Rattle.refusals.specs.Refusal.{◌if◌, refused}
use Rattle.refusals.specs.Outcome.{answer}
use Rattle.settings.specs.declared.GivenSettings.{GivenSettings}
use Rattle.methylation.specs.declared.ConversionPattern.{ConversionPattern}
use Rattle.vanilla_caller.specs.Strand.{Arrays}
use Rattle.duplex_outputs.specs.Outputs.{RecordArrays, LeavesRecord}
use Rattle.duplex_kind.specs.Absent.{absent, seen_of}
use Rattle.duplex_kind.specs.Kind.{Strand, Given, given, kind_of, given_faults, strand_faults}
use Rattle.duplex_kind.specs.declared.DuplexConsensus.{DuplexConsensus}
use Rattle.duplex_kind.specs.declared.DuplexConsensus.TheVariants.{Ab, Ba, Both}
use Rattle.duplex_kind.proofs.Absent.{given_seen}
use Rattle.duplex_single.proofs.Absent.{single_seen}
use Rattle.duplex_strands.proofs.Absent.{both_seen}
use Rattle.duplex_record.specs.Record.{record_arrays, outputs_short, duplex_refused, DuplexAs}
use Rattle.duplex_record.specs.Absent.{NotLookedAt}

-- Of a record of one strand, or of none, the other strand does not matter.
module _ (lab : GivenSettings) (s t other : Strand) (k : ℕ) (listed : Bool) (f g : ℕ → ℕ) (out : RecordArrays) where
  short_first : (met : Bool) → outputs_short s other out (cond met (Some (Ba k)) None) ≡ outputs_short t other out (cond met (Some (Ba k)) None)
  short_first true = refl
  short_first false = refl

  short_second : (met : Bool) → outputs_short other s out (cond met (Some (Ab k)) None) ≡ outputs_short other t out (cond met (Some (Ab k)) None)
  short_second true = refl
  short_second false = refl

  arrays_first : (met : Bool) → record_arrays lab s other listed f (cond met (Some (Ba k)) None) ≡ record_arrays lab t other listed g (cond met (Some (Ba k)) None)
  arrays_first true = refl
  arrays_first false = refl

  arrays_second : (met : Bool) → record_arrays lab other s listed f (cond met (Some (Ab k)) None) ≡ record_arrays lab other t listed g (cond met (Some (Ab k)) None)
  arrays_second true = refl
  arrays_second false = refl

-- What is written of the strands, as far as their evidence is looked at.
record_seen : (lab : GivenSettings) (a b : Strand) (listed : Bool) (f : ℕ → ℕ) (k : Option DuplexConsensus) → record_arrays lab (seen_of a) (seen_of b) listed f k ≡ record_arrays lab a b listed f k
record_seen lab a b listed f None = refl
record_seen lab a b listed f (Some (Ab n)) = single_seen a.annotation a.arrays
record_seen lab a b listed f (Some (Ba n)) = single_seen b.annotation b.arrays
record_seen lab a b listed f (Some (Both n)) = both_seen lab listed f n a.annotation a.arrays b.annotation b.arrays

-- The same answer, and the same that is left.
moved : (kind : Option DuplexConsensus) {n m : Option Refusal} {v w before now : RecordArrays} {r : Result (Option DuplexConsensus) Refusal}
    → n ≡ m → v ≡ w
    → (r ≡ answer n kind) × LeavesRecord n v before now
    → (r ≡ answer m kind) × LeavesRecord m w before now
moved kind e f h = rw (← e, ← f) h

module _ (lab : GivenSettings) (f g : ℕ → ℕ) (listed : Bool) (count : ℕ) (leaving : Bool) (before now : RecordArrays) (r : Result (Option DuplexConsensus) Refusal) where
  first : (m n : Option ConversionPattern) (x y : Arrays) (b : Strand) → DuplexAs lab (absent m x) b listed count leaving f before now r → DuplexAs lab (absent n y) b listed count leaving g before now r
  first m n x y b d =
      let s = absent m x in
      let t = absent n y in
      let rows = ap (λ (short : Bool). refused (strand_faults s b listed count leaving ++ (OutputTooShort if short) ∷ [])) (short_first lab s t b _ listed f g before _) in
      let (answered, outputs) = moved (kind_of s b) {n = duplex_refused s b listed count leaving before} {m = duplex_refused t b listed count leaving before} rows (arrays_first lab s t b _ listed f g before _) (d.answered, d.outputs) in
      record { answered = answered; outputs = outputs }

  second : (a : Strand) (m n : Option ConversionPattern) (x y : Arrays) → DuplexAs lab a (absent m x) listed count leaving f before now r → DuplexAs lab a (absent n y) listed count leaving g before now r
  second a m n x y d =
      let s = absent m x in
      let t = absent n y in
      let rows = ap (λ (short : Bool). refused (strand_faults a s listed count leaving ++ (OutputTooShort if short) ∷ [])) (short_second lab s t a _ listed f g before _) in
      let (answered, outputs) = moved (kind_of a s) {n = duplex_refused a s listed count leaving before} {m = duplex_refused a t listed count leaving before} rows (arrays_second lab s t a _ listed f g before _) (d.answered, d.outputs) in
      record { answered = answered; outputs = outputs }

  evidence : (a b : Strand) → DuplexAs lab (seen_of a) (seen_of b) listed count leaving f before now r → DuplexAs lab a b listed count leaving f before now r
  evidence a b d =
      let last = (OutputTooShort if outputs_short a b before (kind_of a b)) ∷ [] in
      let rows : duplex_refused (seen_of a) (seen_of b) listed count leaving before ≡ duplex_refused a b listed count leaving before =
      ap (λ (g : Given). refused (given_faults g (given (seen_of b)) listed count leaving ++ last)) (given_seen a)
      ∙ ap (λ (g : Given). refused (given_faults (given a) g listed count leaving ++ last)) (given_seen b) in
      let (answered, outputs) = moved (kind_of a b) rows (record_seen lab a b listed f (kind_of a b)) (d.answered, d.outputs) in
      record { answered = answered; outputs = outputs }

  pub not_looked_at : NotLookedAt lab f g listed count leaving before now r
  not_looked_at = record {
    first = first;
    second = second;
    list = λ a b other leaves d. record { answered = d.answered; outputs = d.outputs };
    evidence = evidence;
  }
