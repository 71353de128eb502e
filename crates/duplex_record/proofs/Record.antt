-- A record is what the call that wrote it leaves, where rows 7 to 10 are passed.
--     turned_down          refused by one of those rows
--     none                 nothing is written
--     alone_ab, alone_ba   by `gated_single_strand`, to the first strand's outputs
--     both                 by a call that combines two strands
--     made_by              the answer, of that of the call that writes the record
--     kind_told            the kind that the code asked for
--     lent_single, lent_combined     what a call leaves, by the strands as they were lent
-- Assumes nothing.
use mathlib.Core.Path.{◌≡◌, refl, sym, ap, ◌∙◌, subst}
use mathlib.Core.Bool.{Bool, true, false}
use mathlib.Core.List.{[], ◌∷◌}
use Prim.Native.Nat.{ℕ, min}
use Rattle.std.proofs.Common.{Option, Some, None, Result, Ok, Err}
use Rattle.std.proofs.lemmas.Bool.{or_from}
use Rattle.refusals.specs.declared.Refusal.{Refusal}
use Rattle.refusals.specs.declared.Refusal.TheVariants.{TooLong, Ragged, TooManyReads, PartOutside, OutputTooShort}
use Rattle.refusals.specs.Refusal.{◌if◌, refused}
use Rattle.refusals.specs.Outcome.{answer, or_later}
use Rattle.settings.specs.declared.GivenSettings.{GivenSettings}
use Rattle.methylation.specs.Arrays.{evidence_arrays}
use Rattle.duplex_molecule.specs.Molecule.{ct_input}
use Rattle.duplex_outputs.specs.Outputs.{RecordArrays, record_lengths, record_too_short, LeavesRecord}
use Rattle.duplex_outputs.proofs.Outputs.{record_refused}
use Rattle.duplex_single.specs.Single.{single_arrays, single_refused, SingleAs}
use Rattle.duplex_strands.specs.Combine.{uncounted, combine_refused, CombinedAs}
use Rattle.duplex_kind.specs.Kind.{Strand, Given, given, positions, kind_of, strand_faults, kind_given, record_kind}
use Rattle.duplex_kind.specs.declared.DuplexConsensus.{DuplexConsensus}
use Rattle.duplex_kind.specs.declared.DuplexConsensus.TheVariants.{Ab, Ba, Both}
use Rattle.duplex_kind.proofs.Kind.{Passes, is_refused, is_none, is_ab, is_ba, is_both}
use Rattle.vanilla_caller.specs.Strand.{annotation_in, arrays_in}
use Rattle.vanilla_caller.specs.declared.VanillaConsensusRead.{VanillaConsensusRead}
use Rattle.duplex_record.specs.Parts.{lent_as}
use Rattle.duplex_record.specs.Record.{nothing, record_arrays, outputs_short, duplex_refused, DuplexAs}
use Rattle.duplex_record.proofs.Untouched.{Same, same, after_none, no_evidence}

pub kind_told :
    (a b : Strand) (listed : Bool) (count : ℕ) (leaving : Bool) {x y : Given} {r k : Result (Option DuplexConsensus) Refusal}
    → x ≡ given a
    → y ≡ given b
    → r ≡ kind_given x y listed count leaving
    → r ≡ k
    → record_kind a b listed count leaving ≡ k
kind_told a b listed count leaving e f g h = sym (rw (e, f) at g) ∙ h

module _ {before now : RecordArrays} {r : Result ℕ Refusal} where
  pub lent_single : {a : Strand} {p : Bool} (s : VanillaConsensusRead) → a ≡ lent_as p s → SingleAs (annotation_in s) (arrays_in s) before now r → SingleAs a.annotation a.arrays before now r
  lent_single s e h = subst (λ (x : Strand). SingleAs x.annotation x.arrays before now r) (sym e) h

  pub lent_combined : {lab : GivenSettings} {a b : Strand} {p q listed : Bool} (s t : VanillaConsensusRead) → a ≡ lent_as p s → b ≡ lent_as q t → CombinedAs lab (ct_input (annotation_in s) (annotation_in t)) (annotation_in s) (arrays_in s) (annotation_in t) (arrays_in t) listed before now r → CombinedAs lab (ct_input a.annotation b.annotation) a.annotation a.arrays b.annotation b.arrays listed before now r
  lent_combined {lab} {a} {b} {p} {q} {listed} s t e f h =
      subst (λ (x : Strand). CombinedAs lab (ct_input x.annotation b.annotation) x.annotation x.arrays b.annotation b.arrays listed before now r) (sym e) (subst (λ (y : Strand). CombinedAs lab (ct_input (annotation_in s) y.annotation) (annotation_in s) (arrays_in s) y.annotation y.arrays listed before now r) (sym f) h)

-- The outputs to which a strand alone goes.
abbrev pub first_strand : RecordArrays → RecordArrays
first_strand r = record { bases = r.bases; quals = r.quals; errors = r.errors; a = r.a; b = evidence_arrays [] [] [] }

abbrev only_12 : Bool → Option Refusal
only_12 short = refused ((OutputTooShort if short) ∷ [])

-- The rows before 12 are not met.
rows : (long uneven short : Bool) → long ≡ false → uneven ≡ false → refused ((TooLong if long) ∷ (Ragged if uneven) ∷ (OutputTooShort if short) ∷ []) ≡ only_12 short
rows true uneven short h k = absurd cc
rows false true short h k = absurd cc
rows false false short h k = refl

-- A strand that passes rows 7 and 8 is refused alone only by 12.
single_12 : (s : Strand) (out : RecordArrays) → Passes s → single_refused s.annotation s.arrays (first_strand out) ≡ only_12 (record_too_short (positions s) (record_lengths s.annotation None out))
single_12 s out p = rows _ _ _ p.not_long p.not_uneven

both_12 :
    (a b : Strand) (out : RecordArrays)
    → Passes a
    → Passes b
    → combine_refused a.annotation a.arrays b.annotation b.arrays out ≡ only_12 (record_too_short (min (positions a) (positions b)) (record_lengths a.annotation b.annotation out))
both_12 a b out p q = rows _ _ _ (or_from _ _ p.not_long q.not_long) (or_from _ _ p.not_uneven q.not_uneven)

-- The record of this kind where the call that writes it refused nothing, or its refusal.
abbrev pub made_by : DuplexConsensus → Result ℕ Refusal → Result (Option DuplexConsensus) Refusal
made_by kind (Ok n) = Ok (Some kind)
made_by kind (Err refusal) = Err refusal

handed : (kind : DuplexConsensus) (row : Option Refusal) (n : ℕ) → made_by kind (answer row n) ≡ answer row (Some kind)
handed kind None n = refl
handed kind (Some row) n = refl

leaves_first : (s : Strand) (row : Option Refusal) {before now : RecordArrays} → LeavesRecord row (single_arrays s.annotation s.arrays) (first_strand before) (first_strand now) → Same before.b now.b → LeavesRecord row (single_arrays s.annotation s.arrays) before now
leaves_first s row l o = record {
  bases = l.bases;
  quals = l.quals;
  errors = l.errors;
  a = l.a;
  b = no_evidence row o;
}

leaves_equal : {n m : Option Refusal} {v w before now : RecordArrays} → n ≡ m → v ≡ w → LeavesRecord n v before now → LeavesRecord m w before now
leaves_equal e f l = rw (← e, ← f) l

untouched : (row : Option Refusal) (out : RecordArrays) → LeavesRecord row nothing out out
untouched row out = record {
  bases = after_none row _;
  quals = after_none row _;
  errors = after_none row _;
  a = no_evidence row same;
  b = no_evidence row same;
}

five : (long uneven many outside short : Bool)
    → refused ((TooLong if long) ∷ (Ragged if uneven) ∷ (TooManyReads if many) ∷ (PartOutside if outside) ∷ (OutputTooShort if short) ∷ [])
    ≡ or_later (refused ((TooLong if long) ∷ (Ragged if uneven) ∷ (TooManyReads if many) ∷ (PartOutside if outside) ∷ [])) (only_12 short)
five true uneven many outside short = refl
five false true many outside short = refl
five false false true outside short = refl
five false false false true short = refl
five false false false false short = refl

told_kind : (row : Option Refusal) (k : Option DuplexConsensus) {kind : DuplexConsensus} → answer row k ≡ Ok (Some kind) → Some kind ≡ k
told_kind None k e = cc
told_kind (Some row) k e = absurd cc

module _ (lab : GivenSettings) (a b : Strand) (listed : Bool) (count : ℕ) (leaving : Bool) (before : RecordArrays) where
  abbrev early : Option Refusal
  early = refused (strand_faults a b listed count leaving)

  abbrev row : Option Refusal
  row = duplex_refused a b listed count leaving before

  joined : row ≡ or_later early (only_12 (outputs_short a b before (kind_of a b)))
  joined = five _ _ _ _ _

  -- Row 12 is left, of a record of kind k.
  left_12 : {k : Option DuplexConsensus} → early ≡ None → kind_of a b ≡ k → row ≡ only_12 (outputs_short a b before k)
  left_12 z k = joined ∙ ap (λ (r : Option Refusal). or_later r (only_12 (outputs_short a b before (kind_of a b)))) z ∙ ap (λ (made : Option DuplexConsensus). only_12 (outputs_short a b before made)) k

  pub turned_down : {refusal : Refusal} → record_kind a b listed count leaving ≡ Err refusal → DuplexAs lab a b listed count leaving uncounted before before (Err refusal)
  turned_down {refusal} e =
      let first : row ≡ Some refusal = joined ∙ ap (λ (r : Option Refusal). or_later r (only_12 (outputs_short a b before (kind_of a b)))) (is_refused a b listed count leaving e) in
      record { answered = ap (λ (r : Option Refusal). answer r (kind_of a b)) (sym first); outputs = leaves_equal (sym first) refl (record_refused refusal _ _) }

  -- What is answered where row 12 does not refuse either, and where it does.
  pub none : record_kind a b listed count leaving ≡ Ok None → DuplexAs lab a b listed count leaving uncounted before before (Ok None)
  none e =
      let (z, k) = is_none a b listed count leaving e in
      let passed : row ≡ None = left_12 z k in
      record {
        answered = ap Ok (sym k) ∙ ap (λ (r : Option Refusal). answer r (kind_of a b)) (sym passed);
        outputs = leaves_equal refl (ap (record_arrays lab a b listed uncounted) (sym k)) (untouched row before);
      }

  -- The kind that is told, where no row refuses.
  kind_made : {kind : DuplexConsensus} → record_kind a b listed count leaving ≡ Ok (Some kind) → Some kind ≡ kind_of a b
  kind_made e = told_kind early (kind_of a b) e

  module _ (now : RecordArrays) where
    abbrev Promised : Result (Option DuplexConsensus) Refusal → Type 0
    Promised r = DuplexAs lab a b listed count leaving uncounted before now r

    -- Strand s alone, where the record is of this kind.
    alone :
        (s : Strand) (kind : DuplexConsensus)
        → {r : Result ℕ Refusal} {answered : Result (Option DuplexConsensus) Refusal}
        → answered ≡ made_by kind r
        → single_refused s.annotation s.arrays (first_strand before) ≡ row
        → Some kind ≡ kind_of a b
        → single_arrays s.annotation s.arrays ≡ record_arrays lab a b listed uncounted (kind_of a b)
        → SingleAs s.annotation s.arrays (first_strand before) (first_strand now) r
        → Same before.b now.b
        → Promised answered
    alone s kind told e is written single other =
        let first = single_refused s.annotation s.arrays (first_strand before) in
        record {
          answered = told ∙ ap (made_by kind) single.answered ∙ handed kind first (positions s) ∙ ap (answer first) is ∙ ap (λ (r : Option Refusal). answer r (kind_of a b)) e;
          outputs = leaves_equal e written (leaves_first s first single.outputs other);
        }

    module _ {kind : DuplexConsensus} {r : Result ℕ Refusal} {answered : Result (Option DuplexConsensus) Refusal} (told : answered ≡ made_by kind r) (e : record_kind a b listed count leaving ≡ Ok (Some kind)) {m : ℕ} where
      pub alone_ab : kind ≡ Ab m → SingleAs a.annotation a.arrays (first_strand before) (first_strand now) r → Same before.b now.b → Promised answered
      alone_ab is single other =
          let (z, k, p) = is_ab a b listed count leaving (e ∙ ap (λ (k : DuplexConsensus). Ok (Some k)) is) in
          alone a kind told (single_12 a before p ∙ sym (left_12 z k)) (kind_made e) (ap (record_arrays lab a b listed uncounted) (sym k)) single other

      pub alone_ba : kind ≡ Ba m → SingleAs b.annotation b.arrays (first_strand before) (first_strand now) r → Same before.b now.b → Promised answered
      alone_ba is single other =
          let (z, k, p) = is_ba a b listed count leaving (e ∙ ap (λ (k : DuplexConsensus). Ok (Some k)) is) in
          alone b kind told (single_12 b before p ∙ sym (left_12 z k)) (kind_made e) (ap (record_arrays lab a b listed uncounted) (sym k)) single other

      pub both : kind ≡ Both m → CombinedAs lab (ct_input a.annotation b.annotation) a.annotation a.arrays b.annotation b.arrays listed before now r → Promised answered
      both is combined =
          let (z, k, p, q) = is_both a b listed count leaving (e ∙ ap (λ (k : DuplexConsensus). Ok (Some k)) is) in
          let first = combine_refused a.annotation a.arrays b.annotation b.arrays before in
          let same : first ≡ row = both_12 a b before p q ∙ sym (left_12 z k) in
          record {
            answered = told ∙ ap (made_by kind) combined.answered ∙ handed kind first (min (positions a) (positions b)) ∙ ap (answer first) (kind_made e) ∙ ap (λ (r : Option Refusal). answer r (kind_of a b)) same;
            outputs = leaves_equal same (ap (record_arrays lab a b listed uncounted) (sym k)) combined.outputs;
          }
