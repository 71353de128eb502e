-- What the call leaves, by the kind of record that it made.
--     kind_is          the kind and the settings, or what refuses the call for what is given and for its lengths
--     none_puts, ab_puts, ba_puts, both_puts     what is written of each kind
--     made_none, made_ab, made_ba, made_both     what is promised of it
--     by_seen          the same of strands as far as they are looked at
-- Assumes nothing.
use mathlib.Core.Path.{◌≡◌, refl, sym, ap, ap₂, subst, ◌∙◌}
use mathlib.Core.Bool.{Bool, true, false, cond}
use mathlib.Core.List.{List, [], ◌∷◌}
use Prim.Native.Nat.{ℕ, ◌/◌, ◌≤◌, min}
use native.Mathlib.Omega.{arith}
use borrow.Author.Tests.{ltb-false}
use lib.Dec.{eqb}
use lib.ListN.{length, take, replicate}
use Rattle.std.proofs.Common.{Option, Some, None, Result, Ok, Err}
use Rattle.lists.specs.Output.{put}
use Rattle.lists.specs.Part.{only_if}
use Rattle.refusals.specs.declared.Refusal.{Refusal}
use Rattle.refusals.specs.declared.Refusal.TheVariants.{Broken}
use Rattle.refusals.specs.Refusal.{code, refused, too_many}
use Rattle.refusals.specs.Outcome.{answer}
use Rattle.refusals.proofs.Claims.{none_lost}
use Rattle.settings.specs.Settings.{settings_faults}
use Rattle.settings.specs.declared.GivenSettings.{GivenSettings}
use Rattle.methylation.specs.declared.ConversionPattern.{ConversionPattern}
use Rattle.byte_numbers.specs.Bytes.{bytes16, all_bytes, words16}
use Rattle.byte_numbers.specs.Groups.{joined}
use Rattle.vanilla_caller.specs.Strand.{Arrays, annotation_in, arrays_in}
use Rattle.vanilla_caller.specs.declared.VanillaConsensusRead.{VanillaConsensusRead}
use Rattle.molecule_evidence.specs.Evidence.{evidence_bytes}
use Rattle.molecule_strand.specs.Rows.{misfit_in, kind_by, kind_read}
use Rattle.molecule_strand.specs.Strand.{StrandBytes, Numbers, StrandRead, encoded_in, evidence_seen, strand_of}
use Rattle.molecule_strand.specs.declared.EncodedStrand.{EncodedStrand}
use Rattle.molecule_strand.proofs.Strand.{held_seen}
use Rattle.molecule_fields.specs.Widths.{is_run}
use Rattle.molecule_reads.specs.Run.{reads_of}
use Rattle.molecule_consensus.specs.Bytes.{seen, misfit}
use Rattle.molecule_consensus.proofs.Bytes.{same_misfit}
use Rattle.duplex_molecule.specs.Molecule.{ct_input}
use Rattle.duplex_molecule.specs.declared.CtInput.{CtInput}
use Rattle.duplex_arrays.specs.Positions.{PositionsAs}
use Rattle.duplex_kind.specs.Kind.{Strand, strand, positions, strand_faults}
use Rattle.duplex_kind.specs.declared.DuplexConsensus.{DuplexConsensus}
use Rattle.duplex_kind.specs.declared.DuplexConsensus.TheVariants.{Ab, Ba, Both}
use Rattle.duplex_kind.specs.Limit.{lengths_of, over_in}
use Rattle.duplex_kind.proofs.Limit.{Within}
use Rattle.duplex_kind.proofs.Kind.{taken, is_ab, is_ba, is_both}
use Rattle.duplex_consensus.specs.Consensus.{combined_of, counted_positions}
use Rattle.source_reads.specs.Reads.{counted_errors}
use Rattle.c_record.specs.Outputs.{RecordBytes, written, written_of, outputs_refused}
use Rattle.c_record.proofs.Outputs.{Room}
use Rattle.c_consensus.specs.Consensus.{ConsensusBytesAs}
use Rattle.c_consensus.specs.Parts.{zero_numbers, strand_read, StrandIs, Settled, both_of, settled, within_limit, unless_many, with_list, list_errors, errors_left, KeptAs, FitsIn}
use Rattle.c_consensus.proofs.Rows.{seen_same, kind, of_inputs, settled_whole, listed_is, given_pass, given_within}
use Rattle.c_consensus.proofs.Read.{Lengths, as_long, marks_size, depths_read, whole, strand_whole}
use Rattle.c_consensus.proofs.Written.{kept_written}
use Rattle.c_consensus.proofs.Both.{no_longer, positions_written, errors_written}
use Rattle.c_consensus.proofs.Consensus.{Puts, of_kind, none_met, told, same_settings, room_is, made_is}
use Rattle.c_consensus.proofs.Single.{Copied, single_written}

-- Of a strand as the code has it all evidence is looked at.
pub seen_evidence : (s : Option EncodedStrand) → evidence_seen (encoded_in s) ≡ (encoded_in s).evidence
unfolding only_if
seen_evidence None = refl
seen_evidence (Some s) = held_seen s.methylation

pub by_seen : (a b : Option EncodedStrand) {lab : GivenSettings} {listed : Bool} {run : List ℕ} {before now : RecordBytes} {r : Result (Option DuplexConsensus) Refusal} → ConsensusBytesAs lab (encoded_in a) (encoded_in b) listed run before now r → ConsensusBytesAs lab (seen (encoded_in a)) (seen (encoded_in b)) listed run before now r
by_seen a b {lab} {listed} {run} {before} {now} {r} x =
    subst (λ (s : StrandBytes). ConsensusBytesAs lab s (seen (encoded_in b)) listed run before now r) (sym (seen_same a))
    (subst (λ (s : StrandBytes). ConsensusBytesAs lab (encoded_in a) s listed run before now r) (sym (seen_same b)) x)

misfit_is : (s : Option EncodedStrand) → misfit_in (encoded_in s) ≡ misfit (encoded_in s)
misfit_is s = same_misfit s ∙ ap misfit (seen_same s)

abbrev kind_alone : Settled → Result (Option DuplexConsensus) Refusal
kind_alone (Ok s) = Ok s.0
kind_alone (Err row) = Err row

-- Where nothing is refused, the kind is the strands'.
kind_settled : (tested : Result GivenSettings Refusal) (within : Result (Unit {0}) Refusal) (k : Result (Option DuplexConsensus) Refusal) {x : Option DuplexConsensus} {lab : GivenSettings} → settled tested within k ≡ Ok (x, lab) → k ≡ Ok x
kind_settled (Ok own) (Ok passed) (Ok y) e = ap kind_alone e
kind_settled (Ok own) (Err row) (Ok y) e = absurd cc
kind_settled (Err row) within (Ok y) e = absurd cc
kind_settled tested within (Err row) e = by_row (eqb (code row) (code Broken)) tested within e
  where
    by_row : (broken : Bool) (tested : Result GivenSettings Refusal) (within : Result (Unit {0}) Refusal) {x : Option DuplexConsensus} {lab : GivenSettings} → cond broken (Err Broken) (both_of tested within (Err row)) ≡ Ok (x, lab) → Err row ≡ Ok x
    by_row true tested within e = absurd cc
    by_row false (Ok own) (Ok passed) e = absurd cc
    by_row false (Ok own) (Err other) e = absurd cc
    by_row false (Err other) within e = absurd cc

-- A list changes nothing of these.
settled_kept : (listed : Bool) (run : List ℕ) (k : Settled) {x : Option DuplexConsensus} {lab : GivenSettings} → with_list listed run k ≡ Ok (x, lab) → k ≡ Ok (x, lab)
settled_kept false run k e = e
settled_kept true run k e = by_run (is_run run) (too_many (length (reads_of run) ∷ [])) k e
  where
    by_run : (w t : Bool) (k : Settled) {x : Option DuplexConsensus} {lab : GivenSettings} → cond w (unless_many t k) (Err Broken) ≡ Ok (x, lab) → k ≡ Ok (x, lab)
    by_run false t k e = absurd cc
    by_run true t (Err row) e = absurd cc
    by_run true true (Ok y) e = absurd cc
    by_run true false (Ok y) e = e

-- A strand that passes fits.
fits : (places limit : ℕ) (s : StrandBytes) → FitsIn places limit s → over_in 1024 (lengths_of (strand_of s)) ≡ false → over_in limit (lengths_of (strand_of s)) ≡ false → Lengths s → length s.bases ≤ places
fits places limit s few long over l = omega (arith, few long over, l.depths)

pub none_puts : (before : RecordBytes) → Puts (record { bases = []; quals = []; errors = bytes16 []; evidence_a = evidence_bytes [] [] []; evidence_b = evidence_bytes [] [] [] }) before before
unfolding all_bytes evidence_bytes joined put
none_puts before = record { bases = refl; quals = refl; errors = refl; evidence_a = refl; evidence_b = refl }

-- The same of equal strands.
same_positions :
    {ceiling n : ℕ} {ct ct' : CtInput} {x x' y y' : Arrays} {bases quals bases_now quals_now : List ℕ}
    → ct ≡ ct'
    → x ≡ x'
    → y ≡ y'
    → PositionsAs ceiling n ct x y bases quals bases_now quals_now
    → PositionsAs ceiling n ct' x' y' bases quals bases_now quals_now
same_positions e f g p = rw (e, f, g) at p

same_errors : (listed : Bool) (n : ℕ) {ct ct' : CtInput} {x x' y y' : Arrays} (errors : List ℕ) → ct ≡ ct' → x ≡ x' → y ≡ y' → errors_left ct listed n x y errors ≡ errors_left ct' listed n x' y' errors
same_errors listed n {ct} {ct'} {x} {x'} {y} {y'} errors e f g =
    ap (λ (z : CtInput). errors_left z listed n x y errors) e
    ∙ ap (λ (z : Arrays). errors_left ct' listed n z y errors) f
    ∙ ap (λ (z : Arrays). errors_left ct' listed n x' z errors) g

same_combined :
    {p p' q q' : Option ConversionPattern} {x x' y y' : Arrays} {m m' : ℕ}
    → p ≡ p'
    → q ≡ q'
    → x ≡ x'
    → y ≡ y'
    → m ≡ m'
    → combined_of (strand true p x) (strand true q y) m ≡ combined_of (strand true p' x') (strand true q' y') m'
same_combined {p} {p'} {q} {q'} {x} {x'} {y} {y'} {m} {m'} e f g h i =
    ap (λ z. combined_of (strand true z x) (strand true q y) m) e
    ∙ ap (λ z. combined_of (strand true p' x) (strand true z y) m) f
    ∙ ap (λ z. combined_of (strand true p' z) (strand true q' y) m) g
    ∙ ap (λ z. combined_of (strand true p' x') (strand true q' z) m) h
    ∙ ap (λ z. combined_of (strand true p' x') (strand true q' y') z) i

module _
    (lab : GivenSettings) (places : ℕ) (a b : Option EncodedStrand) (listed : Bool) (run : List ℕ)
    (few_a : FitsIn places lab.limit (encoded_in a)) (few_b : FitsIn places lab.limit (encoded_in b))
    {xa xb : Numbers} (read_a : StrandRead (encoded_in a) (zero_numbers places) xa) (read_b : StrandRead (encoded_in b) (zero_numbers places) xb)
    {ks : Result (Option DuplexConsensus) Refusal} (by_depths : ks ≡ kind_read (encoded_in a) (encoded_in b) xa.depths xb.depths)
    {tested : Result GivenSettings Refusal} (by_test : tested ≡ answer (refused (settings_faults lab)) lab)
    {within : Result (Unit {0}) Refusal} (by_lengths : within ≡ within_limit lab.limit (encoded_in a) (encoded_in b))
    {r : Settled} (by_list : r ≡ with_list listed run (settled tested within ks))
    (before : RecordBytes)
  where
    abbrev A : StrandBytes
    A = encoded_in a

    abbrev B : StrandBytes
    B = encoded_in b

    abbrev first : Strand
    first = strand_of A

    abbrev second : Strand
    second = strand_of B

    abbrev count : ℕ
    count = length (reads_of run)

    -- Depths that were read in part are those of strands that the lengths' rows refuse.
    of_strands : (t : Result GivenSettings Refusal) → settled t (within_limit lab.limit A B) ks ≡ settled t (within_limit lab.limit A B) (kind_by A B)
    of_strands t =
        ap (λ (k : Result (Option DuplexConsensus) Refusal). settled t (within_limit lab.limit A B) k) by_depths
        ∙ settled_whole t lab.limit A B xa.depths xb.depths (λ near short. depths_read places A read_a (few_a near short)) (λ near short. depths_read places B read_b (few_b near short))

    pub kind_is : r ≡ of_inputs lab A B listed run
    kind_is =
        by_list
        ∙ ap₂ (λ (t : Result GivenSettings Refusal) (w : Result (Unit {0}) Refusal). with_list listed run (settled t w ks)) by_test by_lengths
        ∙ ap (λ (s : Settled). with_list listed run s) (of_strands (answer (refused (settings_faults lab)) lab))
        ∙ listed_is lab A B listed run (misfit_is a) (misfit_is b)

    module _ {k : Option DuplexConsensus} (was : r ≡ Ok (k, lab)) where
      is : kind lab A B listed run ≡ k
      is = told lab A B listed run before (sym kind_is ∙ was)

      pass : refused (strand_faults first second listed count false) ≡ None
      pass = given_pass lab A B listed run (none_met lab A B listed run before (sym kind_is ∙ was))

      within_both : Within lab.limit (lengths_of first) (lengths_of second)
      within_both = given_within lab A B listed run (none_met lab A B listed run before (sym kind_is ∙ was))

    pub ab_puts : {n : ℕ} {now : RecordBytes} → r ≡ Ok (Some (Ab n), lab) → Room (written n A.annotation None) before → Copied A n xa.errors xa.marks before now → Puts (of_kind lab A B listed run before (Some (Ab n))) before now
    unfolding strand_of
    ab_puts {n} {now} was room c =
        let e : kind lab A B listed run ≡ Some (Ab n) = is was in
        let (_, k, p) = is_ab first second listed count false (sym (taken first second listed count false (pass was)) ∙ ap Ok e) in
        let size : positions first ≡ n = cc in
        let same : length A.bases ≡ n = at size in
        let l = as_long A p in
        single_written places A read_a (seen_evidence a) l (fits places lab.limit A few_a (within_both was).a_long (within_both was).a_over l)
        (subst (λ (m : ℕ). Room (written m A.annotation None) before) (sym same) room)
        (subst (λ (m : ℕ). Copied A m xa.errors xa.marks before now) (sym same) c)
      where
        at : {m : ℕ} → positions first ≡ m → length A.bases ≡ m
        at e = e

    pub ba_puts : {n : ℕ} {now : RecordBytes} → r ≡ Ok (Some (Ba n), lab) → Room (written n B.annotation None) before → Copied B n xb.errors xb.marks before now → Puts (of_kind lab A B listed run before (Some (Ba n))) before now
    unfolding strand_of
    ba_puts {n} {now} was room c =
        let e : kind lab A B listed run ≡ Some (Ba n) = is was in
        let (_, k, p) = is_ba first second listed count false (sym (taken first second listed count false (pass was)) ∙ ap Ok e) in
        let size : positions second ≡ n = cc in
        let same : length B.bases ≡ n = at size in
        let l = as_long B p in
        single_written places B read_b (seen_evidence b) l (fits places lab.limit B few_b (within_both was).b_long (within_both was).b_over l)
        (subst (λ (m : ℕ). Room (written m B.annotation None) before) (sym same) room)
        (subst (λ (m : ℕ). Copied B m xb.errors xb.marks before now) (sym same) c)
      where
        at : {m : ℕ} → positions second ≡ m → length B.bases ≡ m
        at e = e

    pub both_puts :
        {n : ℕ} {now : RecordBytes} {va vb : VanillaConsensusRead} {errors : List ℕ}
        → r ≡ Ok (Some (Both n), lab)
        → Room (written n A.annotation B.annotation) before
        → StrandIs (strand_read A xa) va
        → StrandIs (strand_read B xb) vb
        → errors ≡ list_errors listed run ks va vb (replicate places 0)
        → PositionsAs lab.ceiling n (ct_input (annotation_in va) (annotation_in vb)) (arrays_in va) (arrays_in vb) before.bases before.quals now.bases now.quals
        → now.errors ≡ put (bytes16 (take (length before.errors / 2) (take n (errors_left (ct_input (annotation_in va) (annotation_in vb)) listed n (arrays_in va) (arrays_in vb) errors)))) before.errors
        → KeptAs n (ct_input A.annotation B.annotation) A A.bases B.bases xa.marks before.evidence_a now.evidence_a
        → KeptAs n (ct_input A.annotation B.annotation) B A.bases B.bases xb.marks before.evidence_b now.evidence_b
        → Puts (of_kind lab A B listed run before (Some (Both n))) before now
    unfolding strand_of
    both_puts {n} {now} {va} {vb} {errors} was room sva svb listing pos errs ka kb =
        let e : kind lab A B listed run ≡ Some (Both n) = is was in
        let (_, k, pa, pb) = is_both first second listed count false (sym (taken first second listed count false (pass was)) ∙ ap Ok e) in
        let shorter : n ≡ min (positions first) (positions second) = cc in
        let la = as_long A pa in
        let lb = as_long B pb in
        let in_a : n ≤ length A.bases = omega arith in
        let in_b : n ≤ length B.bases = omega arith in
        let fit_a = fits places lab.limit A few_a (within_both was).a_long (within_both was).a_over la in
        let fit_b = fits places lab.limit B few_b (within_both was).b_long (within_both was).b_over lb in
        let sa = strand_whole places A read_a (seen_evidence a) (whole places A read_a (seen_evidence a) la fit_a) in
        let sb = strand_whole places B read_b (seen_evidence b) (whole places B read_b (seen_evidence b) lb fit_b) in
        let arrays_a = ap (λ (s : Strand). s.arrays) sa in
        let arrays_b = ap (λ (s : Strand). s.arrays) sb in
        let ct_is = ap₂ ct_input sva.annotation svb.annotation in
        let clear = none_lost (strand_faults first second listed count false) (pass was) in
        let whole_kind : ks ≡ Ok (Some (Both n)) = kind_settled tested within ks (settled_kept listed run (settled tested within ks) (sym by_list ∙ was)) in
        let counted : counted_errors (reads_of run) run _ (replicate places 0) ≡ counted_errors (reads_of run) run (combined_of first second n) (replicate places 0) =
        ap (λ s. counted_errors (reads_of run) run s (replicate places 0)) (same_combined sva.annotation svb.annotation (sva.arrays ∙ arrays_a) (svb.arrays ∙ arrays_b) (ap (counted_positions true) whole_kind))
        in
        let written_own = positions_written A B n la lb in_a in_b lab.ceiling room.bases room.quals (same_positions ct_is (sva.arrays ∙ arrays_a) (svb.arrays ∙ arrays_b) pos) in
        record {
          bases = written_own.0;
          quals = written_own.1;
          errors =
              errs
              ∙ ap (λ (l : List ℕ). put (bytes16 (take (length before.errors / 2) (take n l))) before.errors) (same_errors listed n errors ct_is (sva.arrays ∙ arrays_a) (svb.arrays ∙ arrays_b))
              ∙ errors_written A B n la lb in_a in_b listed run places errors before.errors (omega arith) (omega (arith, no_longer A pa)) (λ l. ltb-false 1024 count (rw l at clear.1.1.0))
              (listing ∙ ap (λ (z : List ℕ). cond listed z (replicate places 0)) counted)
              room.errors;
          evidence_a =
              ka
              ∙ kept_written n (ct_input A.annotation B.annotation) first.arrays second.arrays A.annotation A.bases A.quals (words16 A.depths) (words16 A.errors) A.evidence xa.marks before.evidence_a in_a in_b
              (omega (arith, marks_size places A read_a))
              (λ l. (omega (arith, la.evidence l), rw l at room.evidence_a));
          evidence_b =
              kb
              ∙ kept_written n (ct_input A.annotation B.annotation) first.arrays second.arrays B.annotation B.bases B.quals (words16 B.depths) (words16 B.errors) B.evidence xb.marks before.evidence_b in_a in_b
              (omega (arith, marks_size places B read_b))
              (λ l. (omega (arith, lb.evidence l), rw l at room.evidence_b));
        }

    -- The same of a call that was not refused by row 12 either.
    module _ {k : Option DuplexConsensus} {used : GivenSettings} (was : r ≡ Ok (k, used)) {x : Unit {0}} (not_short : answer (outputs_refused (written_of A.annotation B.annotation k) before) tt ≡ Ok x) where
      -- The settings that the record was made by are those of the call.
      settings_are : lab ≡ used
      settings_are = same_settings lab A B listed run before (sym kind_is ∙ was)

      made_of : {y : Option DuplexConsensus} → k ≡ y → r ≡ Ok (y, lab)
      made_of e = was ∙ ap₂ (λ (z : Option DuplexConsensus) (l : GivenSettings). Ok (z, l)) e (sym settings_are)

      made : {now : RecordBytes} {y : Option DuplexConsensus} → k ≡ y → Puts (of_kind lab A B listed run before y) before now → ConsensusBytesAs lab (seen A) (seen B) listed run before now (Ok k)
      made {now} e p = by_seen a b (made_is lab A B listed run before (sym kind_is ∙ was) not_short (subst (λ (z : Option DuplexConsensus). Puts (of_kind lab A B listed run before z) before now) (sym e) p))

      room_of : {y : Option DuplexConsensus} → k ≡ y → Room (written_of A.annotation B.annotation y) before
      room_of {y} e = room_is (written_of A.annotation B.annotation y) before (subst (λ (z : Option DuplexConsensus). answer (outputs_refused (written_of A.annotation B.annotation z) before) tt ≡ Ok x) e not_short)

      pub made_none : k ≡ None → ConsensusBytesAs lab (seen A) (seen B) listed run before before (Ok k)
      made_none e = made e (none_puts before)

      pub made_ab : {n : ℕ} {now : RecordBytes} → k ≡ Some (Ab n) → Copied A n xa.errors xa.marks before now → ConsensusBytesAs lab (seen A) (seen B) listed run before now (Ok k)
      made_ab e c = made e (ab_puts (made_of e) (room_of e) c)

      pub made_ba : {n : ℕ} {now : RecordBytes} → k ≡ Some (Ba n) → Copied B n xb.errors xb.marks before now → ConsensusBytesAs lab (seen A) (seen B) listed run before now (Ok k)
      made_ba e c = made e (ba_puts (made_of e) (room_of e) c)

      pub made_both :
          {n : ℕ} {now : RecordBytes} {va vb : VanillaConsensusRead} {errors : List ℕ}
          → k ≡ Some (Both n)
          → StrandIs (strand_read A xa) va
          → StrandIs (strand_read B xb) vb
          → errors ≡ list_errors listed run ks va vb (replicate places 0)
          → PositionsAs used.ceiling n (ct_input (annotation_in va) (annotation_in vb)) (arrays_in va) (arrays_in vb) before.bases before.quals now.bases now.quals
          → now.errors ≡ put (bytes16 (take (length before.errors / 2) (take n (errors_left (ct_input (annotation_in va) (annotation_in vb)) listed n (arrays_in va) (arrays_in vb) errors)))) before.errors
          → KeptAs n (ct_input A.annotation B.annotation) A A.bases B.bases xa.marks before.evidence_a now.evidence_a
          → KeptAs n (ct_input A.annotation B.annotation) B A.bases B.bases xb.marks before.evidence_b now.evidence_b
          → ConsensusBytesAs lab (seen A) (seen B) listed run before now (Ok k)
      made_both {n} {now} {va} {vb} e sva svb listing pos errs ka kb =
          let under : PositionsAs lab.ceiling n (ct_input (annotation_in va) (annotation_in vb)) (arrays_in va) (arrays_in vb) before.bases before.quals now.bases now.quals = rw (← settings_are) at pos in
          made e (both_puts (made_of e) (room_of e) sva svb listing under errs ka kb)
