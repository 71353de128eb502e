-- The text for a molecule from its fields.
--     by_thresholds, by_rows, by_record     what is printed, by the thresholds' rows and by the others
--     the_reads     of specs/Claims.antt's `TheReads`
-- Assumes nothing.
use mathlib.Core.Path.{◌≡◌, refl, sym, ap, subst, ◌∙◌}
use mathlib.Core.Bool.{Bool, true, false, cond, not, ◌&&◌, ◌||◌, and-false}
use mathlib.Core.List.{List, [], ◌∷◌}
use Prim.Native.Nat.{ℕ, ◌+◌, ◌≤◌}
use native.Mathlib.Omega.{arith}
use lib.ListN.{length, drop, length-map, length-append, length-drop, length-replicate}
use Rattle.std.proofs.Common.{Option, Some, None, Result, Ok}
use Rattle.std.specs.Prelude.{is_some}
use Rattle.lists.specs.Output.{put}
use Rattle.lists.specs.Part.{only_if}
use Rattle.refusals.specs.declared.Refusal.{Refusal}
use Rattle.refusals.specs.declared.Refusal.TheVariants.{Broken, TooLong, Ragged, TooManyReads, PartOutside}
use Rattle.refusals.specs.Refusal.{number_of, too_long, ragged, too_many}
use Rattle.refusals.specs.Outcome.{answer, after, by_number, zeros}
use Rattle.refusals.proofs.Condition.{neither}
use Rattle.byte_numbers.specs.Bytes.{words16, words32}
use Rattle.fields.specs.Encoding.{Field, encoded, whole_fields}
use Rattle.molecule_fields.specs.Widths.{is_run}
use Rattle.molecule_encoding.specs.Format.{StrandParts, MoleculeParts, has, decoded}
use Rattle.molecule_encoding.specs.Claims.{EncodesMolecule, part_of, with_tag, StrandIs, PartsAre}
use Rattle.molecule_encoding.proofs.Claims.{only}
use Rattle.molecule_encoding.proofs.Parts.{all_fit, no_reads, tagged_reads, tagged_short, holds}
use Rattle.molecule_encoding.proofs.Values.{value_there}
use Rattle.molecule_reads.specs.Run.{reads_of}
use Rattle.molecule_reads.specs.Claims.{said, shown, ReadsAre}
use Rattle.molecule_reads.proofs.Claims.{only_these, each_read}
use Rattle.molecule_strand.specs.Strand.{StrandBytes, strand_bytes, strand_of}
use Rattle.duplex_min_reads.specs.MinReads.{refused}
use Rattle.duplex_kind.specs.Kind.{Strand, given, positions, record_length, covered, kind_of, long, uneven}
use Rattle.duplex_kind.specs.declared.DuplexConsensus.TheVariants.{Ab, Ba, Both}
use Rattle.duplex_kind.proofs.Kind.{few_record}
use Rattle.duplex_metrics.specs.Metrics.{input}
use Rattle.molecule_consensus.specs.Bytes.{seen, misfit}
use Rattle.line_format.specs.Line.{Columns, columns, refused_text}
use Rattle.line_format.specs.declared.Kind.{Kind}
use Rattle.line_format.specs.declared.Kind.TheVariants.{Ab as Ab-kind, Ba as Ba-kind, Both as Both-kind}
use Rattle.line_report.specs.Report.{Strands, strands, some_report, reported}
use Rattle.line_report.specs.declared.Report.{Report}
use Rattle.line_record.specs.Line.{front, report_text, answer_text}
use Rattle.line_strands.specs.Strands.{refusal_of, record_in, counts_of, strands_text}
use Rattle.line_molecule.specs.Line.{value_or, annotation_in, strand_in, read_text, text_unless, molecule_text}
use Rattle.line_claims.specs.Claims.{places, Printed, none, record_line, TheReads}
use Rattle.line_claims.proofs.Places.{Sized, value, strand_in_lem, same_value, sized_a, sized_b}
use Rattle.line_claims.proofs.Report.{Measured, Even, own_report}

-- The rows of its own that a molecule can meet, beside its thresholds'.
abbrev rows : Bool → Bool → Bool → Option Refusal
rows long uneven many = cond long (Some TooLong) (cond uneven (Some Ragged) (cond many (Some TooManyReads) None))

abbrev pub own_row : List ℕ → List ℕ → ℕ → Option Refusal
own_row pa pb reads = rows (too_long pa || too_long pb) (ragged pa || ragged pb) (too_many (reads ∷ []))

cleared : (l u t : Bool) → rows l u t ≡ None → (l ≡ false) × (u ≡ false)
cleared true u t e = absurd cc
cleared false true t e = absurd cc
cleared false false t e = (refl, refl)

-- A buffer of 1,024 places to whose front something was written.
ample : (xs : List ℕ) → 1024 ≤ length (put xs zeros)
unfolding put
ample xs = simp (length-append, length-drop, length-replicate) (omega arith)

-- A record's length is no more than either strand's bases.
few_positions : (s : StrandBytes) → length s.bases ≤ 1024 → positions (strand_of (seen s)) ≤ 1024
unfolding strand_of only_if
few_positions s h = go s.present
  where
    go : (b : Bool) → length (cond b s.bases []) ≤ 1024
    go true = h
    go false = omega arith

-- The text of a report that is no refusal.
printed : {kind : Kind} {n : ℕ} {r : Result Report Refusal} (c : Columns) → Measured kind n r → Printed (report_text (some_report r) c)
printed {kind} {n} {r} c m = record_line kind m.kept (front n c) m.metrics (ap (λ (x : Result Report Refusal). report_text (some_report x) c) m.is)

module _
    (ts : List ℕ) (z : refused ts ≡ None)
    (a b : StrandBytes) (pa pb : List ℕ) (sa : Sized a pa) (sb : Sized b pb)
    (listed : Bool) (run : List ℕ) (reads : ℕ)
    (whole : is_run run ≡ true) (counted : (listed && too_many (length (reads_of run) ∷ [])) ≡ too_many (reads ∷ []))
  where
    abbrev A : Strand
    A = strand_of (seen a)

    abbrev B : Strand
    B = strand_of (seen b)

    abbrev all_rows : Bool → Bool → Bool → Bool → Bool → Option Refusal
    all_rows broken l u many outside = cond broken (Some Broken) (cond l (Some TooLong) (cond u (Some Ragged) (cond many (Some TooManyReads) (cond outside (Some PartOutside) None))))

    row_is : refusal_of a b listed run ≡ own_row pa pb reads
    row_is =
        let fits : (misfit (seen a) || (misfit (seen b) || (listed && not (is_run run)))) ≡ false = rw (sa.fits, sb.fits, whole) (and-false listed) in
        let l : (long (given A) || long (given B)) ≡ (too_long pa || too_long pb) = rw (sa.long_is, sb.long_is) in
        let u : (uneven (given A) || uneven (given B)) ≡ (ragged pa || ragged pb) = rw (sa.uneven_is, sb.uneven_is) in
        ap (λ (x : Bool). all_rows x (long (given A) || long (given B)) (uneven (given A) || uneven (given B)) (listed && too_many (length (reads_of run) ∷ [])) (listed && false)) fits
        ∙ ap (λ (x : Bool). all_rows false x (uneven (given A) || uneven (given B)) (listed && too_many (length (reads_of run) ∷ [])) (listed && false)) l
        ∙ ap (λ (x : Bool). all_rows false (too_long pa || too_long pb) x (listed && too_many (length (reads_of run) ∷ [])) (listed && false)) u
        ∙ ap (λ (x : Bool). all_rows false (too_long pa || too_long pb) (ragged pa || ragged pb) x (listed && false)) counted
        ∙ ap (λ (x : Bool). all_rows false (too_long pa || too_long pb) (ragged pa || ragged pb) (too_many (reads ∷ [])) x) (and-false listed)

    abbrev S : Strands
    S = strands (counts_of a) (counts_of b)

    -- The text by the row that refuses.
    abbrev text_by : Option Refusal → List ℕ
    text_by row = answer_text (by_number (answer row (kind_of A B))) S ts (columns (after row (record_in a b listed run).bases zeros) (after row (record_in a b listed run).quals zeros) (after row (record_in a b listed run).errors zeros))

    text_by_row : strands_text ts a b listed run ≡ text_by (refusal_of a b listed run)
    unfolding strands_text
    text_by_row = refl

    pub refused_text_lem : (row : Refusal) → own_row pa pb reads ≡ Some row → strands_text ts a b listed run ≡ refused_text (number_of row)
    refused_text_lem row e = text_by_row ∙ ap text_by (row_is ∙ e)

    abbrev c : Columns
    c = columns (put (record_in a b listed run).bases zeros) (put (record_in a b listed run).quals zeros) (put (record_in a b listed run).errors zeros)

    module _ (e : own_row pa pb reads ≡ None) where
      clear : ((too_long pa || too_long pb) ≡ false) × ((ragged pa || ragged pb) ≡ false)
      clear = cleared (too_long pa || too_long pb) (ragged pa || ragged pb) (too_many (reads ∷ [])) e

      few_a : positions A ≤ 1024
      few_a = few_positions a (sa.few (neither (too_long pa) (too_long pb) clear.0).0)

      few_b : positions B ≤ 1024
      few_b = few_positions b (sb.few (neither (too_long pa) (too_long pb) clear.0).1)

      pair_a : length (words16 a.depths) ≡ length (words16 a.errors)
      pair_a = sa.paired (neither (ragged pa) (ragged pb) clear.1).0

      pair_b : length (words16 b.depths) ≡ length (words16 b.errors)
      pair_b = sb.paired (neither (ragged pa) (ragged pb) clear.1).1

      even_alone : (n : ℕ) (d w : List ℕ) → n ≤ 1024 → length d ≡ length w → Even n (input d w false [] [] c.bases c.errors)
      even_alone n d w h same = record { small = h; first = same; other = λ s. refl; bases = ample (record_in a b listed run).bases; errors = ample (record_in a b listed run).errors }

      even_both : Even (record_length A B) (input (words16 a.depths) (words16 a.errors) true (words16 b.depths) (words16 b.errors) c.bases c.errors)
      even_both = record {
        small = few_record A B few_a few_b;
        first = pair_a;
        other = λ s. pair_b;
        bases = ample (record_in a b listed run).bases;
        errors = ample (record_in a b listed run).errors;
      }

      by_kind : (in_a in_b : Bool) → Printed (report_text (reported (Ok (cond in_a (cond in_b (Some (Both (record_length A B))) (Some (Ab (positions A)))) (cond in_b (Some (Ba (positions B))) None))) S ts c.bases c.errors) c)
      by_kind true true = printed c (own_report (record_length A B) (input (words16 a.depths) (words16 a.errors) true (words16 b.depths) (words16 b.errors) c.bases c.errors) even_both ts z Both-kind)
      by_kind true false = printed c (own_report (positions A) (input (words16 a.depths) (words16 a.errors) false [] [] c.bases c.errors) (even_alone (positions A) (words16 a.depths) (words16 a.errors) few_a pair_a) ts z Ab-kind)
      by_kind false true = printed c (own_report (positions B) (input (words16 b.depths) (words16 b.errors) false [] [] c.bases c.errors) (even_alone (positions B) (words16 b.depths) (words16 b.errors) few_b pair_b) ts z Ba-kind)
      by_kind false false = none refl

      opened : strands_text ts a b listed run ≡ report_text (reported (Ok (kind_of A B)) S ts c.bases c.errors) c
      opened = text_by_row ∙ ap text_by (row_is ∙ e)

      pub printed_text : Printed (strands_text ts a b listed run)
      printed_text = subst (λ (t : List ℕ). Printed t) (sym opened) (by_kind (covered (record_length A B) A) (covered (record_length A B) B))

-- The strand of some values that may be absent.
abbrev strand_by_values : Option (List ℕ) → Option (List ℕ) → Option (List ℕ) → Option (List ℕ) → Option (List ℕ) → StrandBytes
strand_by_values b q d e v = strand_bytes (is_some b) (annotation_in v) (value_or b) (value_or q) (value_or d) (value_or e) (drop 1 (value_or v))

by_parts : (s : Option StrandParts) → strand_in s ≡ strand_by_values (part_of (λ (x : StrandParts). Some x.bases) s) (part_of (λ (x : StrandParts). Some x.quals) s) (part_of (λ (x : StrandParts). Some x.depths) s) (part_of (λ (x : StrandParts). Some x.errors) s) (part_of (λ (x : StrandParts). x.annotation) s)
by_parts None = refl
by_parts (Some s) = refl

same_values : {b q d e v b' q' d' e' v' : Option (List ℕ)} → b ≡ b' → q ≡ q' → d ≡ d' → e ≡ e' → v ≡ v' → strand_by_values b q d e v ≡ strand_by_values b' q' d' e' v'
same_values {b} {q} {d} {e} {v} {b'} {q'} {d'} {e'} {v'} hb hq hd he hv =
    ap (λ (x : Option (List ℕ)). strand_by_values x q d e v) hb
    ∙ ap (λ (x : Option (List ℕ)). strand_by_values b' x d e v) hq
    ∙ ap (λ (x : Option (List ℕ)). strand_by_values b' q' x e v) hd
    ∙ ap (λ (x : Option (List ℕ)). strand_by_values b' q' d' x v) he
    ∙ ap (λ (x : Option (List ℕ)). strand_by_values b' q' d' e' x) hv

strand_is : (fs : List Field) (first : ℕ) (s : Option StrandParts) → StrandIs fs first s → strand_in s ≡ strand_in_lem first fs
strand_is fs first s h = by_parts s ∙ same_values h.bases h.quals h.depths h.errors h.annotation ∙ rw (value_there first fs, value_there (first + 4) fs)

-- The text, given the thresholds, the strands, and the reads.
abbrev text_of : List ℕ → StrandBytes → StrandBytes → Bool → List ℕ → List ℕ
text_of ts a b listed run = text_unless (refused ts) (strands_text ts a b listed run)

module _ (fs : List Field) (m : MoleculeParts) (parts : PartsAre fs m) where
  text_is : molecule_text m ≡ text_of (words32 (value 0x01 fs)) (strand_in_lem 0x10 fs) (strand_in_lem 0x20 fs) (has 0x2f fs) (encoded (with_tag 0x30 fs))
  unfolding molecule_text read_text
  text_is =
      ap (λ (v : Option (List ℕ)). text_of (words32 (value_or v)) (strand_in m.a) (strand_in m.b) (is_some m.reads) (value_or m.reads)) parts.thresholds
      ∙ ap (λ (s : StrandBytes). text_of (words32 (value 0x01 fs)) s (strand_in m.b) (is_some m.reads) (value_or m.reads)) (strand_is fs 0x10 m.a parts.a)
      ∙ ap (λ (s : StrandBytes). text_of (words32 (value 0x01 fs)) (strand_in_lem 0x10 fs) s (is_some m.reads) (value_or m.reads)) (strand_is fs 0x20 m.b parts.b)
      ∙ ap (λ (l : Bool). text_of (words32 (value 0x01 fs)) (strand_in_lem 0x10 fs) (strand_in_lem 0x20 fs) l (value_or m.reads)) parts.listed
      ∙ ap (λ (r : List ℕ). text_of (words32 (value 0x01 fs)) (strand_in_lem 0x10 fs) (strand_in_lem 0x20 fs) (has 0x2f fs) r) (same_value m.reads ∙ parts.reads)

reads_are : {bytes : List ℕ} {fs : List Field} → EncodesMolecule bytes fs → ReadsAre (with_tag 0x30 fs)
reads_are {bytes} {fs} x = each_read (with_tag 0x30 fs) (tagged_short fs x.encodes.short) (only_these (with_tag 0x30 fs) (tagged_reads fs (all_fit fs x.is_valid)))

pub the_reads : TheReads
the_reads bytes m small e =
    let x = (only bytes m small e).0 in
    let parts = holds bytes (whole_fields bytes) m x e in
    rw parts.reads (reads_are x).reads

module _ (bytes : List ℕ) (fs : List Field) (m : MoleculeParts) (x : EncodesMolecule bytes fs) (e : decoded bytes ≡ Ok m) where
  abbrev run : List ℕ
  run = encoded (with_tag 0x30 fs)

  abbrev ts : List ℕ
  ts = words32 (value 0x01 fs)

  abbrev pub own : Option Refusal
  own = own_row (places 0x10 fs) (places 0x20 fs) (length (with_tag 0x30 fs))

  how_many : length (reads_of run) ≡ length (with_tag 0x30 fs)
  how_many = sym (length-map (reads_of run) (shown run)) ∙ ap length (reads_are x).reads ∙ length-map (with_tag 0x30 fs) said

  counted_are : (has 0x2f fs && too_many (length (reads_of run) ∷ [])) ≡ too_many (length (with_tag 0x30 fs) ∷ [])
  counted_are = go (has 0x2f fs) refl
    where
      go : (listed : Bool) → has 0x2f fs ≡ listed → (listed && too_many (length (reads_of run) ∷ [])) ≡ too_many (length (with_tag 0x30 fs) ∷ [])
      go true h = ap (λ (n : ℕ). too_many (n ∷ [])) how_many
      go false h = rw (no_reads fs x.is_valid h)

  here : molecule_text m ≡ text_of ts (strand_in_lem 0x10 fs) (strand_in_lem 0x20 fs) (has 0x2f fs) run
  here = text_is fs m (holds bytes fs m x e)

  abbrev strands_text_of : List ℕ
  strands_text_of = strands_text ts (strand_in_lem 0x10 fs) (strand_in_lem 0x20 fs) (has 0x2f fs) run

  pub by_thresholds : (row : Refusal) → refused ts ≡ Some row → molecule_text m ≡ refused_text (number_of row)
  by_thresholds row r = here ∙ ap (λ (k : Option Refusal). text_unless k strands_text_of) r

  module _ (z : refused ts ≡ None) where
    strands_text_lem : molecule_text m ≡ strands_text_of
    strands_text_lem = here ∙ ap (λ (k : Option Refusal). text_unless k strands_text_of) z

    pub by_rows : (row : Refusal) → own ≡ Some row → molecule_text m ≡ refused_text (number_of row)
    by_rows row r =
        strands_text_lem
        ∙ refused_text_lem ts z (strand_in_lem 0x10 fs) (strand_in_lem 0x20 fs) (places 0x10 fs) (places 0x20 fs) (sized_a fs x.is_valid) (sized_b fs x.is_valid) (has 0x2f fs) run (length (with_tag 0x30 fs)) (reads_are x).whole counted_are row r

    pub by_record : own ≡ None → Printed (molecule_text m)
    by_record r =
        subst (λ (t : List ℕ). Printed t) (sym strands_text_lem)
        (printed_text ts z (strand_in_lem 0x10 fs) (strand_in_lem 0x20 fs) (places 0x10 fs) (places 0x20 fs) (sized_a fs x.is_valid) (sized_b fs x.is_valid) (has 0x2f fs) run (length (with_tag 0x30 fs)) (reads_are x).whole counted_are r)
