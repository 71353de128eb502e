-- What duplexline prints for some bytes, with what a record's metrics were asked of: `record_printed`. Assumes nothing.
use mathlib.Core.Path.{◌≡◌, refl, sym, ap, subst, ◌∙◌}
use mathlib.Core.Bool.{Bool, true, false, cond, not, ◌&&◌, ◌||◌, true≢false}
use mathlib.Core.List.{List, [], ◌∷◌}
use Prim.Native.Nat.{ℕ, ◌+◌, ◌≤◌}
use native.Mathlib.Omega.{arith}
use lib.Dec.{leb}
use lib.ListN.{length, take, get_or, length-append, length-take, length-drop, length-replicate}
use Rattle.std.proofs.Common.{Option, Some, None, Result, Ok, Err, unwrap_or}
use Rattle.std.specs.Prelude.{is_some}
use Rattle.lists.specs.Output.{put}
use Rattle.lists.specs.Part.{only_if}
use Rattle.refusals.specs.declared.Refusal.{Refusal}
use Rattle.refusals.specs.declared.Refusal.TheVariants.{Broken}
use Rattle.refusals.specs.Refusal.{◌if◌, number_of, too_long}
use Rattle.refusals.specs.Outcome.{answer, after, by_number, zeros}
use Rattle.refusals.proofs.Claims.{none_lost}
use Rattle.refusals.proofs.Condition.{both_hold, neither, not_too_long}
use Rattle.byte_numbers.specs.Bytes.{words16}
use Rattle.fields.specs.Encoding.{Field, cut_field, whole_fields}
use Rattle.molecule_encoding.specs.Format.{MoleculeParts, most_bytes, all_or_none, whole_strand, annotated_strand, valid, accepted, molecule, decoded, strand_by, strand_of as fields_of, value_of}
use Rattle.molecule_encoding.proofs.Parts.{a_whole, b_whole}
use Rattle.molecule_encoding.proofs.Values.{value_there}
use Rattle.molecule_strand.specs.Strand.{StrandBytes, strand_bytes, strand_of}
use Rattle.duplex_outputs.specs.Outputs.{RecordArrays}
use Rattle.duplex_min_reads.specs.MinReads.{refused}
use Rattle.duplex_gate.specs.ConsensusGate.{consensus_gate}
use Rattle.duplex_kind.specs.Kind.{Strand, given, positions, record_length, covered, kind_of, long, strand_faults}
use Rattle.duplex_kind.specs.declared.DuplexConsensus.TheVariants.{Ab, Ba, Both}
use Rattle.duplex_kind.proofs.Kind.{few_record}
use Rattle.duplex_metrics.specs.Metrics.{Input, input, metrics_of}
use Rattle.metrics_bits.specs.Bits.{metrics_words}
use Rattle.metrics_bits.specs.declared.MetricsBits.{MetricsBits}
use Rattle.molecule_consensus.specs.Bytes.{seen, broken}
use Rattle.molecule_reads.specs.Run.{reads_of}
use Rattle.line_format.specs.Line.{Columns, columns, kind_text, line_text, none_text, refused_text}
use Rattle.line_format.specs.declared.Kind.{Kind}
use Rattle.line_format.specs.declared.Kind.TheVariants.{Ab as Ab-kind, Ba as Ba-kind, Both as Both-kind}
use Rattle.line_report.specs.Report.{Strands, strands, gated_report, front_input, record_report, some_report, reported}
use Rattle.line_record.specs.Line.{front, report_text, answer_text}
use Rattle.line_strands.specs.Strands.{refusal_of, record_in, counts_of, strands_text}
use Rattle.line_molecule.specs.Line.{value_or, thresholds_of, strand_in, read_text, text_unless, molecule_text, decoded_text, text_of}
use Rattle.honest_rates.specs.Text.{column}
use Rattle.honest_rates.specs.HonestRates.{Own, ab, ba, both, kind_word, from_numbers, from_molecule}
use Rattle.honest_rates.proofs.Text.{column_kind, none_word, refused_word}

abbrev pub kind_in : Own → Kind
kind_in ab = Ab-kind
kind_in ba = Ba-kind
kind_in both = Both-kind

-- A record's text: what its metrics were asked of, and that this is what the claim says they are of.
pub record IsRecord (bytes : List ℕ) (own : Own) (text : List ℕ) : Type 0 where
  pub kept : Bool
  pub c : Columns
  pub metrics : MetricsBits
  pub is : text ≡ line_text (kind_in own) kept c metrics
  pub asked : Input
  pub words : metrics_words (metrics_of asked) ≡ Ok metrics
  pub same : from_numbers asked ≡ from_molecule bytes own (length c.bases) c.errors

data Outcome (bytes text : List ℕ) : Type 0 where
  no_call : (n : ℕ) → text ≡ refused_text n → Outcome bytes text
  no_record : text ≡ none_text → Outcome bytes text
  a_record : (own : Own) → IsRecord bytes own text → Outcome bytes text

-- A strand has at most 1,024 bases where row 7 does not refuse it.
few_bases : (s : StrandBytes) → long (given (strand_of (seen s))) ≡ false → positions (strand_of (seen s)) ≤ 1024
unfolding strand_of only_if
few_bases s h = go s.present h
  where
    go : (present : Bool) → long (given (strand_of (seen (strand_bytes present s.annotation s.bases s.quals s.depths s.errors s.evidence)))) ≡ false → length (cond present s.bases []) ≤ 1024
    go true h =
        let four : List ℕ = length s.bases ∷ length s.quals ∷ length (words16 s.depths) ∷ length (words16 s.errors) ∷ [] in
        (not_too_long four (neither (too_long four) _ h).0).0
    go false h = omega arith

-- So many places of a buffer of 1,024 to whose front something was written.
in_front : (n : ℕ) (xs : List ℕ) → n ≤ 1024 → length (take n (put xs zeros)) ≡ n
unfolding put
in_front n xs h = simp (length-take, length-append, length-drop, length-replicate) (omega arith)

-- A record's report, given the arrays that it was written to and what its metrics are asked of.
module _ (bytes ts : List ℕ) (c : Columns) (own : Own) (n : ℕ) (x : Input) (same : from_numbers (front_input n x) ≡ from_molecule bytes own (length (take n c.bases)) (take n c.errors)) where
  by_gate : (g : Result Bool Refusal) (w : Result MetricsBits Refusal) → metrics_words (metrics_of (front_input n x)) ≡ w → Outcome bytes (report_text (some_report (gated_report (kind_in own) n g w)) c)
  by_gate (Err row) w e = no_call (number_of row) refl
  by_gate (Ok kept) (Err row) e = no_call (number_of row) refl
  by_gate (Ok kept) (Ok metrics) e = a_record own (record { kept = kept; c = front n c; metrics = metrics; is = refl; asked = front_input n x; words = e; same = same })

  reported_record : Outcome bytes (report_text (some_report (record_report (kind_in own) n x ts)) c)
  reported_record = by_gate (consensus_gate n (take n x.a) (take n x.b) ts) (metrics_words (metrics_of (front_input n x))) refl

-- The numbers of a strand that has all of its first four fields or none.
abbrev Has : Option (List ℕ) → Option (List ℕ) → StrandBytes → Type 0
Has d e s = (s.depths ≡ unwrap_or d []) × (s.errors ≡ unwrap_or e [])

by_values : (b q d e v : Option (List ℕ)) → all_or_none (is_some b) (is_some q) (is_some d) (is_some e) ≡ true → Has d e (strand_in (strand_by b q d e v))
by_values (Some b) (Some q) (Some d) (Some e) v h = (refl, refl)
by_values (Some b) (Some q) (Some d) None v h = absurd (true≢false (sym h))
by_values (Some b) (Some q) None e v h = absurd (true≢false (sym h))
by_values (Some b) None d e v h = absurd (true≢false (sym h))
by_values None (Some q) d e v h = absurd (true≢false (sym h))
by_values None None (Some d) e v h = absurd (true≢false (sym h))
by_values None None None (Some e) v h = absurd (true≢false (sym h))
by_values None None None None v h = (refl, refl)

has_fields : (first : ℕ) (fs : List Field) → (whole_strand first fs && annotated_strand first fs) ≡ true → Has (value_of (first + 2) fs) (value_of (first + 3) fs) (strand_in (fields_of first fs))
unfolding fields_of whole_strand
has_fields first fs v =
    let (w, _) = both_hold (whole_strand first fs) (annotated_strand first fs) v in
    by_values (value_of first fs) (value_of (first + 1) fs) (value_of (first + 2) fs) (value_of (first + 3) fs) (value_of (first + 4) fs) (simp value_there w)

module _ (bytes : List ℕ) (v : valid (whole_fields bytes) ≡ true) where
  abbrev fs : List Field
  fs = whole_fields bytes

  abbrev m : MoleculeParts
  m = molecule bytes fs

  abbrev a : StrandBytes
  a = strand_in m.a

  abbrev b : StrandBytes
  b = strand_in m.b

  -- A strand's numbers are those of its fields.
  a_depths : words16 a.depths ≡ words16 (unwrap_or (value_of 0x12 fs) [])
  unfolding molecule
  a_depths = ap words16 (has_fields 0x10 fs (a_whole fs v)).0

  a_errors : words16 a.errors ≡ words16 (unwrap_or (value_of 0x13 fs) [])
  unfolding molecule
  a_errors = ap words16 (has_fields 0x10 fs (a_whole fs v)).1

  b_depths : words16 b.depths ≡ words16 (unwrap_or (value_of 0x22 fs) [])
  unfolding molecule
  b_depths = ap words16 (has_fields 0x20 fs (b_whole fs v)).0

  b_errors : words16 b.errors ≡ words16 (unwrap_or (value_of 0x23 fs) [])
  unfolding molecule
  b_errors = ap words16 (has_fields 0x20 fs (b_whole fs v)).1

  module _ (n : ℕ) (bases errors : List ℕ) (long : length (take n bases) ≡ n) where
    same_both : from_numbers (front_input n (input (words16 a.depths) (words16 a.errors) true (words16 b.depths) (words16 b.errors) bases errors)) ≡ from_molecule bytes both (length (take n bases)) (take n errors)
    same_both = rw (long, a_depths, a_errors, b_depths, b_errors)

    same_ab : from_numbers (front_input n (input (words16 a.depths) (words16 a.errors) false [] [] bases errors)) ≡ from_molecule bytes ab (length (take n bases)) (take n errors)
    same_ab = rw (long, a_depths, a_errors)

    same_ba : from_numbers (front_input n (input (words16 b.depths) (words16 b.errors) false [] [] bases errors)) ≡ from_molecule bytes ba (length (take n bases)) (take n errors)
    same_ba = rw (long, b_depths, b_errors)

  abbrev ts : List ℕ
  ts = thresholds_of m

  abbrev A : Strand
  A = strand_of (seen a)

  abbrev B : Strand
  B = strand_of (seen b)

  abbrev listed : Bool
  listed = is_some m.reads

  abbrev run : List ℕ
  run = value_or m.reads

  abbrev S : Strands
  S = strands (counts_of a) (counts_of b)

  module _ (few_a : positions A ≤ 1024) (few_b : positions B ≤ 1024) (bs qs es : List ℕ) where
    abbrev placed : Columns
    placed = columns (put bs zeros) (put qs zeros) (put es zeros)

    by_kind : (in_a in_b : Bool) → Outcome bytes (report_text (reported (Ok (cond in_a (cond in_b (Some (Both (record_length A B))) (Some (Ab (positions A)))) (cond in_b (Some (Ba (positions B))) None))) S ts (put bs zeros) (put es zeros)) placed)
    by_kind true true =
        reported_record bytes ts placed both (record_length A B) (input (words16 a.depths) (words16 a.errors) true (words16 b.depths) (words16 b.errors) (put bs zeros) (put es zeros))
        (same_both (record_length A B) (put bs zeros) (put es zeros) (in_front (record_length A B) bs (few_record A B few_a few_b)))
    by_kind true false =
        reported_record bytes ts placed ab (positions A) (input (words16 a.depths) (words16 a.errors) false [] [] (put bs zeros) (put es zeros))
        (same_ab (positions A) (put bs zeros) (put es zeros) (in_front (positions A) bs few_a))
    by_kind false true =
        reported_record bytes ts placed ba (positions B) (input (words16 b.depths) (words16 b.errors) false [] [] (put bs zeros) (put es zeros))
        (same_ba (positions B) (put bs zeros) (put es zeros) (in_front (positions B) bs few_b))
    by_kind false false = no_record refl

  -- Row 7 did not refuse.
  not_long : refusal_of a b listed run ≡ None → (long (given A) || long (given B)) ≡ false
  not_long z = (none_lost ((Broken if broken (seen a) (seen b) listed run) ∷ strand_faults A B listed (length (reads_of run)) false) z).1.0

  abbrev made : RecordArrays
  made = record_in a b listed run

  -- The text by the row that refuses.
  abbrev text_by : Option Refusal → List ℕ
  text_by row = answer_text (by_number (answer row (kind_of A B))) S ts (columns (after row made.bases zeros) (after row made.quals zeros) (after row made.errors zeros))

  abbrev strands_text_of : List ℕ
  strands_text_of = strands_text ts a b listed run

  text_by_row : strands_text_of ≡ text_by (refusal_of a b listed run)
  unfolding strands_text
  text_by_row = refl

  by_row : (row : Option Refusal) → refusal_of a b listed run ≡ row → Outcome bytes strands_text_of
  by_row (Some row) e = no_call (number_of row) (text_by_row ∙ ap text_by e)
  by_row None e =
      let (long_a, long_b) = neither (long (given A)) (long (given B)) (not_long e) in
      subst (λ (t : List ℕ). Outcome bytes t) (sym (text_by_row ∙ ap text_by e))
      (by_kind (few_bases a long_a) (few_bases b long_b) made.bases made.quals made.errors (covered (record_length A B) A) (covered (record_length A B) B))

  text_is : molecule_text m ≡ text_unless (refused ts) strands_text_of
  unfolding molecule_text read_text
  text_is = refl

  by_thresholds : (row : Option Refusal) → refused ts ≡ row → Outcome bytes (molecule_text m)
  by_thresholds (Some row) e = no_call (number_of row) (text_is ∙ ap (λ (r : Option Refusal). text_unless r strands_text_of) e)
  by_thresholds None e =
      subst (λ (t : List ℕ). Outcome bytes t) (sym (text_is ∙ ap (λ (r : Option Refusal). text_unless r strands_text_of) e)) (by_row (refusal_of a b listed run) refl)

is_valid : (bytes : List ℕ) → accepted bytes ≡ true → valid (whole_fields bytes) ≡ true
unfolding accepted
is_valid bytes e =
    let (_, others) = both_hold (leb (length bytes) most_bytes) (not (cut_field bytes) && valid (whole_fields bytes)) e in
    (both_hold (not (cut_field bytes)) (valid (whole_fields bytes)) others).1

outcome : (bytes : List ℕ) → Outcome bytes (text_of bytes)
unfolding text_of decoded
outcome bytes = go (accepted bytes) refl
  where
    go : (t : Bool) → accepted bytes ≡ t → Outcome bytes (decoded_text (cond t (Ok (molecule bytes (whole_fields bytes))) (Err Broken)))
    go true e = by_thresholds bytes (is_valid bytes e) (refused (thresholds_of (molecule bytes (whole_fields bytes)))) refl
    go false e = no_call 13 refl

-- The kinds' words differ from each other in the second letter, and from the others' in the first.
same_own : (p q : Own) → kind_text (kind_in p) ≡ kind_word q → p ≡ q
unfolding kind_text
same_own ab ab e = refl
same_own ba ba e = refl
same_own both both e = refl
same_own ab ba e = absurd (let no : ◌≡◌ {A = ℕ} 98 97 = ap (λ (w : List ℕ). get_or w 1 0) e in omega arith)
same_own ab both e = absurd (let no : ◌≡◌ {A = ℕ} 98 111 = ap (λ (w : List ℕ). get_or w 1 0) e in omega arith)
same_own ba ab e = absurd (let no : ◌≡◌ {A = ℕ} 97 98 = ap (λ (w : List ℕ). get_or w 1 0) e in omega arith)
same_own ba both e = absurd (let no : ◌≡◌ {A = ℕ} 97 111 = ap (λ (w : List ℕ). get_or w 1 0) e in omega arith)
same_own both ab e = absurd (let no : ◌≡◌ {A = ℕ} 111 98 = ap (λ (w : List ℕ). get_or w 1 0) e in omega arith)
same_own both ba e = absurd (let no : ◌≡◌ {A = ℕ} 111 97 = ap (λ (w : List ℕ). get_or w 1 0) e in omega arith)

first_letter : (own : Own) → (97 ≤ get_or (kind_word own) 0 0) × (get_or (kind_word own) 0 0 ≤ 98)
first_letter ab = (omega arith, omega arith)
first_letter ba = (omega arith, omega arith)
first_letter both = (omega arith, omega arith)

pub record_printed : (bytes : List ℕ) (own : Own) → column 0 (text_of bytes) ≡ kind_word own → IsRecord bytes own (text_of bytes)
record_printed bytes own e = go (outcome bytes)
  where
    go : Outcome bytes (text_of bytes) → IsRecord bytes own (text_of bytes)
    go (no_call n is) =
        let first : 0 ≡ get_or (kind_word own) 0 0 = ap (λ (w : List ℕ). get_or w 0 0) (sym (refused_word n) ∙ sym (ap (column 0) is) ∙ e) in
        absurd (omega (arith, (first_letter own).0))
    go (no_record is) =
        let first : 110 ≡ get_or (kind_word own) 0 0 = ap (λ (w : List ℕ). get_or w 0 0) (sym none_word ∙ sym (ap (column 0) is) ∙ e) in
        absurd (omega (arith, (first_letter own).1))
    go (a_record p r) =
        subst (λ (q : Own). IsRecord bytes q (text_of bytes)) (same_own p own (sym (column_kind (kind_in p) r.kept r.c r.metrics) ∙ sym (ap (column 0) r.is) ∙ e)) r
