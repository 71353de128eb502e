-- The rows in their order.
--     seen_same        what is looked at of a strand as the code has it
--     settled_whole    depths that were read in part do not matter: the rows by lengths refuse such strands first
--     listed_is        the kind by the strands, the settings, the lengths and the list, with the rows over all that is given
--     given_refused, given_passed, same_short     row 12 behind them
--     given_pass, given_within     what of them a call says that is not refused by them
-- Assumes nothing.
use mathlib.Core.Path.{◌≡◌, refl, sym, ap, ◌∙◌}
use mathlib.Core.Bool.{Bool, true, false, cond, not, ◌||◌, ◌&&◌}
use mathlib.Core.List.{List, [], ◌∷◌, ◌++◌}
use Prim.Native.Nat.{ℕ, ◌/◌, zero-le}
use borrow.Author.Tests.{le-ltb}
use lib.ListN.{length, take}
use Rattle.std.proofs.Common.{Option, Some, None, Result, Ok, Err}
use Rattle.lists.specs.Part.{only_if}
use Rattle.refusals.specs.declared.Refusal.{Refusal}
use Rattle.refusals.specs.declared.Refusal.TheVariants.{Broken, CeilingOutside, TooLong, OverLimit, Ragged, TooManyReads, PartOutside, OutputTooShort}
use Rattle.refusals.specs.Refusal.{too_many, refused}
use Rattle.refusals.specs.Outcome.{answer}
use Rattle.refusals.proofs.Claims.{none_lost}
use Rattle.refusals.proofs.Condition.{neither}
use Rattle.phred.specs.Phred.{ceiling_outside}
use Rattle.settings.specs.Settings.{settings_faults}
use Rattle.settings.specs.declared.GivenSettings.{GivenSettings}
use Rattle.byte_numbers.specs.Bytes.{words16}
use Rattle.vanilla_caller.specs.declared.Lengths.{Lengths}
use Rattle.duplex_outputs.specs.Outputs.{RecordArrays, record_lengths, record_too_short}
use Rattle.duplex_kind.specs.Kind.{Strand, given, kind_by as kind_of_given, kind_of, long, uneven, strand_faults}
use Rattle.duplex_kind.specs.Limit.{lengths_of, over_in, limit_faults}
use Rattle.duplex_kind.proofs.Limit.{Within, long_over}
use Rattle.duplex_kind.specs.declared.DuplexConsensus.{DuplexConsensus}
use Rattle.duplex_kind.specs.declared.DuplexConsensus.TheVariants.{Ab, Ba, Both}
use Rattle.duplex_record.specs.Record.{outputs_short}
use Rattle.molecule_fields.specs.Widths.{is_run}
use Rattle.molecule_reads.specs.Run.{reads_of}
use Rattle.molecule_strand.specs.Rows.{misfit_in, given_by, kind_by, kind_read}
use Rattle.molecule_strand.specs.Strand.{StrandBytes, strand_bytes, strand_of, pattern_held, encoded_in}
use Rattle.molecule_strand.specs.declared.EncodedStrand.{EncodedStrand}
use Rattle.molecule_strand.proofs.Kind.{kind_whole}
use Rattle.molecule_strand.proofs.Strand.{held_seen}
use Rattle.molecule_consensus.specs.Bytes.{seen, misfit, broken, bytes_faults, inputs_faults}
use Rattle.c_record.specs.Outputs.{written_of, short_for}
use Rattle.c_consensus.specs.Parts.{Settled, both_of, settled, within_limit, unless_many, with_list}

pub seen_same : (s : Option EncodedStrand) → seen (encoded_in s) ≡ encoded_in s
unfolding only_if
seen_same None = refl
seen_same (Some s) = ap (λ (e : List ℕ). strand_bytes true (pattern_held s.methylation) s.bases.now s.quals.now s.depths.now s.errors.now e) (held_seen s.methylation)

-- The kind of the strands by their rows, the settings by theirs, the lengths by theirs, and the same with the list's.
abbrev of_strands : Bool → Bool → Bool → Option DuplexConsensus → Result (Option DuplexConsensus) Refusal
of_strands p l u made = cond p (Err Broken) (answer (cond l (Some TooLong) (cond u (Some Ragged) None)) made)

abbrev of_lengths : Bool → Bool → Result (Unit {0}) Refusal
of_lengths l v = answer (cond l (Some TooLong) (cond v (Some OverLimit) None)) tt

abbrev rows : Bool → Bool → Bool → Bool → Bool → Bool → Bool → Option Refusal → Option Refusal
rows x c l v u t g rest = cond x (Some Broken) (cond c (Some CeilingOutside) (cond l (Some TooLong) (cond v (Some OverLimit) (cond u (Some Ragged) (cond t (Some TooManyReads) (cond g (Some PartOutside) rest))))))

abbrev of_settings : Bool → Bool → Bool → GivenSettings → Result (Option DuplexConsensus) Refusal → Settled
of_settings c l v lab kind = settled (answer (cond c (Some CeilingOutside) None) lab) (of_lengths l v) kind

-- Where the lengths refuse, of the kind its 13 alone is looked at.
broken_alone : (tested : Result GivenSettings Refusal) (row : Refusal) (p l u : Bool) (made : Option DuplexConsensus) → settled tested (Err row) (of_strands p l u made) ≡ cond p (Err Broken) (both_of tested (Err row) (Ok None))
broken_alone tested row true l u made = refl
broken_alone (Ok lab) row false true u made = refl
broken_alone (Ok lab) row false false true made = refl
broken_alone (Ok lab) row false false false made = refl
broken_alone (Err other) row false true u made = refl
broken_alone (Err other) row false false true made = refl
broken_alone (Err other) row false false false made = refl

module _ (tested : Result GivenSettings Refusal) (limit : ℕ) (a b : StrandBytes) (x y : List ℕ) where
  abbrev near : StrandBytes → Option Lengths
  near s = lengths_of (strand_of s)

  abbrev far : Bool
  far = over_in 1024 (near a) || over_in 1024 (near b)

  abbrev over : Bool
  over = over_in limit (near a) || over_in limit (near b)

  refused_alike : (row : Refusal) → settled tested (Err row) (kind_read a b x y) ≡ settled tested (Err row) (kind_by a b)
  refused_alike row =
      broken_alone tested row (misfit_in a || misfit_in b) (long (given_by a x) || long (given_by b y)) (uneven (given_by a x) || uneven (given_by b y)) (kind_of_given (given_by a x) (given_by b y))
      ∙ sym
      (broken_alone tested row (misfit_in a || misfit_in b) (long (given (strand_of a)) || long (given (strand_of b))) (uneven (given (strand_of a)) || uneven (given (strand_of b)))
      (kind_of (strand_of a) (strand_of b)))

  -- Depths of strands that are over neither limit were read as they are.
  pub settled_whole :
      (over_in 1024 (near a) ≡ false → over_in limit (near a) ≡ false → take (length a.depths / 2) x ≡ words16 a.depths)
      → (over_in 1024 (near b) ≡ false → over_in limit (near b) ≡ false → take (length b.depths / 2) y ≡ words16 b.depths)
      → settled tested (within_limit limit a b) (kind_read a b x y) ≡ settled tested (within_limit limit a b) (kind_by a b)
  settled_whole f g = go far over refl refl
    where
      go : (l v : Bool) → far ≡ l → over ≡ v → settled tested (of_lengths l v) (kind_read a b x y) ≡ settled tested (of_lengths l v) (kind_by a b)
      go true v d e = refused_alike TooLong
      go false true d e = refused_alike OverLimit
      go false false d e =
          let (far_a, far_b) = neither (over_in 1024 (near a)) (over_in 1024 (near b)) d in
          let (over_a, over_b) = neither (over_in limit (near a)) (over_in limit (near b)) e in
          ap (λ (k : Result (Option DuplexConsensus) Refusal). settled tested (Ok tt) k) (kind_whole a b x y (λ _. f far_a over_a) (λ _. g far_b over_b))

listing :
    (listed w p q c l v u t : Bool) (lab : GivenSettings) (made : Option DuplexConsensus)
    → cond listed (cond w (unless_many t (of_settings c l v lab (of_strands (p || q) l u made))) (Err Broken)) (of_settings c l v lab (of_strands (p || q) l u made))
    ≡ answer (rows (p || (q || (listed && not w))) c l v u (listed && t) (listed && false) None) (made, lab)
listing false w true q c l v u t lab made = refl
listing false w false true c l v u t lab made = refl
listing false w false false true true v u t lab made = refl
listing false w false false true false v true t lab made = refl
listing false w false false true false v false t lab made = refl
listing false w false false false true v u t lab made = refl
listing false w false false false false true true t lab made = refl
listing false w false false false false true false t lab made = refl
listing false w false false false false false true t lab made = refl
listing false w false false false false false false t lab made = refl
listing true false true q c l v u t lab made = refl
listing true false false true c l v u t lab made = refl
listing true false false false c l v u t lab made = refl
listing true true true q c l v u t lab made = refl
listing true true false true c l v u t lab made = refl
listing true true false false true true v u t lab made = refl
listing true true false false true false v true t lab made = refl
listing true true false false true false v false t lab made = refl
listing true true false false false true v u t lab made = refl
listing true true false false false false true true t lab made = refl
listing true true false false false false true false t lab made = refl
listing true true false false false false false true t lab made = refl
listing true true false false false false false false true lab made = refl
listing true true false false false false false false false lab made = refl

module _ (lab : GivenSettings) (a b : StrandBytes) (listed : Bool) (run : List ℕ) where
  abbrev first : Strand
  first = strand_of a

  abbrev second : Strand
  second = strand_of b

  abbrev pub kind : Option DuplexConsensus
  kind = kind_of first second

  abbrev pub inputs : Option Refusal
  inputs = refused (settings_faults lab ++ limit_faults lab.limit (lengths_of first) (lengths_of second) ++ inputs_faults a b listed run)

  -- What these rows leave of it.
  abbrev pub of_inputs : Settled
  of_inputs = answer inputs (kind, lab)

  -- All rows, with row 12 for these outputs.
  abbrev pub all : RecordArrays → Option Refusal
  all out = refused (settings_faults lab ++ limit_faults lab.limit (lengths_of first) (lengths_of second) ++ bytes_faults a b listed run out)

  abbrev C : Bool
  C = ceiling_outside lab.ceiling

  abbrev L : Bool
  L = long (given first) || long (given second)

  abbrev V : Bool
  V = over_in lab.limit (lengths_of first) || over_in lab.limit (lengths_of second)

  abbrev U : Bool
  U = uneven (given first) || uneven (given second)

  abbrev T : Bool
  T = listed && too_many (length (reads_of run) ∷ [])

  -- Row 7 by the lengths is row 7 by what is given.
  same_long : (over_in 1024 (lengths_of first) || over_in 1024 (lengths_of second)) ≡ L
  same_long = rw (long_over first, long_over second) refl

  pub listed_is : misfit_in a ≡ misfit a → misfit_in b ≡ misfit b → with_list listed run (settled (answer (refused (settings_faults lab)) lab) (within_limit lab.limit a b) (kind_by a b)) ≡ of_inputs
  listed_is e f =
      ap (λ (l : Bool). with_list listed run (of_settings C l V lab (kind_by a b))) same_long
      ∙ ap (λ (k : Result (Option DuplexConsensus) Refusal). with_list listed run (of_settings C L V lab k)) (ap (λ (p : Bool). of_strands (p || misfit_in b) L U kind) e ∙ ap (λ (q : Bool). of_strands (misfit a || q) L U kind) f)
      ∙ listing listed (is_run run) (misfit a) (misfit b) C L V U (too_many (length (reads_of run) ∷ [])) lab kind

  abbrev pub last_row : Bool → Option Refusal
  last_row s = cond s (Some OutputTooShort) None

  pub given_refused : (out : RecordArrays) {row : Refusal} → inputs ≡ Some row → all out ≡ Some row
  given_refused out e = first_row (broken a b listed run) C L V U T (listed && false) (last_row (outputs_short first second out kind)) e
    where
      first_row : (x c l v u t g : Bool) (rest : Option Refusal) {row : Refusal} → rows x c l v u t g None ≡ Some row → rows x c l v u t g rest ≡ Some row
      first_row true c l v u t g rest e = e
      first_row false true l v u t g rest e = e
      first_row false false true v u t g rest e = e
      first_row false false false true u t g rest e = e
      first_row false false false false true t g rest e = e
      first_row false false false false false true g rest e = e
      first_row false false false false false false true rest e = e
      first_row false false false false false false false rest e = absurd cc

  pub given_passed : (out : RecordArrays) → inputs ≡ None → all out ≡ last_row (outputs_short first second out kind)
  given_passed out e = only_last (broken a b listed run) C L V U T (listed && false) (last_row (outputs_short first second out kind)) e
    where
      only_last : (x c l v u t g : Bool) (rest : Option Refusal) → rows x c l v u t g None ≡ None → rows x c l v u t g rest ≡ rest
      only_last true c l v u t g rest e = absurd cc
      only_last false true l v u t g rest e = absurd cc
      only_last false false true v u t g rest e = absurd cc
      only_last false false false true u t g rest e = absurd cc
      only_last false false false false true t g rest e = absurd cc
      only_last false false false false false true g rest e = absurd cc
      only_last false false false false false false true rest e = absurd cc
      only_last false false false false false false false rest e = refl

  pub given_pass : inputs ≡ None → refused (strand_faults first second listed (length (reads_of run)) false) ≡ None
  given_pass e = others (broken a b listed run) C L V U T (listed && false) e
    where
      others : (x c l v u t g : Bool) → rows x c l v u t g None ≡ None → rows false false l false u t g None ≡ None
      others true c l v u t g e = absurd cc
      others false true l v u t g e = absurd cc
      others false false true v u t g e = absurd cc
      others false false false true u t g e = absurd cc
      others false false false false u t g e = e

  -- Neither strand is then over either limit.
  pub given_within : inputs ≡ None → Within lab.limit (lengths_of first) (lengths_of second)
  given_within e =
      let clear = none_lost (settings_faults lab ++ limit_faults lab.limit (lengths_of first) (lengths_of second) ++ inputs_faults a b listed run) e in
      let (over_a, over_b) = neither (over_in lab.limit (lengths_of first)) (over_in lab.limit (lengths_of second)) clear.1.0 in
      let (long_a, long_b) = neither (long (given first)) (long (given second)) clear.1.1.1.0 in
      record { a_long = sym (long_over first) ∙ long_a; b_long = sym (long_over second) ∙ long_b; a_over = over_a; b_over = over_b }

-- Where nothing is written, nothing is too short.
none_short : (out : RecordArrays) → record_too_short 0 (record_lengths None None out) ≡ false
none_short out = rw (le-ltb (length out.bases) 0 zero-le, le-ltb (length out.quals) 0 zero-le, le-ltb (length out.errors) 0 zero-le)

-- Refusal 12, by what is written of an answer.
pub same_short : (a b : Strand) (out : RecordArrays) (k : Option DuplexConsensus) → short_for (written_of a.annotation b.annotation k) out ≡ outputs_short a b out k
same_short a b out None = none_short out
same_short a b out (Some (Ab n)) = refl
same_short a b out (Some (Ba n)) = refl
same_short a b out (Some (Both n)) = refl
