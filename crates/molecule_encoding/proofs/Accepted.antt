-- Which bytes are accepted, by the tests in the order in which they are made.
--     in_parts     the size, then the fields by themselves and in order, then what the strands and the list have
--     refused_lem      bytes that fail one of them
--     strand_passed, strand_failed, reads_passed, reads_failed     what the tests of a strand and of the list say
--     too_big, unfit, a_unfit, b_unfit, reads_unfit, completed     what the reader then answers
-- Assumes nothing.
use mathlib.Core.Path.{◌≡◌, refl, sym, ap, ◌∙◌}
use mathlib.Core.Bool.{Bool, true, false, cond, not, ◌&&◌}
use mathlib.Core.List.{List}
use Prim.Native.Nat.{ℕ, ◌+◌, ◌≤◌}
use borrow.Author.Tests.{le-leb, lt-leb, ltb-true, ltb-false}
use lib.Dec.{leb, ltb}
use lib.ListN.{length}
use Rattle.std.proofs.Common.{Option, Some, None, Result, Ok, Err}
use Rattle.std.specs.Prelude.{is_some}
use Rattle.lists.specs.Every.{every}
use Rattle.refusals.specs.declared.Refusal.{Refusal}
use Rattle.refusals.specs.declared.Refusal.TheVariants.{Broken}
use Rattle.refusals.specs.Outcome.{refused_if}
use Rattle.refusals.proofs.Condition.{both_hold}
use Rattle.fields.specs.Encoding.{Field, FieldAt, whole_fields, cut_field}
use Rattle.molecule_fields.specs.Widths.{implies, well_formed}
use Rattle.molecule_encoding.specs.Format.{StrandParts, ascending, whole_strand, annotated_strand, all_or_none, announced, valid, most_bytes, accepted, value_of, place_of, strand_by, strand_of, strand_test, strand_read, bytes_after, reads_after, reads_test, reads_read, molecule, checked, decoded, fields_fit}
use Rattle.molecule_encoding.proofs.Values.{place_there, value_there}

grouped : (whole ascends fit rest : Bool) → (whole && (ascends && (fit && rest))) ≡ ((whole && (ascends && fit)) && rest)
grouped true true fit rest = refl
grouped true false fit rest = refl
grouped false ascends fit rest = refl

-- The two conditions on a strand, by its fields.
abbrev fits : Option (List ℕ) → Option (List ℕ) → Option (List ℕ) → Option (List ℕ) → Option (List ℕ) → Bool
fits b q d e a = all_or_none (is_some b) (is_some q) (is_some d) (is_some e) && implies (is_some a) (is_some b)

-- The strand's test is these conditions.
tested : (b q d e a : Option (List ℕ)) → strand_test b q d e a ≡ cond (fits b q d e a) (Ok (strand_by b q d e a)) (Err Broken)
tested (Some b) (Some q) (Some d) (Some e) (Some a) = refl
tested (Some b) (Some q) (Some d) (Some e) None = refl
tested (Some b) (Some q) (Some d) None a = refl
tested (Some b) (Some q) None (Some e) a = refl
tested (Some b) (Some q) None None a = refl
tested (Some b) None (Some d) (Some e) a = refl
tested (Some b) None (Some d) None a = refl
tested (Some b) None None (Some e) a = refl
tested (Some b) None None None a = refl
tested None (Some q) (Some d) (Some e) a = refl
tested None (Some q) (Some d) None a = refl
tested None (Some q) None (Some e) a = refl
tested None (Some q) None None a = refl
tested None None (Some d) (Some e) a = refl
tested None None (Some d) None a = refl
tested None None None (Some e) a = refl
tested None None None None (Some a) = refl
tested None None None None None = refl

strand_is : (first : ℕ) (fs : List Field) → strand_read first fs ≡ cond (whole_strand first fs && annotated_strand first fs) (Ok (strand_of first fs)) (Err Broken)
unfolding strand_of whole_strand annotated_strand
strand_is first fs =
    tested (value_of first fs) (value_of (first + 1) fs) (value_of (first + 2) fs) (value_of (first + 3) fs) (value_of (first + 4) fs) ∙ simp value_there

reads_are : (bytes : List ℕ) (marker read : Option FieldAt) → reads_test bytes marker read ≡ cond (implies (is_some read) (is_some marker)) (Ok (bytes_after bytes marker)) (Err Broken)
reads_are bytes (Some m) (Some r) = refl
reads_are bytes (Some m) None = refl
reads_are bytes None (Some r) = refl
reads_are bytes None None = refl

-- One test of a call, by its condition.
met : {refusal : Refusal} (b : Bool) → refused_if b Broken ≡ Err refusal → (b ≡ true) × (refusal ≡ Broken)
met true e = (refl, cc)
met {refusal} false e = absurd (no e)
  where
    no : ◌≡◌ {A = Result (Unit {0}) Refusal} (Ok tt) (Err refusal) → ⊥
    no q = cc

unmet : {x : Unit {0}} (b : Bool) → refused_if b Broken ≡ Ok x → b ≡ false
unmet {x} true e = absurd (no e)
  where
    no : ◌≡◌ {A = Result (Unit {0}) Refusal} (Err Broken) (Ok x) → ⊥
    no q = cc
unmet false e = refl

-- A test that answers, by its condition.
module _ {A : Type 0} where
  passed : {r : Result A Refusal} {y : A} (b : Bool) (x : A) → r ≡ cond b (Ok x) (Err Broken) → r ≡ Ok y → (b ≡ true) × (y ≡ x)
  passed true x e p = (refl, cc)
  passed {r} {y} false x e p = absurd (no (sym e ∙ p))
    where
      no : ◌≡◌ {A = Result A Refusal} (Err Broken) (Ok y) → ⊥
      no q = cc

  failed : {r : Result A Refusal} {refusal : Refusal} (b : Bool) (x : A) → r ≡ cond b (Ok x) (Err Broken) → r ≡ Err refusal → (b ≡ false) × (refusal ≡ Broken)
  failed {r} {refusal} true x e p = absurd (no (sym e ∙ p))
    where
      no : ◌≡◌ {A = Result A Refusal} (Ok x) (Err refusal) → ⊥
      no q = cc
  failed false x e p = (refl, cc)

module _ (bytes : List ℕ) where
  abbrev pub fs : List Field
  fs = whole_fields bytes

  abbrev a_fits : Bool
  a_fits = whole_strand 0x10 fs && annotated_strand 0x10 fs

  abbrev b_fits : Bool
  b_fits = whole_strand 0x20 fs && annotated_strand 0x20 fs

  reads_by : reads_read bytes ≡ cond (announced fs) (Ok (reads_after bytes fs)) (Err Broken)
  unfolding announced
  reads_by = reads_are bytes (place_of 0x2f fs) (place_of 0x30 fs) ∙ simp place_there

  in_parts : accepted bytes ≡ (leb (length bytes) most_bytes && (fields_fit 0 bytes && (a_fits && (b_fits && announced fs))))
  unfolding accepted valid fields_fit
  in_parts = ap (λ (b : Bool). leb (length bytes) most_bytes && b) (grouped (not (cut_field bytes)) (ascending fs) (every well_formed fs) (a_fits && (b_fits && announced fs)))

  refused_lem : accepted bytes ≡ false → decoded bytes ≡ Err Broken
  unfolding decoded
  refused_lem e = rw e

  pub too_big : {refusal : Refusal} → refused_if (ltb most_bytes (length bytes)) Broken ≡ Err refusal → decoded bytes ≡ Err refusal
  too_big e =
      let (h, is) = met _ e in
      rw is (refused_lem (in_parts ∙ rw (lt-leb _ _ (ltb-true most_bytes (length bytes) h))))

  pub small : {x : Unit {0}} → refused_if (ltb most_bytes (length bytes)) Broken ≡ Ok x → length bytes ≤ most_bytes
  small e = ltb-false most_bytes (length bytes) (unmet _ e)

  pub fit : {x : List ℕ} → checked bytes ≡ Ok x → (fields_fit 0 bytes ≡ true) × (x ≡ bytes)
  fit e = passed (fields_fit 0 bytes) bytes refl e

  pub fit_ascending : fields_fit 0 bytes ≡ true → ascending fs ≡ true
  unfolding fields_fit
  fit_ascending e = (both_hold (ascending fs) (every well_formed fs) (both_hold (not (cut_field bytes)) (ascending fs && every well_formed fs) e).1).0

  module _ (h : length bytes ≤ most_bytes) where
    pub unfit : {refusal : Refusal} → checked bytes ≡ Err refusal → decoded bytes ≡ Err refusal
    unfit r =
        let (unfit_is, is) = failed (fields_fit 0 bytes) bytes refl r in
        rw is (refused_lem (in_parts ∙ rw (le-leb _ _ h, unfit_is)))

    module _ (e : fields_fit 0 bytes ≡ true) where
      pub a_unfit : {refusal : Refusal} → strand_read 0x10 fs ≡ Err refusal → decoded bytes ≡ Err refusal
      a_unfit p =
          let (a, is) = failed _ _ (strand_is 0x10 fs) p in
          rw is (refused_lem (in_parts ∙ rw (le-leb _ _ h, e, a)))

      module _ {a : Option StrandParts} (p : strand_read 0x10 fs ≡ Ok a) where
        pub b_unfit : {refusal : Refusal} → strand_read 0x20 fs ≡ Err refusal → decoded bytes ≡ Err refusal
        b_unfit q =
            let (b, is) = failed _ _ (strand_is 0x20 fs) q in
            rw is (refused_lem (in_parts ∙ rw (le-leb _ _ h, e, (passed _ _ (strand_is 0x10 fs) p).0, b)))

        module _ {b : Option StrandParts} (q : strand_read 0x20 fs ≡ Ok b) where
          pub reads_unfit : {refusal : Refusal} → reads_read bytes ≡ Err refusal → decoded bytes ≡ Err refusal
          reads_unfit r =
              let (c, is) = failed _ _ reads_by r in
              rw is (refused_lem (in_parts ∙ rw (le-leb _ _ h, e, (passed _ _ (strand_is 0x10 fs) p).0, (passed _ _ (strand_is 0x20 fs) q).0, c)))

          pub completed : {reads : Option (List ℕ)} → reads_read bytes ≡ Ok reads → decoded bytes ≡ Ok (record { thresholds = value_of 0x01 fs; a = a; b = b; reads = reads })
          unfolding decoded molecule
          completed r =
              let (pa, ia) = passed _ _ (strand_is 0x10 fs) p in
              let (pb, ib) = passed _ _ (strand_is 0x20 fs) q in
              let (pr, ir) = passed _ _ reads_by r in
              rw (ia, ib, ir, in_parts, le-leb _ _ h, e, pa, pb, pr)
