-- What duplexline prints for every input: `refuses` and `otherwise`, of specs/Claims.antt. Assumes nothing.
use mathlib.Core.Path.{◌≡◌, refl, sym, ap, ◌∙◌}
use mathlib.Core.Bool.{Bool, true, false, ◌&&◌}
use mathlib.Core.List.{List, [], ◌∷◌}
use Prim.Native.Nat.{ℕ}
use native.Mathlib.Omega.{arith}
use borrow.Author.Tests.{le-ltb, lt-ltb, ne_eqb}
use lib.Dec.{eqb, ltb}
use lib.ListN.{length, get_or}
use Rattle.std.proofs.Common.{Option, Some, None, Ok, unwrap_or}
use Rattle.std.specs.Prelude.{option_map}
use Rattle.refusals.specs.declared.Refusal.{Refusal}
use Rattle.refusals.specs.declared.Refusal.TheVariants.{Broken}
use Rattle.refusals.specs.Refusal.{number_of}
use Rattle.refusals.specs.Outcome.{or_later}
use Rattle.byte_numbers.specs.Bytes.{words32}
use Rattle.fields.specs.Encoding.{Field, IsBytes, whole_fields}
use Rattle.molecule_encoding.specs.Format.{MoleculeParts, accepted, molecule, decoded, value_of}
use Rattle.molecule_encoding.specs.Claims.{EncodesMolecule}
use Rattle.molecule_encoding.proofs.Claims.{only}
use Rattle.duplex_min_reads.specs.MinReads.{refused}
use Rattle.duplex_gate.proofs.Gate.{rows}
use Rattle.line_format.specs.Line.{refused_text}
use Rattle.line_molecule.specs.Line.{decoded_text, text_of}
use Rattle.line_claims.specs.Claims.{molecule_faults, line_faults, line_refused, Refuses, Printed, Otherwise}
use Rattle.line_claims.proofs.Texts.{same_number, not_printed}
use Rattle.line_claims.proofs.Places.{value, same_value}
use Rattle.line_claims.proofs.Molecule.{own, by_thresholds, by_rows, by_record}

-- The thresholds' rows, as the claim has them.
abbrev threshold_rows : List ℕ → Option Refusal → Option Refusal
threshold_rows ts rest = rows (eqb (length ts) 0) (ltb 3 (length ts)) (ltb 1 (length ts) && ltb (get_or ts 0 0) (get_or ts 1 0)) (ltb 2 (length ts) && ltb (get_or ts 1 0) (get_or ts 2 0)) rest

thresholds_are : (ts : List ℕ) → refused ts ≡ threshold_rows ts None
thresholds_are [] = refl
thresholds_are (a ∷ []) = rw (le-ltb a a (omega arith))
thresholds_are (a ∷ (b ∷ [])) = rw (le-ltb b b (omega arith))
thresholds_are (a ∷ (b ∷ (c ∷ []))) = refl
thresholds_are (a ∷ (b ∷ (c ∷ (d ∷ ts)))) =
    let l = length (a ∷ b ∷ c ∷ d ∷ ts) in
    rw (ne_eqb l 0 (λ e. omega arith), lt-ltb 3 l (omega arith))

before : (a b c d : Bool) (rest : Option Refusal) → rows a b c d rest ≡ or_later (rows a b c d None) rest
before true b c d rest = refl
before false true c d rest = refl
before false false true d rest = refl
before false false false true rest = refl
before false false false false rest = refl

-- What is printed, by the row that refuses.
data Outcome (first : Option Refusal) (text : List ℕ) : Type 0 where
  refused_by : (row : Refusal) → first ≡ Some row → text ≡ refused_text (number_of row) → Outcome first text
  passed : first ≡ None → Printed text → Outcome first text

module _ (bytes : List ℕ) (small : IsBytes bytes) where
  abbrev fs : List Field
  fs = whole_fields bytes

  abbrev ts : List ℕ
  ts = words32 (value 0x01 fs)

  no_molecule : accepted bytes ≡ false → Outcome (line_refused bytes) (text_of bytes)
  unfolding line_faults molecule_faults text_of decoded
  no_molecule a = refused_by Broken (rw a) (rw a)

  module _ (a : accepted bytes ≡ true) where
    abbrev m : MoleculeParts
    m = molecule bytes fs

    is_molecule : decoded bytes ≡ Ok m
    unfolding decoded
    is_molecule = rw a

    x : EncodesMolecule bytes fs
    x = (only bytes m small is_molecule).0

    abbrev others : Option Refusal
    others = own bytes fs m x is_molecule

    rows_are : line_refused bytes ≡ threshold_rows (words32 (unwrap_or (value_of 0x01 fs) [])) others
    unfolding line_faults molecule_faults
    rows_are = rw a

    row_is : line_refused bytes ≡ or_later (refused ts) others
    row_is =
        rows_are
        ∙ ap (λ (v : List ℕ). threshold_rows (words32 v) others) (sym (same_value (value_of 0x01 fs)))
        ∙ before (eqb (length ts) 0) (ltb 3 (length ts)) (ltb 1 (length ts) && ltb (get_or ts 0 0) (get_or ts 1 0)) (ltb 2 (length ts) && ltb (get_or ts 1 0) (get_or ts 2 0)) others
        ∙ ap (λ (r : Option Refusal). or_later r others) (sym (thresholds_are ts))

    by_row : (r o : Option Refusal) → refused ts ≡ r → others ≡ o → Outcome (line_refused bytes) (decoded_text (Ok m))
    by_row (Some row) o hr ho = refused_by row (row_is ∙ ap (λ (r : Option Refusal). or_later r others) hr) (by_thresholds bytes fs m x is_molecule row hr)
    by_row None (Some row) hr ho = refused_by row (row_is ∙ ap (λ (r : Option Refusal). or_later r others) hr ∙ ho) (by_rows bytes fs m x is_molecule hr row ho)
    by_row None None hr ho = passed (row_is ∙ ap (λ (r : Option Refusal). or_later r others) hr ∙ ho) (by_record bytes fs m x is_molecule hr ho)

    a_molecule : Outcome (line_refused bytes) (text_of bytes)
    unfolding text_of
    a_molecule = rw is_molecule (by_row (refused ts) others refl refl)

  outcome : Outcome (line_refused bytes) (text_of bytes)
  outcome = go (accepted bytes) refl
    where
      go : (b : Bool) → accepted bytes ≡ b → Outcome (line_refused bytes) (text_of bytes)
      go true a = a_molecule a
      go false a = no_molecule a

said_so : {first : Option Refusal} {text : List ℕ} (n : ℕ) → Outcome first text → text ≡ refused_text n → option_map number_of first ≡ Some n
said_so n (refused_by row is text) e =
    let same : number_of row ≡ n = same_number (number_of row) n (sym text ∙ e) in
    ap (option_map number_of) is ∙ ap Some same
said_so n (passed is text) e = absurd (not_printed n e text)

so_said : {first : Option Refusal} {text : List ℕ} (n : ℕ) → Outcome first text → option_map number_of first ≡ Some n → text ≡ refused_text n
so_said n (refused_by row is text) e =
    let some : ◌≡◌ {A = Option ℕ} (Some (number_of row)) (Some n) = sym (ap (option_map number_of) is) ∙ e in
    let same : number_of row ≡ n = cc in
    text ∙ ap refused_text same
so_said n (passed is text) e =
    let no : ◌≡◌ {A = Option ℕ} None (Some n) = sym (ap (option_map number_of) is) ∙ e in
    absurd cc

pub refuses : Refuses
refuses bytes n small = (said_so n (outcome bytes small), λ h. so_said n (outcome bytes small) h)

pub otherwise : Otherwise
otherwise bytes small e = go (outcome bytes small)
  where
    go : Outcome (line_refused bytes) (text_of bytes) → Printed (text_of bytes)
    go (refused_by row is text) =
        let no : ◌≡◌ {A = Option Refusal} None (Some row) = sym e ∙ is in
        absurd cc
    go (passed is text) = text
