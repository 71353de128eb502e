-- Request 101 of document 02: what the answer at a position says of the record and of the strands. It takes no ceiling of qualities, and
-- what it says is true of the record at every ceiling. Proved in proofs/.
use Rattle.std.specs.Prelude.{Option, None, Some, Result, Ok, Err, ◌≡◌, ◌↔◌, Bool, true, false, not, List, ◌∷◌, ◌++◌, ℕ, ◌≤◌, ◌<◌, length, get_or}
use Rattle.lists.specs.Every.{every}
use Rattle.refusals.specs.declared.Refusal.{Refusal}
use Rattle.settings.specs.declared.GivenSettings.{GivenSettings}
use Rattle.dna.specs.Dna.{letter_a, letter_c, letter_g, letter_n, letter_t, lower_n}
use Rattle.methylation.specs.declared.ConversionPattern.{ConversionPattern}
use Rattle.methylation.specs.declared.ConversionPattern.TheVariants.{CToT, GToA}
use Rattle.duplex_molecule.specs.Molecule.{ct_input, call_at, is_call, is_call_of}
use Rattle.duplex_outputs.specs.Outputs.{RecordArrays}
use Rattle.duplex_kind.specs.Kind.{Strand}
use Rattle.duplex_kind.specs.declared.DuplexConsensus.{DuplexConsensus}
use Rattle.duplex_kind.specs.declared.DuplexConsensus.TheVariants.{Ab, Ba, Both}
use Rattle.duplex_record.specs.Record.{DuplexAs}
use Rattle.duplex_reason.specs.Reason.{carries, is_called, holds, reasons, reason_at, is_reason}
use Rattle.duplex_reason.specs.Record.{reason_of}
use Rattle.duplex_reason.specs.declared.NoCallReason.{NoCallReason}
use Rattle.duplex_reason.specs.declared.NoCallReason.TheVariants.{Outside, SingleStrand, Called, ANoCall, BNoCall, BothNoCall, EqualQualities, CloseQualities, LowSum, LowConfirming}
use Rattle.duplex_reason.specs.declared.Shown.{Shown}

-- A call of the combination by a lab's settings, with a list of reads or without, that was not refused and made a record of this kind, or
-- none.
pub record Made (lab : GivenSettings) (a b : Strand) (before now : RecordArrays) (kind : Option DuplexConsensus) : Type 0 where
  pub listed : Bool
  pub count : ℕ
  pub leaving : Bool
  pub counted : ℕ → ℕ
  pub call : DuplexAs lab a b listed count leaving counted before now (Ok kind)

-- An answer is one of the seven reasons; a refusal is none.
abbrev pub tells_reason : Result NoCallReason Refusal → Bool
tells_reason (Err refusal) = false
tells_reason (Ok reason) = is_reason reason

-- At every position of a record of two strands, at every ceiling from 3 on: the base that the combination wrote is N exactly when the
-- answer is one of the seven reasons, and another base exactly when the answer is "called". (No call takes a ceiling below 3; at 2 every
-- base would be N.)
abbrev pub NExactlyWhenAReason : Type 0
NExactlyWhenAReason =
    (lab : GivenSettings) (a b : Strand) (before now : RecordArrays) (n i : ℕ)
    → 3 ≤ lab.ceiling
    → Made lab a b before now (Some (Both n))
    → i < n
    → (get_or now.bases i 0 ≡ letter_n ↔ tells_reason (reason_of a b i) ≡ true) × ((get_or now.bases i 0 ≡ letter_n → ⊥) ↔ reason_of a b i ≡ Ok Called)

-- Every position past a record is outside, and every position where there is none; within a record of one strand each is "single
-- strand". Such a record is as long as its strand, whose own length it has, however long the other is.
pub record Elsewhere : Type 0 where
  pub past_both : (lab : GivenSettings) (a b : Strand) (before now : RecordArrays) (n i : ℕ) → Made lab a b before now (Some (Both n)) → n ≤ i → reason_of a b i ≡ Ok Outside
  pub past_ab : (lab : GivenSettings) (a b : Strand) (before now : RecordArrays) (n i : ℕ) → Made lab a b before now (Some (Ab n)) → n ≤ i → reason_of a b i ≡ Ok Outside
  pub past_ba : (lab : GivenSettings) (a b : Strand) (before now : RecordArrays) (n i : ℕ) → Made lab a b before now (Some (Ba n)) → n ≤ i → reason_of a b i ≡ Ok Outside
  pub none : (lab : GivenSettings) (a b : Strand) (before now : RecordArrays) (i : ℕ) → Made lab a b before now None → reason_of a b i ≡ Ok Outside
  pub in_ab : (lab : GivenSettings) (a b : Strand) (before now : RecordArrays) (n i : ℕ) → Made lab a b before now (Some (Ab n)) → i < n → reason_of a b i ≡ Ok SingleStrand
  pub in_ba : (lab : GivenSettings) (a b : Strand) (before now : RecordArrays) (n i : ℕ) → Made lab a b before now (Some (Ba n)) → i < n → reason_of a b i ≡ Ok SingleStrand
  pub own_ab : (lab : GivenSettings) (a b : Strand) (before now : RecordArrays) (n : ℕ) → Made lab a b before now (Some (Ab n)) → n ≡ length a.arrays.bases
  pub own_ba : (lab : GivenSettings) (a b : Strand) (before now : RecordArrays) (n : ℕ) → Made lab a b before now (Some (Ba n)) → n ≡ length b.arrays.bases

-- The answer is the first of the seven conditions, in the paper's order, that holds; and "called" exactly where none does.
pub record FirstThatHolds : Type 0 where
  pub first :
      (a b : Shown) (earlier later : List NoCallReason) (reason : NoCallReason)
      → reasons ≡ earlier ++ reason ∷ later
      → every (λ r. not (holds r a b)) earlier ≡ true
      → holds reason a b ≡ true
      → reason_at a b ≡ reason
  pub called : (a b : Shown) → reason_at a b ≡ Called ↔ every (λ r. not (holds r a b)) reasons ≡ true

-- A reason by which strand shows N.
abbrev pub by_n : NoCallReason → Bool
by_n ANoCall = true
by_n BNoCall = true
by_n BothNoCall = true
by_n EqualQualities = false
by_n CloseQualities = false
by_n LowSum = false
by_n LowConfirming = false
by_n Outside = false
by_n SingleStrand = false
by_n Called = false

-- A reason that is answered is true of the strands. At most one of the N reasons holds, and at most one of the other four; and an N
-- reason that holds is the answer, before all others. So the answer is the only reason that fits.
pub record OnlyOneFits : Type 0 where
  pub holds_true : (a b : Shown) → is_reason (reason_at a b) ≡ true → holds (reason_at a b) a b ≡ true
  pub one : (a b : Shown) (x y : NoCallReason) → by_n x ≡ by_n y → holds x a b ≡ true → holds y a b ≡ true → x ≡ y
  pub n_first : (a b : Shown) (x : NoCallReason) → by_n x ≡ true → holds x a b ≡ true → reason_at a b ≡ x

-- A methylation call is one thing here and in the combination, whatever two strands show at a position: a strand is the informative one
-- of a call that the other confirms exactly where the combination's test of the position, by which strand is of pattern C to T, finds a
-- call of that strand's pattern; and there is a call of one or the other exactly where that test finds any.
pub record SameCalls : Type 0 where
  pub from_a : (a b : Shown) → carries a b ≡ is_call_of a.annotation (call_at (ct_input a.annotation b.annotation) a.base b.base)
  pub from_b : (a b : Shown) → carries b a ≡ is_call_of b.annotation (call_at (ct_input a.annotation b.annotation) a.base b.base)
  pub from_either : (a b : Shown) → is_called a b ≡ is_call (call_at (ct_input a.annotation b.annotation) a.base b.base)

-- A base and a quality, without an annotation; and of an annotated strand, marked informative or not.
abbrev pub plain : ℕ → ℕ → Shown
plain base qual = record { annotation = None; base = base; qual = qual; mark = 0 }

abbrev pub annotated : ConversionPattern → ℕ → ℕ → ℕ → Shown
annotated pattern base qual mark = record { annotation = Some pattern; base = base; qual = qual; mark = mark }

-- Every answer at a position of two strands, in numbers.
pub record Worked : Type 0 where
  -- P6: A30, N2: B alone is N; the other way round A alone; and both.
  pub b_alone : reason_at (plain letter_a 30) (plain letter_n 2) ≡ BNoCall
  pub a_alone : reason_at (plain letter_n 2) (plain letter_a 30) ≡ ANoCall
  pub both : reason_at (plain letter_n 2) (plain letter_n 2) ≡ BothNoCall
  -- The N reasons come first: an N also disagrees with a base at equal quality.
  pub n_before : reason_at (plain letter_n 30) (plain letter_a 30) ≡ ANoCall
  -- P5: A30, C30. P4: A32, C30. P3: A33, C30 is called.
  pub equal : reason_at (plain letter_a 30) (plain letter_c 30) ≡ EqualQualities
  pub by_2 : reason_at (plain letter_a 32) (plain letter_c 30) ≡ CloseQualities
  pub by_1 : reason_at (plain letter_a 30) (plain letter_c 31) ≡ CloseQualities
  pub by_3 : reason_at (plain letter_a 33) (plain letter_c 30) ≡ Called
  -- P7: 1 + 1; 1 + 2 is called.
  pub sum : reason_at (plain letter_a 1) (plain letter_a 1) ≡ LowSum
  pub sum_of_3 : reason_at (plain letter_a 1) (plain letter_a 2) ≡ Called
  -- Bases compare with case: n is not N.
  pub lower_n_is : reason_at (plain lower_n 30) (plain lower_n 30) ≡ Called
  -- P10, with a confirming quality of 2: T30 and C2 without a mark, and with one, where the sum counts; G to A likewise, from B.
  pub alone : reason_at (annotated CToT letter_t 30 0) (annotated GToA letter_c 2 0) ≡ LowConfirming
  pub marked : reason_at (annotated CToT letter_t 30 1) (annotated GToA letter_c 2 0) ≡ Called
  pub alone_from_b : reason_at (annotated CToT letter_g 2 1) (annotated GToA letter_a 30 0) ≡ LowConfirming
  pub call_sum : reason_at (annotated CToT letter_t 1 1) (annotated GToA letter_c 1 0) ≡ LowSum
  -- The same bases at equal qualities where no call explains them: both strands of one pattern.
  pub one_pattern : reason_at (annotated CToT letter_t 30 0) (annotated CToT letter_c 30 0) ≡ EqualQualities
