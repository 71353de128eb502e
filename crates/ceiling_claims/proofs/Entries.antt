-- The claims of specs/Entries.antt.
--     below, above, within       what refuses an entry, by its ceiling
--     in_turn                    one call of an entry
--     row_of, same_ceiling, same_limit      the row that refuses one
--     Answers, never_14, never_19, entry_answers, answered_by      the number that it answers, and those that it does not
--     by_row, at_two             two calls that refuse by the same row
--     tested_in_turn, tested_at_the_cap, tested_at_the_entry, entries_at_two     the claims
-- Assumes nothing.
use mathlib.Core.Path.{◌≡◌, refl, sym, ap, ap₂, subst, ◌∙◌}
use mathlib.Core.Bool.{Bool, true, false, ◌&&◌, ◌||◌, or-true, true≢false}
use mathlib.Core.List.{List, [], ◌∷◌, ◌++◌}
use Prim.Native.Nat.{ℕ, ◌≤◌, ◌<◌}
use native.Mathlib.Omega.{arith}
use lib.Dec.{ltb}
use lib.ListN.{length}
use borrow.Author.Tests.{lt-ltb, le-ltb}
use Rattle.std.proofs.Common.{Option, Some, None, Result, Ok, Err}
use Rattle.refusals.specs.declared.Refusal.{Refusal}
use Rattle.refusals.specs.declared.Refusal.TheVariants.{Broken, CeilingOutside, TooLong, OverLimit, Ragged, TooManyReads, PartOutside, OutputTooShort}
use Rattle.refusals.specs.Refusal.{◌if◌, too_many, refused, number_or_0}
use Rattle.refusals.specs.Outcome.{answer}
use Rattle.phred.specs.Phred.{capped_quality, ceiling_outside}
use Rattle.settings.specs.Settings.{told_faults}
use Rattle.settings.specs.declared.GivenSettings.{GivenSettings}
use Rattle.replies.specs.Choices.{yes}
use Rattle.replies.specs.Replies.{count_reply, TurnedDown, RefusedOr}
use Rattle.vanilla_caller.specs.Strand.{Arrays}
use Rattle.vanilla_caller.specs.declared.Lengths.{Lengths}
use Rattle.duplex_outputs.specs.Outputs.{RecordArrays}
use Rattle.duplex_kind.specs.Kind.{Strand, given, long, uneven, kind_of}
use Rattle.duplex_kind.specs.Limit.{lengths_of, over_in, length_faults}
use Rattle.duplex_kind.proofs.Limit.{long_over}
use Rattle.duplex_kind.specs.declared.DuplexConsensus.{DuplexConsensus}
use Rattle.duplex_kind.specs.declared.DuplexConsensus.TheVariants.{Ab, Ba, Both}
use Rattle.duplex_reply.specs.Reply.{record_for}
use Rattle.duplex_reply.specs.Strand.{wrong_molecule, told_strand}
use Rattle.duplex_reply.specs.declared.DuplexRecord.{DuplexRecord}
use Rattle.duplex_reply.specs.declared.ToldMolecule.{ToldMolecule}
use Rattle.duplex_record.specs.Record.{outputs_short}
use Rattle.source_reads.specs.Reads.{any_leaves}
use Rattle.source_reads.specs.declared.SourceRead.{SourceRead}
use Rattle.duplex_consensus.specs.Consensus.{ConsensusAs, EntryAs}
use Rattle.ceiling_claims.specs.Positions.{Ceilings}
use Rattle.ceiling_claims.specs.Records.{of_two, combined_in, LoweredCall}
use Rattle.ceiling_claims.specs.Entries.{InTurn, TestedInTurn, TestedAtTheCap, TestedAtTheEntry, of_two_told, settings_of, EntriesAtTwo}
use Rattle.ceiling_claims.proofs.Records.{unwritten, of_two_strands}

-- The row that refuses, by the ceiling.
pub below : {ceiling : ℕ} → ceiling < 3 → ceiling_outside ceiling ≡ true
below {ceiling} h = rw (lt-ltb ceiling 3 h)

pub above : {ceiling : ℕ} → 93 < ceiling → ceiling_outside ceiling ≡ true
above {ceiling} h = rw (lt-ltb 93 ceiling h) (or-true (ltb ceiling 3))

pub within : {ceiling : ℕ} → 3 ≤ ceiling → ceiling ≤ 93 → ceiling_outside ceiling ≡ false
within {ceiling} least most = rw (le-ltb ceiling 3 least, le-ltb 93 ceiling most)

-- Of two ceilings neither refuses.
pub both_within : {lower higher : ℕ} → Ceilings lower higher → ceiling_outside lower ≡ ceiling_outside higher
both_within c = within c.least (omega (arith, c.order, c.most)) ∙ sym (within (omega (arith, c.least, c.order)) c.most)

-- Any entry that has the contract of one.
module _
    {Told Numbers Outputs : Type 0} {reply : Result Told Refusal → Numbers} {As : Outputs → Outputs → Result Told Refusal → Type 0}
    {wrong : Bool} {lab : GivenSettings} {a b : Option Lengths} {before now : Outputs} {r : Numbers}
    (x : RefusedOr (refused (told_faults wrong lab ++ length_faults lab.limit a b)) reply As before now r) where
  in_turn : InTurn reply As wrong lab a b before now r
  in_turn = record {
    broken = λ w. x.turned Broken (rw w);
    below = λ w h. x.turned CeilingOutside (rw (w, below h));
    above = λ w h. x.turned CeilingOutside (rw (w, above h));
    within = λ w least most. rw (w, within least most) at x;
  }

pub tested_in_turn : TestedInTurn
tested_in_turn Told Numbers Outputs reply As wrong lab a b before now r x = in_turn x

pub tested_at_the_cap : TestedAtTheCap
unfolding capped_quality
tested_at_the_cap score ceiling r e = record {
  below = λ h. rw (below h) at e;
  above = λ h. rw (above h) at e;
  within = λ least most. rw (within least most) at e;
}

-- The row that refuses a call, by all that is tested.
abbrev pub row_of : (wrong outside broken long over uneven many leaving short : Bool) → Option Refusal
row_of wrong outside broken long over uneven many leaving short =
    refused
    ((Broken if wrong) ∷ (CeilingOutside if outside) ∷ (OverLimit if over) ∷ (Broken if broken) ∷ (TooLong if long) ∷ (Ragged if uneven) ∷ (TooManyReads if many) ∷ (PartOutside if leaving) ∷ (OutputTooShort if short) ∷ [])

pub same_ceiling :
    (wrong broken long over uneven many leaving short : Bool) {one other : Bool}
    → one ≡ other
    → row_of wrong one broken long over uneven many leaving short ≡ row_of wrong other broken long over uneven many leaving short
same_ceiling wrong broken long over uneven many leaving short e = ap (λ (outside : Bool). row_of wrong outside broken long over uneven many leaving short) e

-- Two limits are told apart only where 7 does not refuse.
pub same_limit :
    (wrong outside broken long one other uneven many leaving short : Bool)
    → (long ≡ false → one ≡ other)
    → row_of wrong outside broken long one uneven many leaving short ≡ row_of wrong outside broken long other uneven many leaving short
same_limit true outside broken long one other uneven many leaving short h = refl
same_limit false outside true long one other uneven many leaving short h = refl
same_limit false true false long one other uneven many leaving short h = refl
same_limit false false false true one other uneven many leaving short h = refl
same_limit false false false false one other uneven many leaving short h = rw (h refl)

-- Of the numbers above 13 it answers 14 only for a ceiling and 19 only for a limit.
never :
    (wrong outside broken long over uneven many leaving short : Bool) (n : ℕ)
    → 13 < n
    → (outside ≡ true → n ≡ 14 → ⊥)
    → (over ≡ true → n ≡ 19 → ⊥)
    → number_or_0 (row_of wrong outside broken long over uneven many leaving short) ≡ n
    → ⊥
never true outside broken long over uneven many leaving short n h f g e = omega arith
never false true true long over uneven many leaving short n h f g e = omega arith
never false true false long over uneven many leaving short n h f g e = f refl (sym e)
never false false true long over uneven many leaving short n h f g e = omega arith
never false false false true over uneven many leaving short n h f g e = omega arith
never false false false false true uneven many leaving short n h f g e = g refl (sym e)
never false false false false false true many leaving short n h f g e = omega arith
never false false false false false false true leaving short n h f g e = omega arith
never false false false false false false false true short n h f g e = omega arith
never false false false false false false false false true n h f g e = omega arith
never false false false false false false false false false n h f g e = omega arith

-- The number that a call answers, by what it tests of the settings and the lengths.
pub record Answers (wrong outside broken long over : Bool) (number : ℕ) : Type 0 where
  pub uneven : Bool
  pub many : Bool
  pub leaving : Bool
  pub short : Bool
  pub is : number ≡ number_or_0 (row_of wrong outside broken long over uneven many leaving short)

pub never_14 : {wrong outside broken long over : Bool} {number : ℕ} → Answers wrong outside broken long over number → outside ≡ false → number ≡ 14 → ⊥
never_14 {wrong} {outside} {broken} {long} {over} x inside e =
    never wrong outside broken long over x.uneven x.many x.leaving x.short 14 (omega arith) (λ o n. absurd (true≢false (sym o ∙ inside))) (λ o n. omega arith) (sym x.is ∙ e)

pub never_19 : {wrong outside broken long over : Bool} {number : ℕ} → Answers wrong outside broken long over number → over ≡ false → number ≡ 19 → ⊥
never_19 {wrong} {outside} {broken} {long} {over} x within e =
    never wrong outside broken long over x.uneven x.many x.leaving x.short 19 (omega arith) (λ o n. omega arith) (λ o n. absurd (true≢false (sym o ∙ within))) (sym x.is ∙ e)

pub record_number : (row : Option Refusal) (kind : Option DuplexConsensus) → (record_for (answer row kind)).refused ≡ number_or_0 row
record_number (Some row) kind = refl
record_number None None = refl
record_number None (Some (Ab n)) = refl
record_number None (Some (Ba n)) = refl
record_number None (Some (Both n)) = refl

-- An entry that tests rows before its call, which tests 7 again, answers as if it tested all of them in one.
pub answered_by :
    {Told Numbers Outputs : Type 0} {reply : Result Told Refusal → Numbers} {As : Outputs → Outputs → Result Told Refusal → Type 0} {before now : Outputs} {r : Numbers}
    (wrong outside long over own uneven many leaving short : Bool) (made : Told)
    → own ≡ long
    → ((told : Result Told Refusal) → As before now told → told ≡ answer (row_of false false false own false uneven many leaving short) made)
    → RefusedOr (refused ((Broken if wrong) ∷ (CeilingOutside if outside) ∷ (TooLong if long) ∷ (OverLimit if over) ∷ [])) reply As before now r
    → r ≡ reply (answer (row_of wrong outside false long over uneven many leaving short) made)
answered_by true outside long over own uneven many leaving short made e call x = (x.turned Broken refl).answered
answered_by false true long over own uneven many leaving short made e call x = (x.turned CeilingOutside refl).answered
answered_by false false true over own uneven many leaving short made e call x = (x.turned TooLong refl).answered
answered_by false false false true own uneven many leaving short made e call x = (x.turned OverLimit refl).answered
answered_by {reply = reply} false false false false own uneven many leaving short made e call x =
    let p = x.passed refl in
    p.answered ∙ ap reply (rw e at (call p.told p.outputs))

-- Row 7 by the lengths that an entry looks at is row 7 of the call.
pub either_long : (a b : Strand) → (long (given a) || long (given b)) ≡ (over_in 1024 (lengths_of a) || over_in 1024 (lengths_of b))
either_long a b = ap₂ (λ (p q : Bool). p || q) (long_over a) (long_over b)

pub entry_answers :
    (m : ToldMolecule) (a b : Arrays) (reads : List SourceRead) (bytes : List ℕ) (before now : RecordArrays) (r : DuplexRecord)
    → EntryAs m a b reads bytes before now r
    → (let first = told_strand m.a a in
    let second = told_strand m.b b in
    Answers (wrong_molecule m) (ceiling_outside m.settings.ceiling) false (over_in 1024 (lengths_of first) || over_in 1024 (lengths_of second)) (over_in m.settings.limit (lengths_of first) || over_in m.settings.limit (lengths_of second)) r.refused)
entry_answers m a b reads bytes before now r x =
    let first = told_strand m.a a in
    let second = told_strand m.b b in
    let unequal = uneven (given first) || uneven (given second) in
    let many = yes m.listed && too_many (length reads ∷ []) in
    let leaving = yes m.listed && any_leaves (length bytes) reads in
    let short = outputs_short first second before (kind_of first second) in
    let answered =
    answered_by (wrong_molecule m) (ceiling_outside m.settings.ceiling) (over_in 1024 (lengths_of first) || over_in 1024 (lengths_of second)) (over_in m.settings.limit (lengths_of first) || over_in m.settings.limit (lengths_of second)) (long (given first) || long (given second)) unequal many leaving short (kind_of first second) (either_long first second) (λ told p. p.answered) x in
    record {
      uneven = unequal;
      many = many;
      leaving = leaving;
      short = short;
      is = ap (λ (d : DuplexRecord). d.refused) answered ∙ record_number _ (kind_of first second);
    }

pub tested_at_the_entry : TestedAtTheEntry
tested_at_the_entry m a b reads bytes before now r x = record {
  broken = λ w. turned (turn.broken w);
  below = λ w h. turned (turn.below w h);
  above = λ w h. turned (turn.above w h);
  within = λ least most e. never_14 (entry_answers m a b reads bytes before now r x) (within least most) e;
}
  where
    turn : InTurn record_for (ConsensusAs m.settings (told_strand m.a a) (told_strand m.b b) (yes m.listed) reads bytes) (wrong_molecule m) m.settings (lengths_of (told_strand m.a a)) (lengths_of (told_strand m.b b)) before now r
    turn = in_turn x

    turned : {refusal : DuplexRecord} → TurnedDown refusal before now r → (r ≡ refusal) × (now ≡ before)
    turned t = (t.answered, t.outputs)

-- What an answer in numbers says of two strands.
pub told_positions : (made : Result (Option DuplexConsensus) Refusal) → of_two_told (record_for made) ≡ of_two made
told_positions (Err row) = refl
told_positions (Ok None) = refl
told_positions (Ok (Some (Ab n))) = refl
told_positions (Ok (Some (Ba n))) = refl
told_positions (Ok (Some (Both n))) = refl

counted_answers : (made : Result ℕ Refusal) → (count_reply made).count ≡ combined_in made
counted_answers (Err row) = refl
counted_answers (Ok n) = refl

-- Two calls that refuse by the same row.
module _
    {Told Numbers Outputs : Type 0} {reply : Result Told Refusal → Numbers} {OneAs OtherAs : Outputs → Outputs → Result Told Refusal → Type 0}
    {before now also : Outputs} {r s : Numbers}
    (Same : Outputs → Outputs → Numbers → Numbers → Type 0)
    (refusals : (row : Refusal) → Same before before (reply (Err row)) (reply (Err row)))
    (calls : (x y : Result Told Refusal) → OneAs before now x → OtherAs before also y → Same now also (reply x) (reply y)) where
  by_one : (row : Option Refusal) → RefusedOr row reply OneAs before now r → RefusedOr row reply OtherAs before also s → Same now also r s
  by_one (Some row) x y =
      let p = x.turned row refl in
      let q = y.turned row refl in
      rw (p.answered, p.outputs, q.answered, q.outputs) (refusals row)
  by_one None x y =
      let p = x.passed refl in
      let q = y.passed refl in
      rw (p.answered, q.answered) (calls p.told q.told p.outputs q.outputs)

  pub by_row : {one other : Option Refusal} → one ≡ other → RefusedOr one reply OneAs before now r → RefusedOr other reply OtherAs before also s → Same now also r s
  by_row {one} e x y = by_one one x (subst (λ (row : Option Refusal). RefusedOr row reply OtherAs before also s) (sym e) y)

-- So two calls at two ceilings.
module _
    {Told Numbers : Type 0} {reply : Result Told Refusal → Numbers} {positions : Numbers → ℕ} {combined : Result Told Refusal → ℕ}
    {LowerAs HigherAs : RecordArrays → RecordArrays → Result Told Refusal → Type 0} {before at_lower at_higher : RecordArrays} {r s : Numbers} {ceiling : ℕ}
    (refusals : (row : Refusal) → positions (reply (Err row)) ≡ 0)
    (counts : (told : Result Told Refusal) → positions (reply told) ≡ combined told)
    (calls : (x y : Result Told Refusal) → LowerAs before at_lower x → HigherAs before at_higher y → LoweredCall combined ceiling at_lower at_higher x y) where
  at_two :
      {one other : Option Refusal}
      → one ≡ other
      → RefusedOr one reply LowerAs before at_lower r
      → RefusedOr other reply HigherAs before at_higher s
      → LoweredCall positions ceiling at_lower at_higher r s
  at_two =
      by_row (λ (now also : RecordArrays) (one other : Numbers). LoweredCall positions ceiling now also one other)
      (λ row. record { answer = refl; outputs = rw (refusals row) (unwritten ceiling before) })
      (λ x y p q.
      let made = calls x y p q in
      record { answer = ap reply made.answer; outputs = rw (counts x) made.outputs })

pub entries_at_two : EntriesAtTwo
entries_at_two = record {
  typed = λ lower higher limit m a b reads bytes before at_lower at_higher r s c x y.
      at_two (λ row. refl) told_positions
      (λ t u p q. of_two_strands.made (settings_of lower limit) (settings_of higher limit) _ _ _ _ _ _ before at_lower at_higher t u c p q)
      (same_ceiling (wrong_molecule m) false _ _ false false false false (both_within c)) x y;
  combined = λ lower higher limit wrong ct ma a mb b listed before at_lower at_higher r s c x y.
      at_two (λ row. refl) counted_answers
      (λ t u p q. of_two_strands.combined (settings_of lower limit) (settings_of higher limit) ct ma a mb b listed before at_lower at_higher t u c p q)
      (same_ceiling wrong false _ _ false false false false (both_within c)) x y;
}
