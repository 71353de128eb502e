-- What is promised of an entry for the combination, by the molecule as C gives it, with the answer as numbers.
--     both_told         the molecule, by its strands
--     refused_entry     where it is refused for a pattern
--     made_entry        where the call on it was made
-- Assumes nothing.
use mathlib.Core.Path.{◌≡◌, refl, sym, ap, subst, ◌∙◌}
use mathlib.Core.Bool.{Bool, true, false, cond, ◌||◌}
use mathlib.Core.List.{List, []}
use Prim.Native.Nat.{ℕ}
use Rattle.std.specs.Bool.{then_some}
use Rattle.std.proofs.Common.{Option, Some, None, Result, Ok, Err}
use denote.Ref.{Bor}
use Rattle.lists.specs.Part.{only_if}
use Rattle.refusals.specs.declared.Refusal.{Refusal}
use Rattle.refusals.specs.declared.Refusal.TheVariants.{Broken}
use Rattle.refusals.specs.Outcome.{answer}
use Rattle.settings.specs.declared.GivenSettings.{GivenSettings}
use Rattle.replies.specs.Choices.{yes}
use Rattle.methylation.specs.declared.ConversionPattern.{ConversionPattern}
use Rattle.duplex_kind.specs.Kind.{Strand, kind_of}
use Rattle.duplex_kind.specs.declared.DuplexConsensus.{DuplexConsensus}
use Rattle.duplex_kind.specs.declared.DuplexConsensus.TheVariants.{Ab, Ba, Both}
use Rattle.duplex_outputs.specs.Outputs.{RecordArrays}
use Rattle.duplex_strands.specs.Combine.{combined_errors}
use Rattle.duplex_record.specs.Record.{record_arrays}
use Rattle.duplex_reply.specs.Reply.{record_for}
use Rattle.duplex_reply.specs.declared.DuplexRecord.{DuplexRecord}
use Rattle.molecule_strand.specs.Strand.{StrandBytes, strand_bytes, encoded_in, strand_of}
use Rattle.molecule_strand.specs.declared.EncodedStrand.{EncodedStrand}
use Rattle.molecule_errors.specs.Run.{run_errors}
use Rattle.molecule_consensus.specs.Bytes.{seen, bytes_record}
use Rattle.molecule_consensus.specs.Molecule.{MoleculeBytes, molecule_in, seen_of}
use Rattle.c_consensus.specs.Consensus.{call_refused, ConsensusBytesAs, MoleculeBytesAs}
use Rattle.c_record.specs.Outputs.{RecordBytes, as_bytes, LeavesBytes}
use Rattle.c_interface.specs.declared.ToldEncodedMolecule.{ToldEncodedMolecule}
use Rattle.c_interface.specs.Entry.{wrong_strand, wrong_molecule, molecule_told, entry_refused, ConsensusEntry}

-- What the combination answers and leaves, where a pattern is wrong or not.
pub record ConsensusBy (wrong : Bool) (lab : GivenSettings) (a b : StrandBytes) (listed : Bool) (run : List ℕ) (before now : RecordBytes) (r : Result (Option DuplexConsensus) Refusal) : Type 0 where
  pub answered : r ≡ answer (entry_refused wrong lab a b listed run before) (kind_of (strand_of a) (strand_of b))
  pub outputs : LeavesBytes (entry_refused wrong lab a b listed run before) (as_bytes (bytes_record lab a b listed run)) before now

module _ (lab : GivenSettings) (a b : StrandBytes) (listed : Bool) (run : List ℕ) (before : RecordBytes) where
  turned_down : ConsensusBy true lab a b listed run before before (Err Broken)
  turned_down = record {
    answered = refl;
    outputs = record { bases = refl; quals = refl; errors = refl; evidence_a = refl; evidence_b = refl };
  }

  -- No pattern is wrong.
  passed : {now : RecordBytes} {r : Result (Option DuplexConsensus) Refusal} → ConsensusBytesAs lab a b listed run before now r → ConsensusBy false lab a b listed run before now r
  passed x = record { answered = x.answered; outputs = x.outputs }

-- Looked at a second time it is the same.
seen_twice :
    (present : Bool) (annotation : Option ConversionPattern) (bases quals depths errors evidence : List ℕ)
    → (let s = seen (strand_bytes present annotation bases quals depths errors evidence) in
    seen s ≡ s)
unfolding only_if
seen_twice false annotation bases quals depths errors evidence = refl
seen_twice true None bases quals depths errors evidence = refl
seen_twice true (Some pattern) bases quals depths errors evidence = refl

-- Nothing of a run is looked at where there is no list.
unlisted_arrays : (lab : GivenSettings) (a b : Strand) (x y : ℕ → ℕ) (made : Option DuplexConsensus) → record_arrays lab a b false x made ≡ record_arrays lab a b false y made
unfolding combined_errors
unlisted_arrays lab a b x y None = refl
unlisted_arrays lab a b x y (Some (Ab n)) = refl
unlisted_arrays lab a b x y (Some (Ba n)) = refl
unlisted_arrays lab a b x y (Some (Both n)) = refl

unlisted : (lab : GivenSettings) (a b : StrandBytes) (run : List ℕ) → bytes_record lab a b false [] ≡ bytes_record lab a b false run
unlisted lab a b run =
    let A = strand_of a in
    let B = strand_of b in
    unlisted_arrays lab A B (run_errors A B []) (run_errors A B run) (kind_of A B)

by_list :
    (lab : GivenSettings) (a b : StrandBytes) (listed : Bool) (run : List ℕ) (before : RecordBytes) {now : RecordBytes} {r : Result (Option DuplexConsensus) Refusal}
    → ConsensusBytesAs lab a b listed (only_if listed run) before now r
    → ConsensusBytesAs lab a b listed run before now r
unfolding only_if
by_list lab a b true run before x = x
by_list lab a b false run before {now} x = record {
  answered = x.answered;
  outputs = subst (λ (w : RecordArrays). LeavesBytes (call_refused lab a b false run before) (as_bytes w) before now) (unlisted lab a b run) x.outputs;
}

-- What is promised of the answer by numbers, by whether a pattern is wrong.
told_as :
    (m : ToldEncodedMolecule) (a b : StrandBytes) (run : List ℕ) {before now : RecordBytes} {wrong : Bool} {r : Result (Option DuplexConsensus) Refusal} {reply : DuplexRecord}
    → wrong_molecule m ≡ wrong
    → ConsensusBy wrong m.settings a b (yes m.listed) run before now r
    → reply ≡ record_for r
    → ConsensusEntry m a b run before now reply
told_as m a b run {before} {now} {r = r} e x told =
    let y = subst (λ (w : Bool). ConsensusBy w m.settings a b (yes m.listed) run before now r) (sym e) x in
    record { answered = told ∙ ap record_for y.answered; outputs = y.outputs }

-- A molecule that two strands make, neither or either of which is refused for its pattern.
by_strands :
    (p q listed : Bool) (run : Bor (List ℕ)) (x y : Option EncodedStrand) (a b : StrandBytes) {list : Option (Bor (List ℕ))}
    → Ok (encoded_in x) ≡ cond p (Err Broken) (Ok a)
    → Ok (encoded_in y) ≡ cond q (Err Broken) (Ok b)
    → list ≡ then_some listed run
    → Ok (molecule_in (record { a = x; b = y; reads = list })) ≡ cond (p || q) (Err Broken) (Ok (record { a = a; b = b; listed = listed; run = only_if listed run.now }))
unfolding only_if
by_strands true q listed run x y a b e f l = absurd cc
by_strands false true listed run x y a b e f l = absurd cc
by_strands false false true run x y a b e f l = cc
by_strands false false false run x y a b e f l = cc

pub both_told :
    (m : ToldEncodedMolecule) (a b : StrandBytes) (run : Bor (List ℕ)) (x y : Option EncodedStrand) {list : Option (Bor (List ℕ))}
    → Ok (encoded_in x) ≡ cond (wrong_strand m.a) (Err Broken) (Ok a)
    → Ok (encoded_in y) ≡ cond (wrong_strand m.b) (Err Broken) (Ok b)
    → list ≡ then_some (yes m.listed) run
    → Ok (molecule_in (record { a = x; b = y; reads = list })) ≡ molecule_told m a b run.now
both_told m a b run x y e f l = by_strands (wrong_strand m.a) (wrong_strand m.b) (yes m.listed) run x y a b e f l

-- What such an answer says.
is_refused : (wrong : Bool) (x : MoleculeBytes) {row : Refusal} → Err row ≡ cond wrong (Err Broken) (Ok x) → (wrong ≡ true) × (row ≡ Broken)
is_refused true x e = (refl, cc)
is_refused false x e = absurd cc

is_made : (wrong : Bool) {x y : MoleculeBytes} → Ok y ≡ cond wrong (Err Broken) (Ok x) → (wrong ≡ false) × (y ≡ x)
is_made true e = absurd cc
is_made false e = (refl, cc)

-- The strands a and b are as far as they are looked at.
module _ (m : ToldEncodedMolecule) (a b : StrandBytes) (run : List ℕ) (before : RecordBytes) where
  abbrev listed : Bool
  listed = yes m.listed

  pub refused_entry : {row : Refusal} {reply : DuplexRecord} → Err row ≡ molecule_told m (seen a) (seen b) run → reply ≡ record_for (Err row) → ConsensusEntry m (seen a) (seen b) run before before reply
  refused_entry e answered =
      let (wrong, row_is) = is_refused (wrong_molecule m) _ e in
      told_as m (seen a) (seen b) run wrong (turned_down m.settings (seen a) (seen b) listed run before) (answered ∙ ap (λ (x : Refusal). record_for (Err x)) row_is)

  pub made_entry :
      {x : MoleculeBytes} {now : RecordBytes} {r : Result (Option DuplexConsensus) Refusal} {reply : DuplexRecord}
      → Ok x ≡ molecule_told m (seen a) (seen b) run
      → MoleculeBytesAs m.settings (seen_of x) before now r
      → reply ≡ record_for r
      → ConsensusEntry m (seen a) (seen b) run before now reply
  made_entry {x} {now} {r} e made answered =
      let (right, x_is) = is_made (wrong_molecule m) e in
      let first = seen_twice a.present a.annotation a.bases a.quals a.depths a.errors a.evidence in
      let second = seen_twice b.present b.annotation b.bases b.quals b.depths b.errors b.evidence in
      let of_seen : ConsensusBytesAs m.settings (seen (seen a)) (seen (seen b)) listed (only_if listed run) before now r =
      subst (λ (y : MoleculeBytes). MoleculeBytesAs m.settings (seen_of y) before now r) x_is made
      in
      let of_strands : ConsensusBytesAs m.settings (seen a) (seen b) listed (only_if listed run) before now r =
      subst (λ (s : StrandBytes). ConsensusBytesAs m.settings s (seen b) listed (only_if listed run) before now r) first
      (subst (λ (s : StrandBytes). ConsensusBytesAs m.settings (seen (seen a)) s listed (only_if listed run) before now r) second of_seen)
      in
      told_as m (seen a) (seen b) run right (passed m.settings (seen a) (seen b) listed run before (by_list m.settings (seen a) (seen b) listed run before of_strands)) answered
