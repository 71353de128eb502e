-- The claim of specs/Before.antt.
--     as_replied                           an entry by the usual settings
--     long_record, long_combined           of strands that 7 refuses
--     as_before                            the claim
-- Assumes nothing.
use mathlib.Core.Path.{◌≡◌, refl, sym, ap, ◌∙◌}
use mathlib.Core.Bool.{Bool, true, false, ◌||◌}
use mathlib.Core.List.{[], ◌∷◌}
use Prim.Native.Nat.{ℕ}
use Rattle.std.proofs.Common.{Option, Some, None, Result, Err}
use Rattle.lists.proofs.Table.{get_d_tabulate}
use Rattle.refusals.specs.declared.Refusal.{Refusal}
use Rattle.refusals.specs.declared.Refusal.TheVariants.{Broken, CeilingOutside, TooLong, OverLimit}
use Rattle.refusals.specs.Refusal.{◌if◌, refused}
use Rattle.refusals.specs.Outcome.{answer}
use Rattle.phred.specs.Phred.{capped_quality}
use Rattle.settings.specs.Settings.{usual}
use Rattle.methylation.specs.declared.ConversionPattern.{ConversionPattern}
use Rattle.replies.specs.Replies.{not_counted, count_reply, RepliedAs, RefusedOr}
use Rattle.replies.specs.declared.Count.{Count}
use Rattle.vanilla_caller.specs.Strand.{Arrays, lengths, strand_too_long}
use Rattle.duplex_molecule.specs.declared.CtInput.{CtInput}
use Rattle.duplex_molecule.specs.declared.CtInput.TheVariants.{Neither}
use Rattle.duplex_position.specs.Combination.{agreed, disagreed, called}
use Rattle.duplex_arrays.specs.Positions.{combined_bases, combined_quals}
use Rattle.duplex_outputs.specs.Outputs.{RecordArrays, LeavesRecord}
use Rattle.duplex_strands.specs.Combine.{common_length, combine_refused, CombinedAs}
use Rattle.duplex_kind.specs.Kind.{Strand, given, long, kind_of}
use Rattle.duplex_kind.specs.Limit.{lengths_of, over_in}
use Rattle.duplex_record.specs.Record.{duplex_refused, DuplexAs}
use Rattle.duplex_reply.specs.Strand.{told_strand}
use Rattle.molecule_strand.specs.Strand.{strand_of}
use Rattle.molecule_consensus.specs.Bytes.{broken}
use Rattle.ceiling_claims.specs.Before.{AsBefore}
use Rattle.ceiling_claims.specs.Entries.{AnnotatedEntry}
use Rattle.ceiling_claims.proofs.Entries.{row_of, same_limit, either_long}

-- An entry by the usual settings, which do not refuse: by its strands' lengths it refuses as its call does.
as_replied :
    {Told Numbers Outputs : Type 0} {reply : Result Told Refusal → Numbers} {As : Outputs → Outputs → Result Told Refusal → Type 0}
    {wrong : Bool} {before now : Outputs} {r : Numbers} (over : Bool)
    → (over ≡ true → As before before (Err TooLong))
    → RefusedOr (refused ((Broken if wrong) ∷ (CeilingOutside if false) ∷ (TooLong if over) ∷ (OverLimit if over) ∷ [])) reply As before now r
    → RepliedAs wrong (reply (Err Broken)) reply As before now r
as_replied true seven x = record {
  turned = λ w. x.turned Broken (rw w);
  passed = λ w.
      let t = x.turned TooLong (rw w) in
      record { told = Err TooLong; answered = t.answered; outputs = rw t.outputs (seven refl) };
}
as_replied false seven x = record { turned = λ w. x.turned Broken (rw w); passed = λ w. x.passed (rw w) }

-- What a call leaves that 7 refuses.
unwritten : {row : Option Refusal} {written before : RecordArrays} → row ≡ Some TooLong → LeavesRecord row written before before
unwritten e =
    rw e
    (record { bases = refl; quals = refl; errors = refl; a = record { marks = refl; unconverted = refl; converted = refl }; b = record { marks = refl; unconverted = refl; converted = refl } })

seven : (long uneven many leaving short : Bool) → long ≡ true → row_of false false false long false uneven many leaving short ≡ Some TooLong
seven long uneven many leaving short e = rw e

module _ (a b : Strand) (listed : Bool) (count : ℕ) (leaving : Bool) (counted : ℕ → ℕ) (before : RecordArrays) where
  long_record : (over_in 1024 (lengths_of a) || over_in 1024 (lengths_of b)) ≡ true → DuplexAs usual a b listed count leaving counted before before (Err TooLong)
  long_record e =
      let row : duplex_refused a b listed count leaving before ≡ Some TooLong = seven (long (given a) || long (given b)) _ _ _ _ (either_long a b ∙ e) in
      record { answered = ap (λ (row : Option Refusal). answer row (kind_of a b)) (sym row); outputs = unwritten row }

module _ (ct : CtInput) (ma : Option ConversionPattern) (a : Arrays) (mb : Option ConversionPattern) (b : Arrays) (listed : Bool) (before : RecordArrays) where
  long_combined : (strand_too_long (lengths ma a) || strand_too_long (lengths mb b)) ≡ true → CombinedAs usual ct ma a mb b listed before before (Err TooLong)
  long_combined e =
      let row : combine_refused ma a mb b before ≡ Some TooLong = seven (strand_too_long (lengths ma a) || strand_too_long (lengths mb b)) _ false false _ e in
      record { answered = ap (λ (row : Option Refusal). answer row (common_length (lengths ma a) (lengths mb b))) (sym row); outputs = unwritten row }

  by_usual : (wrong : Bool) {now : RecordArrays} {r : Count} → AnnotatedEntry wrong usual ct ma a mb b listed before now r → RepliedAs wrong (not_counted 13) count_reply (CombinedAs usual ct ma a mb b listed) before now r
  by_usual wrong x = as_replied (strand_too_long (lengths ma a) || strand_too_long (lengths mb b)) long_combined x

pub as_before : AsBefore
unfolding capped_quality agreed disagreed called combined_bases combined_quals
as_before = record {
  chosen = refl;
  limit = refl;
  taken = refl;
  held = λ score. refl;
  sum = λ p q. refl;
  difference = λ p q. refl;
  alone = λ a qa b qb confirmed confirming. refl;
  position = λ ct a qa ma b qb mb u. u.held 93;
  two_strands = λ listed counted n ct ma a mb b i h. (get_d_tabulate n _ i 0 h, get_d_tabulate n _ i 0 h);
  typed = λ m a b reads bytes before now r x.
      let first = told_strand m.a a in
      let second = told_strand m.b b in
      as_replied (over_in 1024 (lengths_of first) || over_in 1024 (lengths_of second)) (long_record first second _ _ _ _ before) x;
  annotated = λ wrong ct ma a mb b listed before now r x. by_usual ct ma a mb b listed before wrong x;
  plain = λ a b listed before now r x. (by_usual Neither None a None b listed before false x).passed refl;
  bytes = λ wrong a b listed run out.
      same_limit wrong false (broken a b listed run) (long (given (strand_of a)) || long (given (strand_of b))) _ false _ _ _ _
      (λ short. sym (either_long (strand_of a) (strand_of b)) ∙ short);
  cap = λ score. refl;
}
