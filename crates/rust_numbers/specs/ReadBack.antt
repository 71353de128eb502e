-- Each answer can be read back from its numbers, so that a member which stands for another breaks this, in the code and its definition
-- alike.
use Rattle.std.specs.Prelude.{◌≡◌, Bool, false, Float, Ok, Err, cond, eqb, Option, None, Some}
use Rattle.std.specs.Float.{binary32}
use Rattle.std.specs.Float.Ieee.{to_bits}
use Rattle.refusals.specs.declared.Refusal.{Refusal}
use Rattle.refusals.specs.Refusal.{number_of}
use Rattle.methylation.specs.declared.ConversionPattern.{ConversionPattern}
use Rattle.methylation.specs.declared.PatternBases.{PatternBases}
use Rattle.duplex_molecule.specs.declared.MoleculeCall.{MoleculeCall}
use Rattle.duplex_molecule.specs.Molecule.{call_as}
use Rattle.methylation.specs.Choices.{pattern_number, pattern_of, wrong_pattern}
use Rattle.replies.specs.ReadBack.{AnswersBack}
use Rattle.replies.specs.Replies.{count_reply, number_reply, numbered}
use Rattle.replies.specs.declared.Count.{Count}
use Rattle.replies.specs.declared.Number.{Number}
use Rattle.rust_numbers.specs.Replies.{bit, rate_reply, bases_reply, letters_reply, call_reply}
use Rattle.rust_numbers.specs.declared.Bases.{Bases}
use Rattle.rust_numbers.specs.declared.Call.{Call}

abbrev pub bases_back : Bases → PatternBases
bases_back r = record { reference = r.reference; unconverted = r.unconverted; converted = r.converted }

abbrev pub call_back : Call → Option MoleculeCall
call_back r = cond (eqb r.pattern 0) None (Some (call_as (pattern_of r.pattern) r.call r.confirmed))

-- A rate is told by its bits, a refusal by its row's number.
pub record RatesBack : Type 0 where
  pub refusals : (row : Refusal) → (rate_reply (Err row)).refused ≡ number_of row
  pub passes : (rate : Float) → (rate_reply (Ok rate)).refused ≡ 0
  pub answers : (rate : Float) → (rate_reply (Ok rate)).number ≡ to_bits binary32 rate

-- Whether a mode is one that is on is told by `enabled`: no refusal, and the number of a yes or no.
pub record ReadBack : Type 0 where
  pub quality : AnswersBack number_reply (λ (r : Number). r.refused) (λ (r : Number). r.number)
  pub bits : (met : Bool) → eqb (bit met) 1 ≡ met
  pub enabled : (met : Bool) → ((numbered (bit met)).refused ≡ 0) × (eqb (numbered (bit met)).number 1 ≡ met)
  pub rates : RatesBack
  pub name : AnswersBack count_reply (λ (r : Count). r.refused) (λ (r : Count). r.count)
  pub pattern : (x : ConversionPattern) → (wrong_pattern (pattern_number x) ≡ false) × (pattern_of (pattern_number x) ≡ x)
  pub bases : (x : PatternBases) → bases_back (bases_reply x) ≡ x
  pub letters : AnswersBack letters_reply (λ (r : Bases). r.refused) bases_back
  pub call : (x : Option MoleculeCall) → call_back (call_reply x) ≡ x
