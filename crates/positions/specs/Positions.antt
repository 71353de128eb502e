-- Document 01's positions to prove, one row each: those of bases and qualities, of errors without a list, of methylation calls and
-- their ML byte, and of rates. Of P1 to P7 and P10 to P12 a row is one position; P8 and P9 are stated of all that document 01 leaves open.
-- A quality stands at the ceiling that document 01 has, 93. Errors take none.
use Rattle.std.specs.Prelude.{◌≡◌, false, [], ◌∷◌, ℕ, ◌≤◌}
use Rattle.dna.specs.Dna.{letter_a, letter_c, letter_n, letter_t}
use Rattle.phred.specs.Phred.{max_phred}
use Rattle.rates.specs.Rate.{bits_of}
use Rattle.methylation.specs.declared.MethylationMode.TheVariants.{EmSeq}
use Rattle.methylation_calls.specs.Calls.{ml_of}
use Rattle.duplex_call.specs.Annotated.{combined}
use Rattle.vanilla_caller.specs.Strand.{Arrays, arrays}
use Rattle.duplex_molecule.specs.declared.CtInput.{CtInput}
use Rattle.duplex_molecule.specs.declared.CtInput.TheVariants.{Neither, IsA}
use Rattle.duplex_arrays.specs.Positions.{combined_errors}
use Rattle.duplex_position.specs.Combination.{uncalled}
use Rattle.duplex_position.specs.declared.Position.{Position}

-- A position that shows a base with a quality, and one that shows N with quality 2.
abbrev pub shows : ℕ → ℕ → Position
shows base qual = record { base = base; qual = qual }

abbrev pub masks : Position
masks = shows letter_n 2

-- A strand of one position, with this base, quality, depth and errors.
abbrev pub one : ℕ → ℕ → ℕ → ℕ → Arrays
one base qual depth errors = arrays (base ∷ []) (qual ∷ []) (depth ∷ []) (errors ∷ []) [] [] []

pub record Positions : Type 0 where
  -- P1: A30, A20: A50.
  pub p1 : uncalled max_phred letter_a 30 letter_a 20 ≡ shows letter_a 50
  -- P2: 60 + 60: 93.
  pub p2 : uncalled max_phred letter_a 60 letter_a 60 ≡ shows letter_a 93
  -- P3: A33, C30: A3.
  pub p3 : uncalled max_phred letter_a 33 letter_c 30 ≡ shows letter_a 3
  -- P4: A32, C30: N2.
  pub p4 : uncalled max_phred letter_a 32 letter_c 30 ≡ masks
  -- P5: A30, C30: N2.
  pub p5 : uncalled max_phred letter_a 30 letter_c 30 ≡ masks
  -- P6: A30, N2: N2.
  pub p6 : uncalled max_phred letter_a 30 letter_n 2 ≡ masks
  -- P7: 1 + 1: N2; 1 + 2 keeps the base with 3.
  pub p7 : uncalled max_phred letter_a 1 letter_a 1 ≡ masks
  pub p7_kept : uncalled max_phred letter_a 1 letter_a 2 ≡ shows letter_a 3
  -- P8: no list, A wins, A's errors 0, B's depth 3 and errors 5: 0. The bases are any two that differ and A's quality is at least
  -- B's; A's depth, and what would be counted of a list, are anything.
  pub p8 : (counted : ℕ → ℕ) (a qa depth b qb : ℕ) → (a ≡ b → ⊥) → qb ≤ qa → combined_errors false counted 1 Neither (one a qa depth 0) (one b qb 3 5) ≡ 0 ∷ []
  -- P9: no list, equal bases, errors 20,000 each: 32,767. With any base, qualities and depths, and also where there may be calls.
  pub p9 : (counted : ℕ → ℕ) (ct : CtInput) (base qa da qb db : ℕ) → combined_errors false counted 1 ct (one base qa da 20000) (one base qb db 20000) ≡ 32767 ∷ []
  -- P10: the C-to-T strand shows T30, the other C40: C40 without an informative mark, C70 with one.
  pub p10 : combined max_phred IsA letter_t 30 0 letter_c 40 0 ≡ shows letter_c 40
  pub p10_marked : combined max_phred IsA letter_t 30 1 letter_c 40 0 ≡ shows letter_c 70
  -- P11: 3 of 4 unconverted, EM-Seq: 192; 4 of 4: 255.
  pub p11 : ml_of EmSeq 3 1 ≡ 192
  pub p11_all : ml_of EmSeq 4 0 ≡ 255
  -- P12: 2 errors at a depth of 12.
  pub p12 : bits_of 2 12 ≡ 0x3e2aaaab
