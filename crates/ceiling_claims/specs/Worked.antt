-- Positions worked by hand at the ceilings 3, 60, 92 and 93, and a record of one strand at 3. Proved in proofs/Worked.antt.
use Rattle.std.specs.Prelude.{None, ◌≡◌, true, false, [], ◌∷◌}
use Rattle.dna.specs.Dna.{letter_a, letter_c, letter_t}
use Rattle.vanilla_caller.specs.Strand.{arrays}
use Rattle.duplex_molecule.specs.declared.CtInput.TheVariants.{IsA}
use Rattle.duplex_position.specs.Combination.{uncalled}
use Rattle.duplex_call.specs.Annotated.{combined}
use Rattle.duplex_strands.specs.Combine.{uncounted}
use Rattle.duplex_kind.specs.Kind.{Strand, strand, given_of, kind_of}
use Rattle.duplex_record.specs.Record.{record_arrays}
use Rattle.positions.specs.Positions.{shows, masks}

-- A strand of one A of quality 93, alone.
abbrev pub lone : Strand
lone = strand true None (arrays (letter_a ∷ []) (93 ∷ []) (1 ∷ []) (0 ∷ []) [] [] [])

pub record Worked : Type 0 where
  -- P2, 60 + 60, by the ceiling.
  pub sum_93 : uncalled 93 letter_a 60 letter_a 60 ≡ shows letter_a 93
  pub sum_92 : uncalled 92 letter_a 60 letter_a 60 ≡ shows letter_a 92
  pub sum_60 : uncalled 60 letter_a 60 letter_a 60 ≡ shows letter_a 60
  pub sum_3 : uncalled 3 letter_a 60 letter_a 60 ≡ shows letter_a 3
  -- P1, 30 + 20, is below 60, and not below 3.
  pub below_60 : uncalled 60 letter_a 30 letter_a 20 ≡ shows letter_a 50
  pub above_3 : uncalled 3 letter_a 30 letter_a 20 ≡ shows letter_a 3
  -- A difference is held too: A93, C2.
  pub apart_93 : uncalled 93 letter_a 93 letter_c 2 ≡ shows letter_a 91
  pub apart_60 : uncalled 60 letter_a 93 letter_c 2 ≡ shows letter_a 60
  -- And where B wins, with its base.
  pub apart_b : uncalled 60 letter_a 2 letter_c 93 ≡ shows letter_c 60
  -- P3, A33 and C30, keeps its base at the lowest ceiling; P4, A32 and C30, is N with 2, the lowest quality, at each.
  pub three : uncalled 3 letter_a 33 letter_c 30 ≡ shows letter_a 3
  pub two : uncalled 3 letter_a 32 letter_c 30 ≡ masks
  -- 3 is the least: at 2, which no lab may choose, every base would be N.
  pub at_2 : uncalled 2 letter_a 60 letter_a 60 ≡ masks
  -- P10 at a call: the confirming strand's 40, or the sum of 70; and a confirming quality above the ceiling.
  pub call_60 : combined 60 IsA letter_t 30 0 letter_c 40 0 ≡ shows letter_c 40
  pub call_sum_60 : combined 60 IsA letter_t 30 1 letter_c 40 0 ≡ shows letter_c 60
  pub call_92 : combined 92 IsA letter_t 30 0 letter_c 93 0 ≡ shows letter_c 92
  pub call_3 : combined 3 IsA letter_t 30 0 letter_c 40 0 ≡ shows letter_c 3
  -- One strand keeps its 93.
  pub one_strand : (record_arrays (record { ceiling = 3; limit = 1024 }) lone (given_of None) false uncounted (kind_of lone (given_of None))).quals ≡ 93 ∷ []
