-- The values that the public papers define, and that ours are these: SAMtags (MM and ML), the SAM specification (FLAG and QUAL) and
-- fgbio's page on CallDuplexConsensusReads (--min-reads and the caps). Each row is in the paper's own numbers, so that it also breaks
-- where a definition and the code beside it are changed in the same wrong way. docs/DIFFERENCES.md has where ours departs.
use Rattle.std.specs.Prelude.{Ok, ◌≡◌, true, false, cond, List, [], ◌∷◌, ℕ, ◌+◌, ◌*◌, ◌%◌, ◌≤◌, ◌<◌, eqb, get_or}
use Rattle.lists.specs.Table.{tabulate}
use Rattle.dna.specs.Dna.{letter_a, letter_c, letter_g}
use Rattle.phred.specs.Phred.{max_phred}
use Rattle.flags.specs.Flags.{is_set}
use Rattle.decimal.specs.Decimal.{decimal, value_of}
use Rattle.line_output.specs.Text.{ascii}
use Rattle.methylation.specs.declared.ConversionPattern.{ConversionPattern}
use Rattle.methylation.specs.declared.ConversionPattern.TheVariants.{CToT, GToA}
use Rattle.methylation.specs.declared.MethylationMode.TheVariants.{EmSeq, Taps}
use Rattle.methylation_calls.specs.Calls.{ml_of}
use Rattle.methylation_evidence.specs.Counts.{tag_count}
use Rattle.mm_ml.specs.Tags.{Annotated, annotated, called_at, mm_text, ml_array}
use Rattle.mm_reading.specs.Reading.{read_calls}
use Rattle.duplex_molecule.specs.declared.CtInput.{CtInput}
use Rattle.duplex_call.specs.Annotated.{combined}
use Rattle.duplex_min_reads.specs.MinReads.{validated, single_strand, reaches_all}
use Rattle.duplex_min_reads.specs.declared.MinReads.{MinReads}
use Rattle.duplex_reads.specs.Reads.{written_flags}
use Rattle.duplex_reads.specs.declared.ReadType.TheVariants.{Fragment, R1, R2}
use Rattle.duplex_metrics.specs.Metrics.{strand_metrics}

-- ---- SAMtags

-- The probabilities from 0 to 1 are cut into 256 equal parts. The byte N stands for N / 256 up to (N + 1) / 256, and the probability 1
-- falls to 255. The probability is a count over a total; both sides are multiplied by 256 and by the total.
pub record MlByte (N count total : ℕ) : Type 0 where
  pub from : N * total ≤ 256 * count
  pub below : count < total → 256 * count < (N + 1) * total
  pub one : count ≡ total → N ≡ 255

-- A sequence of 40 bases in which every second is this letter, so that its nth stands at position 2n - 1; the others are A.
abbrev pub every_second : ℕ → List ℕ
every_second letter = tabulate 40 (λ i. cond (eqb (i % 2) 0) letter_a letter)

-- A value at each of the 6th, 19th and 20th of these letters, and 0 elsewhere.
abbrev pub at_three : ℕ → ℕ → ℕ → List ℕ
at_three x y z = tabulate 40 (λ i. cond (eqb i 11) x (cond (eqb i 37) y (cond (eqb i 39) z 0)))

-- A strand in which those three are modified: 3 of 4 reads, 4 of 4 and 4 of 5.
abbrev pub three : ConversionPattern → ℕ → Annotated
three pattern letter = annotated (every_second letter) pattern (at_three 1 1 1) (at_three 3 4 4) (at_three 1 0 1)

pub record SamTags : Type 0 where
  -- ML, for every two counts that are not both 0. Methylated are the unconverted in EM-Seq, and the converted in TAPs.
  pub ml_em_seq : (unconverted converted : ℕ) → 0 < unconverted + converted → MlByte (ml_of EmSeq unconverted converted) unconverted (unconverted + converted)
  pub ml_taps : (unconverted converted : ℕ) → 0 < unconverted + converted → MlByte (ml_of Taps unconverted converted) converted (unconverted + converted)
  -- There is only one such byte.
  pub ml_only : (N M count total : ℕ) → count ≤ total → MlByte N count total → MlByte M count total → N ≡ M
  -- Worked: 3 of 4 is 192; 204 stands for 204/256 up to 205/256, and 4 of 5 lies there.
  pub ml_192 : ml_of EmSeq 3 1 ≡ 192
  pub ml_204 : ml_of EmSeq 4 1 ≡ 204
  -- The same counts by TAPs: 1 of 4 is 64.
  pub ml_64 : ml_of Taps 3 1 ≡ 64
  -- No base without counts is called, of whatever strand and position.
  pub no_counts : (s : Annotated) (i : ℕ) → get_or s.unconverted i 0 + get_or s.converted i 0 ≡ 0 → called_at s i ≡ false
  -- The worked example: modified C's at the 6th, 19th and 20th C of a sequence give the counts 5,12,0. So for G on the other strand.
  pub example_c : mm_text EmSeq (three CToT letter_c) ≡ ascii "C+m?,5,12,0;"
  pub example_g : mm_text EmSeq (three GToA letter_g) ≡ ascii "G-m?,5,12,0;"
  -- ML has one byte for each of them, in MM's order.
  pub example_ml : ml_array EmSeq (three CToT letter_c) ≡ 192 ∷ 255 ∷ 204 ∷ []
  -- A reader of that text finds these positions.
  pub example_read : read_calls (ascii "C+m?,5,12,0;") (every_second letter_c) ≡ 11 ∷ 37 ∷ 39 ∷ []
  -- A count is a decimal number: read back it is that number, and it has no leading zero. 0 itself is `0`.
  pub count_value : (n : ℕ) → value_of (decimal n) ≡ n
  pub no_leading_zero : (n : ℕ) → get_or (decimal n) 0 0 ≡ 48 → n ≡ 0
  pub zero_itself : decimal 0 ≡ ascii "0"

-- ---- The SAM specification

pub record Sam : Type 0 where
  -- FLAG of what is written: of a pair paired 0x1, unmapped 0x4, mate unmapped 0x8, and first segment 0x40 or last 0x80; of a fragment
  -- unmapped.
  pub first : written_flags R1 ≡ 0x1 + 0x4 + 0x8 + 0x40
  pub first_77 : written_flags R1 ≡ 77
  pub last : written_flags R2 ≡ 0x1 + 0x4 + 0x8 + 0x80
  pub last_141 : written_flags R2 ≡ 141
  pub fragment : written_flags Fragment ≡ 0x4
  -- A bit is set where it is part of the sum: 77 has 0x40 and neither 0x10 nor 0x80, and 141 has 0x80 and not 0x40.
  pub has_first : is_set 77 0x40 ≡ true
  pub not_reverse : is_set 77 0x10 ≡ false
  pub not_last : is_set 77 0x80 ≡ false
  pub has_last : is_set 141 0x80 ≡ true
  pub not_first : is_set 141 0x40 ≡ false
  -- QUAL writes a quality as the character 33 above it, and the largest is 126, the tilde. Two strands' quality goes no higher,
  -- whatever theirs are, at a call or not, at any ceiling that does not.
  pub largest : 33 + max_phred ≡ 126
  pub quality : (ceiling : ℕ) (ct : CtInput) (a qa ma b qb mb : ℕ) → ceiling ≤ max_phred → (combined ceiling ct a qa ma b qb mb).qual ≤ 93
  -- A count of a B array of signed 16-bit numbers is held to the largest of these.
  pub tag_count_is : tag_count 40000 ≡ 32767

-- ---- fgbio, CallDuplexConsensusReads

abbrev pub at_least : ℕ → ℕ → ℕ → MinReads
at_least total xy yx = record { total = total; xy = xy; yx = yx }

pub record Fgbio : Type 0 where
  -- --min-reads: missing values repeat the last one given. 5 4 stands for 5 4 4, and 1 for 1 1 1.
  pub two_values : validated (5 ∷ 4 ∷ []) ≡ Ok (at_least 5 4 4)
  pub one_value : validated (1 ∷ []) ≡ Ok (at_least 1 1 1)
  pub three_values : validated (5 ∷ 4 ∷ 3 ∷ []) ≡ Ok (at_least 5 4 3)
  -- The first is for both strands together, the second for the better covered one, the third for the other, whichever strand that is.
  pub reached : reaches_all (at_least 5 4 1) 1 4 ≡ true
  pub total_missed : reaches_all (at_least 6 4 1) 1 4 ≡ false
  pub better_missed : reaches_all (at_least 5 4 1) 3 3 ≡ false
  pub other_missed : reaches_all (at_least 5 4 2) 4 1 ≡ false
  -- A molecule needs both strands unless the last value is 0.
  pub both_needed : single_strand (1 ∷ []) ≡ Ok false
  pub one_enough : single_strand (1 ∷ 1 ∷ 0 ∷ []) ≡ Ok true
  -- Depths and errors are capped at 32,767 at each position, before the largest, the smallest and the sums are taken: D, M and E's.
  pub capped : strand_metrics (40000 ∷ 50000 ∷ 32768 ∷ []) (40000 ∷ 1 ∷ 0 ∷ []) ≡ Ok (record { largest = 32767; smallest = 32767; depths = 98301; errors = 32768 })
  pub below_the_cap : strand_metrics (40000 ∷ 2 ∷ 3 ∷ []) (0 ∷ 1 ∷ 32766 ∷ []) ≡ Ok (record { largest = 32767; smallest = 2; depths = 32772; errors = 32767 })
