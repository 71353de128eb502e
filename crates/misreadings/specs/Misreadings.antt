-- Wrong readings of document 01, each shut out by a value. A contract says that the code gives what the definition says; it says nothing
-- where both are changed in the same wrong way. These rows do: they are the definitions' own values, worked out by hand. With P1 to P12
-- (crates/positions) and the papers' values (crates/papers) this is the page to read first.
use Rattle.std.specs.Prelude.{None, Some, Option, Ok, ◌≡◌, true, false, [], ◌∷◌, ℕ}
use Rattle.settings.specs.Settings.{usual}
use Rattle.settings.specs.declared.GivenSettings.{GivenSettings}
use Rattle.dna.specs.Dna.{letter_a, letter_c, letter_g, letter_n, letter_t, lower_n}
use Rattle.methylation.specs.Methylation.{pattern_of_flags}
use Rattle.methylation.specs.declared.ConversionPattern.TheVariants.{CToT, GToA}
use Rattle.vanilla_caller.specs.Strand.{arrays}
use Rattle.duplex_molecule.specs.Molecule.{ct_input}
use Rattle.duplex_molecule.specs.declared.CtInput.TheVariants.{IsA, IsB}
use Rattle.duplex_call.specs.Annotated.{expected}
use Rattle.source_reads.specs.declared.SourceRead.{SourceRead}
use Rattle.duplex_gate.specs.ConsensusGate.{consensus_gate}
use Rattle.duplex_depths.specs.Depths.{combined_depths}
use Rattle.duplex_metrics.specs.Metrics.{Input, input, record_depth, record_no_calls, no_calls, metrics_of}
use Rattle.metrics_bits.specs.Bits.{metrics_words}
use Rattle.duplex_outputs.specs.Outputs.{RecordArrays}
use Rattle.duplex_strands.specs.Combine.{uncounted}
use Rattle.duplex_kind.specs.Kind.{Strand, strand, kind_of}
use Rattle.duplex_record.specs.Record.{record_arrays}
use Rattle.duplex_consensus.specs.Consensus.{list_errors}
use Rattle.methylation.specs.declared.ConversionPattern.{ConversionPattern}

-- ---- Strands, reads and metrics to state the rows of

-- A strand of one position that is there: its annotation, base, quality, depth and errors.
abbrev pub one : Option ConversionPattern → ℕ → ℕ → ℕ → ℕ → Strand
one annotation base qual depth errors = strand true annotation (arrays (base ∷ []) (qual ∷ []) (depth ∷ []) (errors ∷ []) (0 ∷ []) (0 ∷ []) (0 ∷ []))

-- The record that two strands make without a list of reads, by a lab's settings.
abbrev pub unlisted : GivenSettings → Strand → Strand → RecordArrays
unlisted lab a b = record_arrays lab a b false uncounted (kind_of a b)

-- And with a list of one read, of these flags and this one base.
abbrev pub read : ℕ → SourceRead
read flags = record { flags = flags; offset = 0; length = 1 }

abbrev pub with_read : GivenSettings → Strand → Strand → ℕ → ℕ → RecordArrays
with_read lab a b flags base =
    record_arrays lab a b true (list_errors (read flags ∷ []) (base ∷ []) (ct_input a.annotation b.annotation) a.arrays b.arrays) (kind_of a b)

-- A strand of depth 1 that is not annotated, and one of pattern C to T or G to A.
abbrev pub plain : ℕ → ℕ → Strand
plain base qual = one None base qual 1 0

abbrev pub ct : ℕ → ℕ → Strand
ct base qual = one (Some CToT) base qual 1 0

abbrev pub ga : ℕ → ℕ → Strand
ga base qual = one (Some GToA) base qual 1 0

-- What a metrics call is given: depths 40,000 and 3 with errors 2 and 1, depths 2 and 5 with errors 0 and 1, and a record of the bases
-- Nn with errors 40,000 and 1.
abbrev pub measured : Input
measured = input (40000 ∷ 3 ∷ []) (2 ∷ 1 ∷ []) true (2 ∷ 5 ∷ []) (0 ∷ 1 ∷ []) (letter_n ∷ lower_n ∷ []) (40000 ∷ 1 ∷ [])

-- ---- Depths

pub record Depths : Type 0 where
  -- "Adding before capping depths": in the metrics each depth is capped at 32,767 first, and the two are added then. A record's depth so
  -- goes up to 65,534; added first, these would be 32,767.
  pub two_at_the_cap : record_depth (32767 ∷ []) (32767 ∷ []) 0 ≡ 65534
  pub one_above_the_cap : record_depth (40000 ∷ []) (1 ∷ []) 0 ≡ 32768
  -- The depths of `combined_depths` are another thing: not capped, their sum held to 65,535.
  pub combined_depths_is : combined_depths 2 (40000 ∷ 40000 ∷ []) (1 ∷ 40000 ∷ []) ≡ 40001 ∷ 65535 ∷ []
  -- "Capping depths in the gate": 40,000 reaches a threshold of 40,000, and 39,999 does not.
  pub gate_reached : consensus_gate 1 (40000 ∷ []) [] (40000 ∷ 40000 ∷ 0 ∷ []) ≡ Ok true
  pub gate_missed : consensus_gate 1 (39999 ∷ []) [] (40000 ∷ 40000 ∷ 0 ∷ []) ≡ Ok false

-- ---- Metrics

pub record Figures : Type 0 where
  -- nc counts the byte N alone, and not n.
  pub no_calls_is : record_no_calls (1 ∷ 1 ∷ []) [] (letter_n ∷ lower_n ∷ []) ≡ 1
  -- It counts positions that have depth, as cD takes it: of three N between padded ends that are N too, three; with padding they would be five.
  pub padded_ends : record_no_calls (0 ∷ 2 ∷ 1 ∷ 3 ∷ 0 ∷ []) [] (letter_n ∷ letter_n ∷ letter_n ∷ letter_n ∷ letter_n ∷ []) ≡ 3
  -- The depth of either strand will do, and a depth of 1: by the first strand's alone this would be 1, with a depth of 2 asked for 0.
  pub either_strand : record_no_calls (0 ∷ 1 ∷ []) (1 ∷ 0 ∷ []) (letter_n ∷ letter_n ∷ []) ≡ 2
  -- Past the end of a strand there is no depth of it, and a strand that is longer than the record adds no position.
  pub past_a_strand : record_no_calls (1 ∷ []) [] (letter_n ∷ letter_n ∷ []) ≡ 1
  pub within_the_record : record_no_calls (1 ∷ 1 ∷ 1 ∷ []) (1 ∷ 1 ∷ []) (letter_n ∷ []) ≡ 1
  -- Of an absent strand there is none, whatever its array has.
  pub absent_strand : no_calls (input (0 ∷ []) (0 ∷ []) false (9 ∷ []) (0 ∷ []) (letter_n ∷ []) (0 ∷ [])) ≡ 0
  -- All ten figures of a metrics call, rates as bits. They differ from each other, so that none can be a constant or stand for another:
  -- aE is 3 / 32,770, bE 1 / 7 and cE 32,768 / 32,777.
  pub ten_figures :
      metrics_words (metrics_of measured)
      ≡ Ok (record {
        aD = 32767;
        aM = 3;
        aE = 0x38bffd00;
        bD = 5;
        bM = 2;
        bE = 0x3e124925;
        cD = 32769;
        cM = 8;
        cE = 0x3f7fee01;
        nc = 1;
      })

-- ---- Errors without a list

-- Whatever the ceiling.
pub record Estimates (lab : GivenSettings) : Type 0 where
  -- Where the bases differ: the winner's errors, and of the loser its depth minus its errors. A wins: 1 + 7 - 2.
  -- B wins: 2 + 10 - 1. At equal qualities A wins. With winner and loser exchanged the first would be 11 and the second 6.
  pub a_wins : (unlisted lab (one None letter_a 33 10 1) (one None letter_c 30 7 2)).errors ≡ 6 ∷ []
  pub b_wins : (unlisted lab (one None letter_a 30 10 1) (one None letter_c 33 7 2)).errors ≡ 11 ∷ []
  pub a_wins_ties : (unlisted lab (one None letter_a 30 10 1) (one None letter_c 30 7 2)).errors ≡ 6 ∷ []
  -- At a call there is no winner: 1 + 2.
  pub call_adds : (unlisted lab (one (Some CToT) letter_t 30 10 1) (one (Some GToA) letter_c 40 7 2)).errors ≡ 3 ∷ []

-- ---- Errors of a list of reads

-- Whatever the ceiling (the N itself is shown at 93): no base that errors are counted against is masked by it.
pub record UnmaskedBase (lab : GivenSettings) : Type 0 where
  -- "Counting errors against the masked N": A and C with quality 30 each are written as N, but the base below is A, and a read is an error
  -- where it differs from that A. Against N no read would be one.
  pub masked : (with_read usual (plain letter_a 30) (plain letter_c 30) 0 letter_c).bases ≡ letter_n ∷ []
  pub masked_error : (with_read lab (plain letter_a 30) (plain letter_c 30) 0 letter_c).errors ≡ 1 ∷ []
  pub masked_none : (with_read lab (plain letter_a 30) (plain letter_c 30) 0 letter_a).errors ≡ 0 ∷ []
  -- So at qualities that differ by 1 or 2, where the base below is the winner's, and at a sum of 2.
  pub close : (with_read lab (plain letter_a 32) (plain letter_c 30) 0 letter_c).errors ≡ 1 ∷ []
  pub close_b : (with_read lab (plain letter_a 30) (plain letter_c 31) 0 letter_c).errors ≡ 0 ∷ []
  pub low_sum : (with_read lab (plain letter_a 1) (plain letter_a 1) 0 letter_c).errors ≡ 1 ∷ []
  -- So where B shows N: the base below is A's. Where N wins there is none, and no error.
  pub beside_n : (with_read lab (plain letter_a 30) (plain letter_n 2) 0 letter_c).errors ≡ 1 ∷ []
  pub below_n : (with_read lab (plain letter_a 2) (plain letter_n 30) 0 letter_c).errors ≡ 0 ∷ []

-- Whatever the ceiling.
pub record ReadsAtCalls (lab : GivenSettings) : Type 0 where
  -- What a read should show at a call. A read without the flag 0x80 is of pattern C to T, one with it of G to A. A read of the call's
  -- pattern should show what the informative strand does, any other the called base. C-to-T call, T shown and C confirmed: T without the
  -- flag, C with it.
  pub c_to_t_first : expected IsA letter_t 30 letter_c 40 false ≡ letter_t
  pub c_to_t_last : expected IsA letter_t 30 letter_c 40 true ≡ letter_c
  -- G-to-A call, A shown and G confirmed: G without the flag, A with it.
  pub g_to_a_first : expected IsA letter_g 30 letter_a 40 false ≡ letter_g
  pub g_to_a_last : expected IsA letter_g 30 letter_a 40 true ≡ letter_a
  -- The same where strand B is the one of pattern C to T.
  pub c_to_t_first_b : expected IsB letter_c 40 letter_t 30 false ≡ letter_t
  pub c_to_t_last_b : expected IsB letter_c 40 letter_t 30 true ≡ letter_c
  pub g_to_a_first_b : expected IsB letter_a 40 letter_g 30 false ≡ letter_g
  pub g_to_a_last_b : expected IsB letter_a 40 letter_g 30 true ≡ letter_a
  -- The informative strand's own byte, in its own case: t (116).
  pub own_byte : expected IsA 116 30 letter_c 40 false ≡ 116
  -- The same in a record's errors, by the read's flags: paired and first 0x41, paired and last 0x81. A read that shows what it should is
  -- no error, one that shows what the other should is.
  pub first_shows_t : (with_read lab (ct letter_t 30) (ga letter_c 40) 0x41 letter_t).errors ≡ 0 ∷ []
  pub first_shows_c : (with_read lab (ct letter_t 30) (ga letter_c 40) 0x41 letter_c).errors ≡ 1 ∷ []
  pub last_shows_t : (with_read lab (ct letter_t 30) (ga letter_c 40) 0x81 letter_t).errors ≡ 1 ∷ []
  pub last_shows_c : (with_read lab (ct letter_t 30) (ga letter_c 40) 0x81 letter_c).errors ≡ 0 ∷ []
  pub first_shows_g : (with_read lab (ct letter_g 30) (ga letter_a 40) 0x41 letter_g).errors ≡ 0 ∷ []
  pub first_shows_a : (with_read lab (ct letter_g 30) (ga letter_a 40) 0x41 letter_a).errors ≡ 1 ∷ []
  pub last_shows_g : (with_read lab (ct letter_g 30) (ga letter_a 40) 0x81 letter_g).errors ≡ 1 ∷ []
  pub last_shows_a : (with_read lab (ct letter_g 30) (ga letter_a 40) 0x81 letter_a).errors ≡ 0 ∷ []
  -- A read without flags is C to T as well. So says the pattern of a read's flags.
  pub no_flags_show_t : (with_read lab (ct letter_t 30) (ga letter_c 40) 0 letter_t).errors ≡ 0 ∷ []
  pub pattern_of_first : pattern_of_flags 0x41 ≡ CToT
  pub pattern_of_last : pattern_of_flags 0x81 ≡ GToA
  pub pattern_of_none : pattern_of_flags 0 ≡ CToT
