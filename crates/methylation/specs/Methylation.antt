-- Chemistries, conversion patterns and the CpG context.
use Rattle.std.specs.Prelude.{Option, is_some, ℕ, ◌+◌, ◌-◌, Bool, true, false, cond, ◌&&◌, List, ltb, length, get_or}
use Rattle.dna.specs.Dna.{letter_a, letter_c, letter_g, letter_t, same_letter}
use Rattle.flags.specs.Flags.{last_segment, is_set}
use Rattle.methylation.specs.declared.ConversionPattern.{ConversionPattern}
use Rattle.methylation.specs.declared.ConversionPattern.TheVariants.{CToT, GToA}
use Rattle.methylation.specs.declared.Evidence.{Evidence}
use Rattle.methylation.specs.declared.MethylationMode.{MethylationMode}
use Rattle.methylation.specs.declared.MethylationMode.TheVariants.{Disabled, EmSeq, Taps}
use Rattle.methylation.specs.declared.PatternBases.{PatternBases}

abbrev pub is_enabled : MethylationMode → Bool
is_enabled Disabled = false
is_enabled EmSeq = true
is_enabled Taps = true

-- A read without flag 0x80 is of pattern C to T, others G to A.
abbrev pub pattern_of_flags : ℕ → ConversionPattern
pattern_of_flags flags = cond (is_set flags last_segment) GToA CToT

abbrev pub pattern_bases : ConversionPattern → PatternBases
pattern_bases CToT = record { reference = letter_c; unconverted = letter_c; converted = letter_t }
pattern_bases GToA = record { reference = letter_g; unconverted = letter_g; converted = letter_a }

-- A strand has an annotation.
abbrev pub is_annotated : Option ConversionPattern → Bool
is_annotated annotation = is_some annotation

-- A C and a G, in any case.
abbrev pub is_cg : ℕ → ℕ → Bool
is_cg first second = same_letter first letter_c && same_letter second letter_g

-- Of the top strand the C, of the bottom strand the G of a C followed by a G.
abbrev pub is_cpg_context : List ℕ → ℕ → Bool → Bool
is_cpg_context ref pos top =
    cond top
    (ltb (pos + 1) (length ref) && is_cg (get_or ref pos 0) (get_or ref (pos + 1) 0))
    (ltb 0 pos && (ltb pos (length ref) && is_cg (get_or ref (pos - 1) 0) (get_or ref pos 0)))

-- Evidence of a position without a call: mark 0, both counts 0.
abbrev pub clear : Evidence
clear = record { mark = 0; unconverted = 0; converted = 0 }

-- A record's evidence: marked, with its counts, or clear.
abbrev pub evidence_if : Bool → ℕ → ℕ → Evidence
evidence_if kept unconverted converted = cond kept (record { mark = 1; unconverted = unconverted; converted = converted }) clear
