-- Why a position shows N, document 02's #101, for strands given as bytes.
use Rattle.std.specs.Prelude.{Result, ℕ, Bool, false, ◌||◌, []}
use Rattle.refusals.specs.declared.Refusal.{Refusal}
use Rattle.molecule_strand.specs.Strand.{StrandBytes, strand_of}
use Rattle.molecule_consensus.specs.Bytes.{broken}
use Rattle.duplex_reason.specs.declared.NoCallReason.{NoCallReason}
use Rattle.rust_reason.specs.Reply.{entry_reason}

-- What is said of position i, given what is looked at of the strands, where a pattern is wrong or not: 13 for that or for a byte count, as
-- the combination tests them without a list of reads; else what is said of the strands that the bytes stand for.
abbrev pub bytes_reason : Bool → StrandBytes → StrandBytes → ℕ → Result NoCallReason Refusal
bytes_reason wrong a b i = entry_reason (wrong || broken a b false []) (strand_of a) (strand_of b) i
