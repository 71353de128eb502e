-- What the parts of `gedrashiw_no_call_reason` promise each other, for strands given as bytes.
use Rattle.std.specs.Prelude.{Result, Ok, Err, ℕ, ◌||◌}
use Rattle.refusals.specs.declared.Refusal.{Refusal}
use Rattle.duplex_reason.specs.declared.NoCallReason.{NoCallReason}
use Rattle.rust_reason.specs.Reply.{entry_reason}
use Rattle.molecule_strand.specs.Rows.{misfit_in}
use Rattle.molecule_strand.specs.Strand.{StrandBytes, strand_of}

-- What is said of position i between two strands, 13 for a byte count before all others.
abbrev pub reason_given : StrandBytes → StrandBytes → ℕ → Result NoCallReason Refusal
reason_given a b i = entry_reason (misfit_in a || misfit_in b) (strand_of a) (strand_of b) i

-- The same, of strands each of which may be refused.
abbrev pub reason_by : Result StrandBytes Refusal → Result StrandBytes Refusal → ℕ → Result NoCallReason Refusal
reason_by (Err refusal) b i = Err refusal
reason_by (Ok a) (Err refusal) i = Err refusal
reason_by (Ok a) (Ok b) i = reason_given a b i
