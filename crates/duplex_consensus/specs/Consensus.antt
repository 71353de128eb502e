-- The duplex record with its source reads, document 01, and what the entry over numbers makes of it.
use Rattle.std.specs.Prelude.{ℕ, Bool, cond, Option, Some, None, Result, Ok, Err, List, ◌++◌, length}
use Rattle.refusals.specs.declared.Refusal.{Refusal}
use Rattle.refusals.specs.Refusal.{Fault, refused}
use Rattle.caller.specs.Short.{short}
use Rattle.settings.specs.Settings.{told_faults}
use Rattle.settings.specs.declared.GivenSettings.{GivenSettings}
use Rattle.replies.specs.Choices.{yes}
use Rattle.replies.specs.Replies.{RefusedOr}
use Rattle.vanilla_caller.specs.Strand.{Arrays}
use Rattle.duplex_molecule.specs.Molecule.{ct_input}
use Rattle.duplex_molecule.specs.declared.CtInput.{CtInput}
use Rattle.duplex_outputs.specs.Outputs.{RecordArrays}
use Rattle.duplex_kind.specs.Kind.{Strand}
use Rattle.duplex_kind.specs.Limit.{lengths_of, length_faults}
use Rattle.duplex_kind.specs.declared.DuplexConsensus.{DuplexConsensus}
use Rattle.duplex_kind.specs.declared.GivenReads.{GivenReads}
use Rattle.duplex_kind.specs.declared.DuplexConsensus.TheVariants.{Ab, Ba, Both}
use Rattle.duplex_reply.specs.Reply.{record_for}
use Rattle.duplex_reply.specs.Strand.{wrong_molecule, told_strand}
use Rattle.duplex_reply.specs.declared.DuplexRecord.{DuplexRecord}
use Rattle.duplex_reply.specs.declared.ToldMolecule.{ToldMolecule}
use Rattle.duplex_record.specs.Record.{DuplexAs}
use Rattle.source_reads.specs.Arrays.{BaseArrays, CombinedArrays}
use Rattle.source_reads.specs.Reads.{any_leaves, read_errors, expected_at}
use Rattle.source_reads.specs.declared.SourceRead.{SourceRead}
use Rattle.source_reads.specs.declared.SourceReads.{SourceReads}

-- A strand's bases and qualities.
abbrev pub bases_of : Arrays → BaseArrays
bases_of x = record { bases = x.bases; quals = x.quals }

-- Two strands, of which errors are counted at so many positions.
abbrev pub combined_of : Strand → Strand → ℕ → CombinedArrays
combined_of a b positions = record { ct = ct_input a.annotation b.annotation; positions = positions; a = bases_of a.arrays; b = bases_of b.arrays }

-- The errors of a list of reads at position i, held to 0..32,767.
unfoldable pub list_errors : List SourceRead → List ℕ → CtInput → Arrays → Arrays → ℕ → ℕ
list_errors reads bytes ct a b i = short (read_errors bytes (expected_at ct (bases_of a) (bases_of b) i) i reads)

-- How many positions of a record have their errors counted: all of a record of two strands with a list.
abbrev pub counted_positions : {E : Type 0} → Bool → Result (Option DuplexConsensus) E → ℕ
counted_positions listed (Err refusal) = 0
counted_positions listed (Ok None) = 0
counted_positions listed (Ok (Some (Ab n))) = 0
counted_positions listed (Ok (Some (Ba n))) = 0
counted_positions listed (Ok (Some (Both n))) = cond listed n 0

-- What is given of a list of reads, where there is one.
abbrev pub given_list : Bool → ℕ → Bool → Option GivenReads
given_list listed count leaving = cond listed (Some (record { count = count; leaving = leaving })) None

-- As the code has it.
abbrev pub given_in : Option SourceReads → Option GivenReads
given_in None = None
given_in (Some list) = Some (record { count = length list.reads.now; leaving = any_leaves (length list.bytes.now) list.reads.now })

-- What a call answers and leaves in its outputs.
abbrev pub ConsensusAs : GivenSettings → Strand → Strand → Bool → List SourceRead → List ℕ → RecordArrays → RecordArrays → Result (Option DuplexConsensus) Refusal → Type 0
ConsensusAs lab a b listed reads bytes before now r =
    DuplexAs lab a b listed (length reads) (any_leaves (length bytes) reads)
    (list_errors reads bytes (ct_input a.annotation b.annotation) a.arrays b.arrays) before now r

-- The rows that the entry tests before that: of what it is told 13 and 14, of its strands' lengths 7 and 19.
abbrev pub entry_faults : ToldMolecule → Strand → Strand → List Fault
entry_faults m a b = told_faults (wrong_molecule m) m.settings ++ length_faults m.settings.limit (lengths_of a) (lengths_of b)

-- What the entry answers and leaves of a molecule that it is told of, with the arrays of its strands: refused by one of these, nothing;
-- else all that, with the answer as numbers.
abbrev pub EntryAs : ToldMolecule → Arrays → Arrays → List SourceRead → List ℕ → RecordArrays → RecordArrays → DuplexRecord → Type 0
EntryAs m a b reads bytes =
    RefusedOr (refused (entry_faults m (told_strand m.a a) (told_strand m.b b))) record_for
    (ConsensusAs m.settings (told_strand m.a a) (told_strand m.b b) (yes m.listed) reads bytes)
