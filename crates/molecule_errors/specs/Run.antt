-- The source reads of a duplex record as a run of reads, document 01: the list of the viewer and of the tray.
use Rattle.std.specs.Prelude.{ℕ, Bool, false, cond, Option, Some, None, Result, Ok, Err, List, [], length}
use denote.Ref.{Bor}
use Rattle.refusals.specs.declared.Refusal.{Refusal}
use Rattle.refusals.specs.declared.Refusal.TheVariants.{Broken}
use Rattle.molecule_fields.specs.Widths.{is_run}
use Rattle.molecule_reads.specs.Run.{reads_of, counted}
use Rattle.molecule_reads.specs.declared.ReadCount.{ReadCount}
use Rattle.duplex_molecule.specs.Molecule.{ct_input}
use Rattle.duplex_kind.specs.Kind.{Strand}
use Rattle.duplex_kind.specs.declared.GivenReads.{GivenReads}
use Rattle.duplex_consensus.specs.Consensus.{list_errors}

-- A run, as the code has it; where there is none, no bytes.
abbrev pub run_in : Option (Bor (List ℕ)) → List ℕ
run_in None = []
run_in (Some run) = run.now

-- How many reads are listed. Without a list nothing is looked at.
abbrev pub count_listed : Bool → List ℕ → Option ReadCount
count_listed there run = cond there (Some (counted run)) None

-- The list of reads that a run is, of which no part leaves it; a broken one is refused. Without a list nothing is looked at.
abbrev pub listed : Bool → List ℕ → Result (Option GivenReads) Refusal
listed there run = cond there (cond (is_run run) (Ok (Some (record { count = length (reads_of run); leaving = false }))) (Err Broken)) (Ok None)

-- The errors that are counted of the reads of a run at each position.
abbrev pub run_errors : Strand → Strand → List ℕ → ℕ → ℕ
run_errors a b run = list_errors (reads_of run) run (ct_input a.annotation b.annotation) a.arrays b.arrays
