-- A molecule given as bytes, as the code has it: two strands, each of which may be absent, and a list of reads, which are a run.
use Rattle.std.specs.Prelude.{ℕ, Bool, Option, Result, List, is_some, replicate}
use Rattle.refusals.specs.declared.Refusal.{Refusal}
use Rattle.settings.specs.declared.GivenSettings.{GivenSettings}
use Rattle.duplex_outputs.specs.Outputs.{RecordArrays, record_of}
use Rattle.duplex_kind.specs.declared.DuplexConsensus.{DuplexConsensus}
use Rattle.molecule_strand.specs.Strand.{StrandBytes, encoded_in}
use Rattle.molecule_errors.specs.Run.{run_in}
use Rattle.molecule_consensus.specs.declared.EncodedMolecule.{EncodedMolecule}
use Rattle.molecule_consensus.specs.declared.RecordBuffers.{RecordBuffers}
use Rattle.molecule_consensus.specs.Bytes.{seen, BytesAs}

pub record MoleculeBytes : Type 0 where
  pub a : StrandBytes
  pub b : StrandBytes
  pub listed : Bool
  pub run : List ℕ

abbrev pub molecule_in : EncodedMolecule → MoleculeBytes
molecule_in m = record { a = encoded_in m.a; b = encoded_in m.b; listed = is_some m.reads; run = run_in m.reads }

-- What is looked at of its strands.
abbrev pub seen_of : MoleculeBytes → MoleculeBytes
seen_of m = record { a = seen m.a; b = seen m.b; listed = m.listed; run = m.run }

-- What a call answers and leaves in its outputs, given what is looked at.
abbrev pub MoleculeAs : GivenSettings → MoleculeBytes → RecordArrays → RecordArrays → Result (Option DuplexConsensus) Refusal → Type 0
MoleculeAs lab m before now r = BytesAs lab m.a m.b m.listed m.run before now r

-- Arrays of 1,024 places each, as a call begins with them.
abbrev pub zero_buffers : RecordArrays
zero_buffers =
    record_of (replicate 1024 0) (replicate 1024 0) (replicate 1024 0) (replicate 1024 0) (replicate 1024 0) (replicate 1024 0) (replicate 1024 0) (replicate 1024 0)
    (replicate 1024 0)

-- A call's own arrays, as the code has them.
abbrev pub buffers_in : RecordBuffers → RecordArrays
buffers_in r = record_of r.bases r.quals r.errors r.a.marks r.a.unconverted r.a.converted r.b.marks r.b.unconverted r.b.converted
