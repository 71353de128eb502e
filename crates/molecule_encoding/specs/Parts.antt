-- The parts of a molecule as the code has them, which are slices of the caller's bytes: what they hold.
use Rattle.std.specs.Prelude.{ℕ, Option, Some, None, Result, Ok, Err, List}
use denote.Ref.{Bor}
use Rattle.fields.specs.Encoding.{Field}
use Rattle.fields.specs.Slices.{field_in}
use Rattle.fields.specs.declared.FirstField.{FirstField}
use Rattle.refusals.specs.declared.Refusal.{Refusal}
use Rattle.molecule_encoding.specs.Format.{StrandParts, MoleculeParts}
use Rattle.molecule_encoding.specs.declared.StrandFields.{StrandFields}
use Rattle.molecule_encoding.specs.declared.ordered.OrderedFields.{OrderedFields}
use Rattle.molecule_encoding.specs.declared.Molecule.{Molecule}

abbrev pub found_in : Option FirstField → Option (Field × List ℕ)
found_in None = None
found_in (Some f) = Some (field_in f, f.rest.now)

abbrev pub fields_in : Result OrderedFields Refusal → Result (List ℕ) Refusal
fields_in (Ok fields) = Ok fields.bytes.now
fields_in (Err refusal) = Err refusal

abbrev pub value_in : Option (Bor (List ℕ)) → Option (List ℕ)
value_in None = None
value_in (Some value) = Some value.now

abbrev pub parts_in : Option StrandFields → Option StrandParts
parts_in None = None
parts_in (Some s) = Some (record { bases = s.bases.now; quals = s.quals.now; depths = s.depths.now; errors = s.errors.now; annotation = value_in s.annotation })

abbrev pub strand_in : Result (Option StrandFields) Refusal → Result (Option StrandParts) Refusal
strand_in (Ok s) = Ok (parts_in s)
strand_in (Err refusal) = Err refusal

abbrev pub reads_in : Result (Option (Bor (List ℕ))) Refusal → Result (Option (List ℕ)) Refusal
reads_in (Ok reads) = Ok (value_in reads)
reads_in (Err refusal) = Err refusal

abbrev pub molecule_in : Result Molecule Refusal → Result MoleculeParts Refusal
molecule_in (Ok m) = Ok (record { thresholds = value_in m.thresholds; a = parts_in m.a; b = parts_in m.b; reads = value_in m.reads })
molecule_in (Err refusal) = Err refusal
