-- The field that some bytes begin with as the code has it, which are slices of the caller's bytes: what they hold.
use Rattle.std.specs.Prelude.{ℕ, Option, Some, None, Result, Ok, Err, List}
use Rattle.refusals.specs.declared.Refusal.{Refusal}
use Rattle.fields.specs.Encoding.{Field, field}
use Rattle.fields.specs.declared.FirstField.{FirstField}

abbrev pub field_in : FirstField → Field
field_in f = field f.tag f.value.now

abbrev pub begins_in : Result (Option FirstField) Refusal → Result (Option (Field × List ℕ)) Refusal
begins_in (Ok None) = Ok None
begins_in (Ok (Some f)) = Ok (Some (field_in f, f.rest.now))
begins_in (Err refusal) = Err refusal
