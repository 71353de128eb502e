-- The outputs lent for a duplex record's counts.
use Rattle.std.specs.Prelude.{◌≡◌, ℕ, length}
use Rattle.duplex_tags.specs.Tags.{KindArrays, kind_arrays, CountArrays}
use Rattle.duplex_tags.specs.declared.KindLengths.{KindLengths}
use Rattle.duplex_tags.specs.declared.KindOutputs.{KindOutputs}

-- What stands in those for one kind, and in those for both.
abbrev pub kind_out : KindOutputs ℕ → KindArrays
kind_out out = kind_arrays out.a.now out.b.now out.both.now

abbrev pub counts_out : KindOutputs ℕ → KindOutputs ℕ → CountArrays
counts_out unconverted converted = record { unconverted = kind_out unconverted; converted = kind_out converted }

-- How many places each has.
abbrev pub lengths_in : {T : Type 0} → KindOutputs T → KindLengths
lengths_in out = record { a = length out.a.now; b = length out.b.now; both = length out.both.now }

-- A call that was lent them left each slice where it was, so that who lent them knows what it holds.
pub record SameKind {T : Type 0} (before now : KindOutputs T) : Type 0 where
  pub a : now.a.ghost_name ≡ before.a.ghost_name
  pub b : now.b.ghost_name ≡ before.b.ghost_name
  pub both : now.both.ghost_name ≡ before.both.ghost_name
