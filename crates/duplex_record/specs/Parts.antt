-- A strand as the code has it.
use Rattle.std.specs.Prelude.{Option, Some, None, Bool}
use Rattle.vanilla_caller.specs.Strand.{annotation_in, arrays_in, plain}
use Rattle.vanilla_caller.specs.declared.VanillaConsensusRead.{VanillaConsensusRead}
use Rattle.duplex_kind.specs.Kind.{Strand, strand, given_of}

abbrev pub lent_as : Bool → VanillaConsensusRead → Strand
lent_as present s = strand present (annotation_in s) (arrays_in s)

-- A strand without its annotation.
abbrev pub plain_of : Option VanillaConsensusRead → Strand
plain_of None = given_of None
plain_of (Some s) = given_of (Some (plain s))
