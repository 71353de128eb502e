-- The rows of specs/Worked.antt, each computed. Assumes nothing.
use mathlib.Core.Path.{refl}
use Rattle.limit_claims.specs.Worked.{Worked}

pub worked : Worked
worked = record {
  taken = refl;
  bases = refl;
  quals = refl;
  depths = refl;
  errors = refl;
  marks = refl;
  unconverted = refl;
  converted = refl;
  record_length = refl;
  longer = refl;
  absent = refl;
  most = refl;
  long = refl;
  other_long = refl;
  least = refl;
  none = refl;
}
