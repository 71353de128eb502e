-- The claims of `specs/ReadBack.antt`. Assumes nothing.
use mathlib.Core.Path.{refl}
use Rattle.duplex_reply.specs.ReadBack.{ReadBack}

pub read_back : ReadBack
read_back = record {
  handed_on = λ number. refl;
  refusals = λ row. refl;
  none = record { passes = refl; answers = refl };
  ab = λ n. record { passes = refl; answers = refl };
  ba = λ n. record { passes = refl; answers = refl };
  both = λ n. record { passes = refl; answers = refl };
}
