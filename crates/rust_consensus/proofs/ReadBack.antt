-- The claims of `specs/ReadBack.antt`. Assumes nothing.
use mathlib.Core.Path.{refl}
use Rattle.rust_consensus.specs.ReadBack.{ReadBack}

pub read_back : ReadBack
read_back = record { written = record { refusals = λ row. refl; passes = λ x. refl; answers = λ x. refl } }
