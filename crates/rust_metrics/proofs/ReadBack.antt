-- The claims of `specs/ReadBack.antt`. Assumes nothing.
use mathlib.Core.Path.{refl}
use Rattle.rust_metrics.specs.ReadBack.{ReadBack}

pub read_back : ReadBack
read_back = record {
  range = record { refusals = λ row. refl; passes = λ x. refl; answers = λ x. refl };
  figures = record { refusals = λ row. refl; passes = λ x. refl; answers = λ x. refl };
  metrics = record { refusals = λ row. refl; passes = λ x. refl; answers = λ x. refl };
}
