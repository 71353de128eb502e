-- The claim of `specs/ReadBack.antt`. Assumes nothing.
use mathlib.Core.Path.{refl}
use Rattle.c_metrics.specs.Bytes.{record_words}
use Rattle.c_metrics.specs.ReadBack.{ReadBack}

pub read_back : ReadBack
unfolding record_words
read_back r = refl
