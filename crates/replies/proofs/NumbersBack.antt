-- The claims of `specs/NumbersBack.antt`. Assumes nothing.
use mathlib.Core.Path.{◌≡◌, refl}
use mathlib.Core.Bool.{Bool, true, false}
use Rattle.std.proofs.Common.{Ok}
use lib.Dec.{eqb}
use Rattle.replies.specs.NumbersBack.{NumbersBack}
use Rattle.replies.specs.Replies.{bit_reply}

bit_back : (b : Bool) → eqb (bit_reply (Ok b)).number 1 ≡ b
bit_back true = refl
bit_back false = refl

pub numbers_back : NumbersBack
numbers_back = record {
  handed_on = λ number. refl;
  counts = record { refusals = λ row. refl; passes = λ x. refl; answers = λ x. refl };
  numbers = record { refusals = λ row. refl; passes = λ x. refl; answers = λ x. refl };
  bits = record { refusals = λ row. refl; passes = λ x. refl; answers = bit_back };
}
