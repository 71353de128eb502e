-- The claims of `specs/ReadBack.antt`. Assumes nothing.
use mathlib.Core.Path.{refl}
use Rattle.duplex_reason.specs.declared.NoCallReason.TheVariants.{Outside, SingleStrand, Called, ANoCall, BNoCall, BothNoCall, EqualQualities, CloseQualities, LowSum, LowConfirming}
use Rattle.rust_reason.specs.ReadBack.{ReadBack, ReasonBack}

pub read_back : ReadBack
read_back = record {
  handed_on = λ number. refl;
  refusals = λ row. refl;
  passes = λ reason. refl;
  answers = elim [
    | Outside ↦ refl
    | SingleStrand ↦ refl
    | Called ↦ refl
    | ANoCall ↦ refl
    | BNoCall ↦ refl
    | BothNoCall ↦ refl
    | EqualQualities ↦ refl
    | CloseQualities ↦ refl
    | LowSum ↦ refl
    | LowConfirming ↦ refl
  ];
}

pub reason_back : ReasonBack
reason_back = record {
  refused = λ row. refl;
  answered = elim [
    | Outside ↦ refl
    | SingleStrand ↦ refl
    | Called ↦ refl
    | ANoCall ↦ refl
    | BNoCall ↦ refl
    | BothNoCall ↦ refl
    | EqualQualities ↦ refl
    | CloseQualities ↦ refl
    | LowSum ↦ refl
    | LowConfirming ↦ refl
  ];
}
