-- What a lab chooses of the combination. A definition takes the settings as they are given, any numbers, and says when they are refused.
use Rattle.std.specs.Prelude.{ℕ, min, Bool, Result, Ok, Err, List, ◌∷◌}
use Rattle.refusals.specs.declared.Refusal.{Refusal}
use Rattle.refusals.specs.declared.Refusal.TheVariants.{Broken}
use Rattle.refusals.specs.Refusal.{Fault, ◌if◌}
use Rattle.phred.specs.Phred.{max_phred, ceiling_faults}
use Rattle.settings.specs.declared.GivenSettings.{GivenSettings}
use Rattle.settings.specs.declared.Settings.{Settings}

-- Those of the Rust.
abbrev pub usual : GivenSettings
usual = record { ceiling = max_phred; limit = 1024 }

-- The same with no more than so many positions.
abbrev pub limited_to : ℕ → GivenSettings → GivenSettings
limited_to positions lab = record { ceiling = lab.ceiling; limit = min lab.limit positions }

abbrev pub settings_faults : GivenSettings → List Fault
settings_faults lab = ceiling_faults lab.ceiling

-- Those of an entry that is told more beside the settings, where some number of that stands for nothing.
abbrev pub told_faults : Bool → GivenSettings → List Fault
told_faults wrong lab = (Broken if wrong) ∷ settings_faults lab

-- Those that were tested, as they were given.
abbrev pub given_of : Settings → GivenSettings
given_of s = record { ceiling = s.ceiling.value; limit = s.limit }

abbrev pub told_by : Result Settings Refusal → Result GivenSettings Refusal
told_by (Ok s) = Ok (given_of s)
told_by (Err refusal) = Err refusal
