-- Strands of 256 positions an array and of 257 in one of them, by a limit of 256; and two strands, of which the shorter is within it. Proved
-- in proofs/Worked.antt.
use Rattle.std.specs.Prelude.{◌≡◌, true, false, Some, None, ℕ}
use Rattle.refusals.specs.declared.Refusal.TheVariants.{TooLong, OverLimit}
use Rattle.refusals.specs.Refusal.{refused}
use Rattle.vanilla_caller.specs.declared.Lengths.{Lengths}
use Rattle.duplex_strands.specs.Combine.{common_length}
use Rattle.duplex_kind.specs.Limit.{over_in, length_faults}

-- A strand whose arrays have so many elements each, annotated and not.
abbrev pub of : ℕ → ℕ → ℕ → ℕ → ℕ → ℕ → ℕ → Lengths
of bases quals depths errors marks unconverted converted = record {
  bases = bases;
  quals = quals;
  depths = depths;
  errors = errors;
  evidence = Some (record { marks = marks; unconverted = unconverted; converted = converted });
}

abbrev pub plain : ℕ → Lengths
plain n = record { bases = n; quals = n; depths = n; errors = n; evidence = None }

pub record Worked : Type 0 where
  pub taken : over_in 256 (Some (of 256 256 256 256 256 256 256)) ≡ false
  pub bases : over_in 256 (Some (of 257 256 256 256 256 256 256)) ≡ true
  pub quals : over_in 256 (Some (of 256 257 256 256 256 256 256)) ≡ true
  pub depths : over_in 256 (Some (of 256 256 257 256 256 256 256)) ≡ true
  pub errors : over_in 256 (Some (of 256 256 256 257 256 256 256)) ≡ true
  pub marks : over_in 256 (Some (of 256 256 256 256 257 256 256)) ≡ true
  pub unconverted : over_in 256 (Some (of 256 256 256 256 256 257 256)) ≡ true
  pub converted : over_in 256 (Some (of 256 256 256 256 256 256 257)) ≡ true
  -- A record of 100 positions, that one strand is over the limit for.
  pub record_length : common_length (plain 100) (plain 257) ≡ 100
  pub longer : refused (length_faults 256 (Some (plain 100)) (Some (plain 257))) ≡ Some OverLimit
  -- An absent strand; 1,024 and 1,025; and 1,025 of one strand beside 257 of the other.
  pub absent : refused (length_faults 256 (Some (plain 256)) None) ≡ None
  pub most : refused (length_faults 256 None (Some (plain 1024))) ≡ Some OverLimit
  pub long : refused (length_faults 256 None (Some (plain 1025))) ≡ Some TooLong
  pub other_long : refused (length_faults 256 (Some (plain 257)) (Some (plain 1025))) ≡ Some TooLong
  -- By a limit of 0 every strand of a position is over; by one of 65,535 none that 7 lets pass.
  pub least : refused (length_faults 0 (Some (plain 1)) None) ≡ Some OverLimit
  pub none : refused (length_faults 65535 (Some (plain 1024)) (Some (plain 1024))) ≡ None
