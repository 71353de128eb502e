-- The estimate of a position's errors where no source reads are kept, document 01. It is held to 0..32,767.
use Rattle.std.specs.Prelude.{ℕ, pos, ◌+ℤ◌, ◌-ℤ◌}
use Rattle.caller.specs.Short.{short_of}

-- At a call or equal bases: the strands' errors added.
unfoldable pub agreeing : ℕ → ℕ → ℕ
agreeing a b = short_of (pos a +ℤ pos b)

-- Otherwise: the winner's errors plus the loser's depth minus errors, which may fall below zero.
unfoldable pub disagreeing : ℕ → ℕ → ℕ → ℕ
disagreeing winner depth errors = short_of (pos winner +ℤ (pos depth -ℤ pos errors))
