-- The claim of specs/Absent.antt.
--     given_seen        what is given of a strand as far as its evidence is looked at
--     not_looked_at     the claim
-- Assumes nothing.
use mathlib.Core.Path.{◌≡◌, refl, ap, ◌∙◌}
use Rattle.vanilla_caller.proofs.Strand.{lengths_seen}
use Rattle.vanilla_caller.specs.declared.Lengths.{Lengths}
use Rattle.duplex_kind.specs.Kind.{Strand, Given, given, kind_given}
use Rattle.duplex_kind.specs.Absent.{seen_of, NotLookedAt}

pub given_seen : (s : Strand) → given (seen_of s) ≡ given s
given_seen s = ap (λ (l : Lengths). record { present = s.present; lengths = l; depths = s.arrays.depths }) (lengths_seen s.annotation s.arrays)

pub not_looked_at : NotLookedAt
not_looked_at = record {
  first = λ m n x y b listed count leaving. refl;
  second = λ a m n x y listed count leaving. refl;
  list = λ a b count other leaving leaves. refl;
  evidence = λ a b listed count leaving.
      ap (λ (g : Given). kind_given g (given (seen_of b)) listed count leaving) (given_seen a)
      ∙ ap (λ (g : Given). kind_given (given a) g listed count leaving) (given_seen b);
}
