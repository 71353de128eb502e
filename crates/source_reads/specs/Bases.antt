-- The bases of one read, what it should show, and the errors counted so far.
use Rattle.std.specs.Prelude.{ℕ, List, get_or}
use Rattle.lists.specs.Output.{put}
use Rattle.lists.specs.Table.{tabulate}
use Rattle.duplex_molecule.specs.Molecule.{is_error}
use Rattle.duplex_position.specs.Combination.{unmasked}
use Rattle.duplex_position.specs.declared.StrandBase.{StrandBase}
use Rattle.source_reads.specs.Arrays.{BaseArrays}
use Rattle.source_reads.specs.Reads.{one_more}

-- A base and its quality.
abbrev pub base_at : ℕ → ℕ → StrandBase
base_at base qual = record { base = base; qual = qual }

-- The unmasked base at position i where there is no call.
abbrev pub unmasked_at : BaseArrays → BaseArrays → ℕ → ℕ
unmasked_at a b i = unmasked (get_or a.bases i 0) (get_or a.quals i 0) (get_or b.bases i 0) (get_or b.quals i 0)

-- The errors of the first n bases, each against what should be shown there, added to the numbers.
unfoldable pub bases_errors : ℕ → List ℕ → (ℕ → ℕ) → List ℕ → List ℕ
bases_errors n bases shown errors = put (tabulate n (λ i. one_more (is_error (get_or bases i 0) (shown i)) (get_or errors i 0))) errors
