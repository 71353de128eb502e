-- `source_reads::expected_bases` meets its contract: what its closures answer at a position is what the definition has there. Assumes nothing.
use mathlib.Core.Path.{◌≡◌}
use borrow.Author.Rules.{rules}
use Rattle.duplex_molecule.specs.declared.CtInput.TheVariants.{Neither}
use Rattle.source_reads.specs.Arrays.{combined_in}
use Rattle.source_reads.specs.Bases.{unmasked_at}
use Rattle.source_reads.specs.Reads.{expected_at}
use Rattle.source_reads.proofs.Counted.{expected_uncalled, expected_called}
use Rattle.source_reads.proofs.expected_bases.Goals as goal

pub returns-then-eq : goal.returns-then-eq
returns-then-eq c =
    let neither : c.args.s.ct ≡ Neither = search rules in
    let s = combined_in c.args.s in
    expected_uncalled s c.args.last c.counted_within-n.ensures neither (c.fill_bases.ensures (unmasked_at s.a s.b) (λ i l x e. search rules))

pub returns-else-eq : goal.returns-else-eq
returns-else-eq c =
    let s = combined_in c.args.s in
    expected_called s c.args.last c.counted_within-n.ensures (c.fill_bases-else-eq.ensures (λ i. expected_at s.ct s.a s.b i c.args.last) (λ i l x e. search rules))
