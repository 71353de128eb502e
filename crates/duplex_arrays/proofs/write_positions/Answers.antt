-- `duplex_arrays::write_positions` meets its contract: what its closures answer at a position is what the definition has there. Assumes nothing.
use mathlib.Core.Path.{sym, ◌∙◌}
use Rattle.std.proofs.Common.{rules}
use Rattle.vanilla_caller.specs.Strand.{arrays_in}
use Rattle.duplex_molecule.specs.Molecule.{call_at}
use Rattle.duplex_call.specs.Annotated.{combined}
use Rattle.duplex_arrays.specs.Positions.{position_of, combined_bases, combined_quals}
use Rattle.duplex_arrays.proofs.Positions.{without_calls}
use Rattle.duplex_arrays.proofs.Short.{all_written}
use Rattle.duplex_arrays.proofs.write_positions.Goals as goal

pub returns-then-can_call-clause-written : goal.returns-then-can_call-clause-written
unfolding combined_bases combined_quals
returns-then-can_call-clause-written c =
    let enough = sym c.positions_short.ensures ∙ c.if-positions_short.false in
    let written = c.fill_positions.ensures.written (position_of c.args.ceiling.value c.args.ct (arrays_in c.args.a) (arrays_in c.args.b)) (λ i l p e. search rules) in
    record { bases_now = all_written _ _ enough written.0; quals_now = all_written _ _ enough written.1 }

pub returns-else-can_call-clause-written : goal.returns-else-can_call-clause-written
unfolding combined_bases combined_quals combined call_at
returns-else-can_call-clause-written c =
    let enough = sym c.positions_short.ensures ∙ c.if-positions_short.false in
    let written = c.fill_positions-else-can_call.ensures.written (position_of c.args.ceiling.value c.args.ct (arrays_in c.args.a) (arrays_in c.args.b)) (λ i l p e. search (rules, without_calls)) in
    record { bases_now = all_written _ _ enough written.0; quals_now = all_written _ _ enough written.1 }
