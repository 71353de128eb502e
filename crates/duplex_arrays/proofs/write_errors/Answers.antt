-- `duplex_arrays::write_errors` meets its contract: zeros where reads are listed, else what its closures answer at a position is what
-- the definition has there. Assumes nothing.
use mathlib.Core.Path.{sym, ◌∙◌}
use Rattle.std.proofs.Common.{rules}
use Rattle.vanilla_caller.specs.Strand.{arrays_in}
use Rattle.duplex_molecule.specs.Molecule.{call_at}
use Rattle.duplex_call.specs.Annotated.{estimated}
use Rattle.duplex_arrays.specs.Positions.{estimate_of, estimates, combined_errors}
use Rattle.duplex_arrays.proofs.Positions.{zeroed, without_calls}
use Rattle.duplex_arrays.proofs.Short.{reached, all_written}
use Rattle.duplex_arrays.proofs.write_errors.Goals as goal

pub returns-then-listed : goal.returns-then-listed
unfolding combined_errors
returns-then-listed c =
    let enough = rw (c.lengths.ensures, c.lengths-2.ensures) at (sym c.errors_short.ensures ∙ c.if-errors_short.false) in
    let room = (reached _ _ _ _ enough).1.1.1.1.1.1.1.1.1.0 in
    all_written _ _ enough (rw c.if-listed.true (zeroed _ _ room (c.fill.ensures.after (λ y h. h))))

pub returns-then-can_call : goal.returns-then-can_call
unfolding combined_errors estimates
returns-then-can_call c =
    let enough = rw (c.lengths.ensures, c.lengths-2.ensures) at (sym c.errors_short.ensures ∙ c.if-errors_short.false) in
    let written = c.fill_errors.ensures (estimate_of c.args.ct (arrays_in c.args.a) (arrays_in c.args.b)) (λ i l x e. search rules) in
    all_written _ _ enough (rw c.if-listed.false written)

pub returns-else-can_call : goal.returns-else-can_call
unfolding combined_errors estimates estimated call_at
returns-else-can_call c =
    let enough = rw (c.lengths.ensures, c.lengths-2.ensures) at (sym c.errors_short.ensures ∙ c.if-errors_short.false) in
    let written = c.fill_errors-else-can_call.ensures (estimate_of c.args.ct (arrays_in c.args.a) (arrays_in c.args.b)) (λ i l x e. search (rules, without_calls)) in
    all_written _ _ enough (rw c.if-listed.false written)
