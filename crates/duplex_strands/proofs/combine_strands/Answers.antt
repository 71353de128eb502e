-- `duplex_strands::combine_strands` meets its contract: refused by its row, or each output written, where it has room. Assumes nothing.
use mathlib.Core.Path.{refl}
use Rattle.std.proofs.Common.{rules, [], None, Ok}
use Rattle.std.proofs.lemmas.Result.{err_from_is_err_and}
use Rattle.lists.specs.Output.{put}
use Rattle.lists.specs.Part.{only_if}
use Rattle.settings.specs.Settings.{given_of}
use Rattle.methylation.specs.Outputs.{no_evidence}
use Rattle.vanilla_caller.specs.Strand.{arrays_in}
use Rattle.duplex_molecule.specs.Molecule.{ct_input}
use Rattle.duplex_molecule.specs.declared.CtInput.TheVariants.{Neither}
use Rattle.duplex_outputs.specs.Lent.{record_out}
use Rattle.duplex_outputs.specs.Outputs.{record_of}
use Rattle.duplex_strands.specs.Combine.{CombinedAs, kept_marks, kept_unconverted, kept_converted}
use Rattle.duplex_strands.proofs.Absent.{not_looked_at}
use Rattle.duplex_strands.proofs.Room.{refused_as, combined_as}
use Rattle.duplex_strands.proofs.combine_strands.Goals as goal

pub returns-in_err-n-clause-combined : goal.returns-in_err-n-clause-combined
unfolding ct_input
returns-in_err-n-clause-combined c =
    let p = err_from_is_err_and c.from_residual.result c.from_residual.ensures.1 in
    let told = rw (c.lengths-room.ensures, c.lengths.ensures, c.lengths-2.ensures, c.plain-a.ensures, c.plain-b.ensures) at c.in_err-n.ensures in
    rw (p.1, p.2) (not_looked_at (given_of c.args.settings) None (arrays_in c.args.a) None (arrays_in c.args.b) _ _ _ _ (refused_as told refl))

pub returns-clause-combined : goal.returns-clause-combined
unfolding ct_input kept_marks kept_unconverted kept_converted only_if put
returns-clause-combined c =
    let told = rw (c.lengths-room.ensures, c.lengths.ensures, c.lengths-2.ensures, c.plain-a.ensures, c.plain-b.ensures) at c.in_ok-n.ensures in
    let positions = rw (c.plain-a.ensures, c.plain-b.ensures) at c.write_positions.ensures.written in
    let errors = rw (c.plain-a.ensures, c.plain-b.ensures) at c.write_errors.ensures in
    let now = record_of c.write_positions.new.out.bases.now c.write_positions.new.out.quals.now c.write_errors.new.errors_out [] [] [] [] [] [] in
    let made : CombinedAs (given_of c.args.settings) Neither None (arrays_in c.args.a) None (arrays_in c.args.b) c.args.listed (record_out c.args.out.now no_evidence no_evidence) now (Ok c.in_ok-n.n) =
    not_looked_at (given_of c.args.settings) None (arrays_in c.args.a) None (arrays_in c.args.b) _ _ now _
    (combined_as told refl positions errors
    (record { marks = refl; unconverted = refl; converted = refl })
    (record { marks = refl; unconverted = refl; converted = refl })) in
    search (rules, made)
