-- `line_output::Writer::write_by` meets its contract: the function is called on the part of the output from the place on. Assumes nothing.
use mathlib.Core.Path.{refl}
use Rattle.line_output.proofs.Text.{placed}
use Rattle.line_output.proofs.Writer.write_by.Goals as goal

pub returns : goal.returns
returns g c = record {
  room = _;
  left = c.write.new.arg2;
  answer = c.write.result;
  called = record { shown = _; shows = refl; left = _; met = c.write.ensures; leaves = refl };
  writes = λ text long left. record { same_reference = refl; appended = placed c.args.self.now.inside long left c.min.ensures };
}
