-- `numbers::largest` meets its contract: of the numbers as they stand std's `max` finds the greatest, if any. Assumes nothing.
use mathlib.Core.Path.{sym, ap, ◌∙◌}
use Rattle.std.specs.Option.{unwrap_or}
use Rattle.std.proofs.lemmas.Iterator.{YieldsList-from_slice}
use Rattle.std.proofs.lemmas.Iterator.Adapters.{option_map_id}
use Rattle.std.proofs.lemmas.Iterator.Consumers.{YieldsList-from_copied, max_from_yields_List}
use Rattle.numbers.proofs.Numbers.{largest_found}
use Rattle.numbers.proofs.largest.Goals as goal

pub returns : goal.returns
returns c =
    let found = sym (option_map_id c.max.result) ∙ max_from_yields_List _ _ c.max.ensures.ran (YieldsList-from_copied (YieldsList-from_slice c.args.ns.now cc)) in
    c.unwrap_or.ensures ∙ ap (λ f. unwrap_or f 0) found ∙ largest_found c.args.ns.now
