-- `caller::write_name` meets its contract: the prefix, the colon and the UMI go to the output's front one after another. Assumes nothing.
use mathlib.Core.Path.{sym, ◌∙◌}
use mathlib.Core.List.{◌∷◌, ◌++◌, []}
use Prim.Native.Nat.{◌+◌, ◌-◌}
use native.Mathlib.Omega.{arith}
use lib.ListN.{length, set, length-set, length-append}
use Rattle.lists.proofs.Output.{put_equal, copy_next}
use Rattle.caller.proofs.Name.{name_length, with_colon, joined}
use Rattle.caller.proofs.write_name.Goals as goal

pub returns : goal.returns
returns c =
    let prefix = c.args.read_name_prefix.now in
    let umi = c.args.umi.now in
    let out = c.args.out.now in
    let rest = length-set c.copy.new.out (length prefix) 58 in
    let size = name_length prefix umi in
    copy_next (prefix ++ 58 ∷ []) out (length (set c.copy.new.out (length prefix) 58) - (length prefix + 1)) (with_colon prefix umi out c.requires c.copy.ensures) (sym (length-append prefix (58 ∷ []))) (omega arith) umi (omega arith) c.copy-2.ensures
    ∙ put_equal out (joined prefix umi)
