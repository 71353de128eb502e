-- A read name as it is written to the front of an output.
--     name_length      the name has the three lengths added
--     with_colon       after the prefix and the colon
--     joined           after the UMI too it is whole
-- Assumes nothing.
use mathlib.Core.Path.{◌≡◌}
use mathlib.Core.List.{List, [], ◌∷◌, ◌++◌}
use Prim.Native.Nat.{ℕ, ◌+◌, ◌≤◌}
use native.Mathlib.Omega.{arith}
use lib.ListN.{length, take, set, length-append}
use lib.Seq.{append_snoc}
use Rattle.lists.specs.Output.{put}
use Rattle.lists.proofs.Output.{put_fitting, put_snoc}
use Rattle.caller.specs.Name.{read_name}

pub name_length : (prefix umi : List ℕ) → length (read_name prefix umi) ≡ length prefix + 1 + length umi
name_length prefix umi = omega (arith, length-append prefix (58 ∷ umi))

pub with_colon : (prefix umi out : List ℕ) {X : List ℕ} → length (read_name prefix umi) ≤ length out → X ≡ put (take (length out) prefix) out → set X (length prefix) 58 ≡ put (prefix ++ 58 ∷ []) out
with_colon prefix umi out room e =
    rw (e, put_fitting prefix out (omega (arith, name_length prefix umi))) (put_snoc prefix out 58 (omega (arith, name_length prefix umi)))

pub joined : (prefix umi : List ℕ) → (prefix ++ 58 ∷ []) ++ umi ≡ read_name prefix umi
joined prefix umi = append_snoc prefix 58 umi
