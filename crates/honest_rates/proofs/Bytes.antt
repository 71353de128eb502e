-- A number that a call wrote to its output, read back: `word_at`. Assumes nothing.
use mathlib.Core.Path.{◌≡◌, ap, ◌∙◌}
use mathlib.Core.List.{List, ◌++◌}
use Prim.Native.Nat.{ℕ, ◌*◌, ◌^◌, ◌<◌}
use native.Mathlib.Omega.{arith}
use lib.ListN.{length, take, drop, get_or, length-drop}
use lib.Seq.{take-append-le, drop-append-le}
use Rattle.lists.specs.Output.{put}
use Rattle.byte_numbers.specs.Bytes.{number_of, bytes_of, all_bytes, bytes32}
use Rattle.byte_numbers.specs.Groups.{group, joined}
use Rattle.byte_numbers.specs.Lengths.{length_bytes}
use Rattle.byte_numbers.proofs.Bytes.{number_of_bytes}
use Rattle.byte_numbers.proofs.Groups.{length_joined, group_joined}

pub word_at : (words out : List ℕ) (i : ℕ) → i < length words → get_or words i 0 < 2 ^ 32 → number_of (take 4 (drop (4 * i) (put (bytes32 words) out))) ≡ get_or words i 0
unfolding put all_bytes group
word_at words out i h small =
    let f : ℕ → List ℕ = λ i. bytes_of 4 (get_or words i 0) in
    let all = joined (length words) f in
    let rest = drop (length all) out in
    let long : length all ≡ 4 * length words = length_joined 4 f (λ k. length_bytes 4 (get_or words k 0)) (length words) in
    let here : take 4 (drop (4 * i) (all ++ rest)) ≡ take 4 (drop (4 * i) all) =
    ap (take 4) (drop-append-le (4 * i) all rest (omega arith)) ∙ take-append-le 4 (drop (4 * i) all) rest (omega (arith, length-drop (4 * i) all)) in
    let is : take 4 (drop (4 * i) all) ≡ bytes_of 4 (get_or words i 0) = group_joined 4 f (λ k. length_bytes 4 (get_or words k 0)) (length words) i h in
    ap number_of (here ∙ is) ∙ number_of_bytes 4 (get_or words i 0) small
