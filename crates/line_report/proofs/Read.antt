-- Of numbers that were read to an array of 1,024 places, the first n are those of the first 1,024. Assumes nothing.
use mathlib.Core.Path.{◌≡◌, refl, sym, ap, ◌∙◌}
use mathlib.Core.Bool.{Bool, true, false}
use mathlib.Core.List.{List}
use Prim.Native.Nat.{ℕ, ◌/◌}
use native.Mathlib.Omega.{arith}
use borrow.Author.Tests.{ltb-true, ltb-false}
use lib.Dec.{ltb}
use lib.ListN.{length, take, length-take, length-replicate}
use lib.Seq.{take_all}
use Rattle.lists.specs.Output.{put}
use Rattle.lists.proofs.Output.{put_whole}
use Rattle.refusals.specs.Outcome.{zeros}
use Rattle.byte_numbers.specs.Bytes.{number_of, words16}
use Rattle.byte_numbers.proofs.Bytes.{length_numbers}
use Rattle.byte_numbers.proofs.Groups.{read_front}

module _ (bytes : List ℕ) {now : List ℕ} (e : now ≡ put (take (length zeros) (words16 bytes)) zeros) where
  all_read : take (length bytes / 2) now ≡ take 1024 (words16 bytes)
  all_read = go (ltb 1024 (length bytes / 2)) refl
    where
      room : length zeros ≡ 1024
      room = length-replicate {A = ℕ} 1024 0

      go : (long : Bool) → ltb 1024 (length bytes / 2) ≡ long → take (length bytes / 2) now ≡ take 1024 (words16 bytes)
      go true l =
          let more = ltb-true 1024 (length bytes / 2) l in
          let xs = take (length zeros) (words16 bytes) in
          let size : length xs ≡ length zeros = omega (arith, room, length-take (length zeros) (words16 bytes), length_numbers 2 bytes) in
          let full : now ≡ xs = e ∙ put_whole xs zeros size in
          ap (λ (l : List ℕ). take (length bytes / 2) l) full ∙ take_all (length bytes / 2) xs (omega (arith, room)) ∙ ap (λ (k : ℕ). take k (words16 bytes)) room
      go false l =
          let few = ltb-false 1024 (length bytes / 2) l in
          read_front 2 number_of bytes zeros (omega (arith, room)) e ∙ sym (take_all 1024 (words16 bytes) (omega (arith, length_numbers 2 bytes)))

  pub first_is : (n : ℕ) → take n (take (length bytes / 2) now) ≡ take n (take 1024 (words16 bytes))
  first_is n = ap (λ (l : List ℕ). take n l) all_read
