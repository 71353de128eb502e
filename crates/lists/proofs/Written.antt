-- What stands in a written output, element by element, for any element type.
--     get_d_put, get_d_behind         a place that is written, and one behind
--     table_front, table_behind       the same where a table was written
--     unwritten                       the place of the next store of a loop that fills an output
--     put_more                        a rule that says of some places what is there already
--     put_places                      so many places of a table are written, or none
-- Assumes nothing.
use mathlib.Core.Path.{◌≡◌, refl, sym, ap, ◌∙◌}
use mathlib.Core.Bool.{Bool, true, false, cond}
use mathlib.Core.List.{List}
use Prim.Native.Nat.{ℕ, ◌+◌, ◌-◌, ◌≤◌, ◌<◌}
use native.Mathlib.Omega.{arith}
use lib.Dec.{ltb}
use borrow.Author.Tests.{ltb-true, ltb-false}
use lib.ListN.{length, take, drop, get_or, get_or-append}
use lib.Seq.{get_or-append-add, get_or-drop, length-take-le, ext_get_or}
use Rattle.lists.specs.Output.{put}
use Rattle.lists.specs.Part.{only_if}
use Rattle.lists.specs.Table.{tabulate}
use Rattle.lists.proofs.Output.{length_put, put_equal, Filling}
use Rattle.lists.proofs.Table.{length_tabulate, get_d_tabulate, table_or_none}

module _ {A : Type 0} where
  module _ (xs out : List A) (i : ℕ) (d : A) where
    pub get_d_put : i < length xs → get_or (put xs out) i d ≡ get_or xs i d
    unfolding put
    get_d_put h = get_or-append xs (drop (length xs) out) d i h

    pub get_d_behind : length xs ≤ i → get_or (put xs out) i d ≡ get_or out i d
    unfolding put
    get_d_behind h =
        let here : i ≡ length xs + (i - length xs) = omega arith in
        rw here (get_or-append-add xs (drop (length xs) out) (i - length xs) d ∙ get_or-drop (length xs) out (i - length xs) d)

  module _ (d : A) (n : ℕ) (f : ℕ → A) (out : List A) (i : ℕ) where
    pub table_front : i < n → get_or (put (tabulate n f) out) i d ≡ f i
    table_front h = get_d_put (tabulate n f) out i d (omega (arith, length_tabulate n f)) ∙ get_d_tabulate n f i d h

    pub table_behind : n ≤ i → get_or (put (tabulate n f) out) i d ≡ get_or out i d
    table_behind h = get_d_behind (tabulate n f) out i d (omega (arith, length_tabulate n f))

  pub unwritten : {n i : ℕ} {xs before now : List A} (d : A) → Filling n xs before i now → get_or now i d ≡ get_or before i d
  unwritten {n} {i} {xs} {before} d f =
      let few : length (take i xs) ≡ i = length-take-le i xs (omega arith) in
      ap (λ (l : List A). get_or l i d) f.so_far ∙ get_d_behind (take i xs) before i d (omega arith)

  -- The rule says of the places from m on what is there already.
  pub put_more : (m n : ℕ) (f : ℕ → A) (out : List A) (d : A) → m ≤ n → n ≤ length out → ((i : ℕ) → m ≤ i → i < n → f i ≡ get_or out i d) → put (tabulate m f) out ≡ put (tabulate n f) out
  put_more m n f out d l room h = ext_get_or d (put (tabulate m f) out) (put (tabulate n f) out) (size m (omega arith) ∙ sym (size n room)) (λ i _. at i (ltb i m) (ltb i n) refl refl)
    where
      size : (k : ℕ) → k ≤ length out → length (put (tabulate k f) out) ≡ length out
      size k few = length_put (tabulate k f) out (omega (arith, length_tabulate k f))

      at : (i : ℕ) (early within : Bool) → ltb i m ≡ early → ltb i n ≡ within → get_or (put (tabulate m f) out) i d ≡ get_or (put (tabulate n f) out) i d
      at i true within e w =
          let first : i < m = ltb-true i m e in
          table_front d m f out i first ∙ sym (table_front d n f out i (omega arith))
      at i false true e w =
          let later : m ≤ i = ltb-false i m e in
          let inside : i < n = ltb-true i n w in
          table_behind d m f out i later ∙ sym (h i later inside) ∙ sym (table_front d n f out i inside)
      at i false false e w = table_behind d m f out i (ltb-false i m e) ∙ sym (table_behind d n f out i (ltb-false i n w))

  pub put_places : (b : Bool) (n : ℕ) (f : ℕ → A) (out : List A) {places : ℕ} {Y : List A} → places ≡ cond b n 0 → Y ≡ put (tabulate places f) out → Y ≡ put (only_if b (tabulate n f)) out
  put_places b n f out e y = y ∙ put_equal out (table_or_none b n f e)
