-- Text as its bytes, and what a writer of a text leaves.
use Rattle.std.specs.Prelude.{ℕ, zero, suc, min, ◌≡◌, cond, ◌&&◌, List, [], ◌∷◌, ◌++◌, map, leb, length, take}
use Prim.Native.Char.{code}
use Prim.Native.String.{String, [] as none, ◌∷◌ as ◌then◌}
use Rattle.lists.specs.Output.{put}
use Rattle.decimal.specs.Decimal.{decimal, listed}

-- The characters' numbers, which are their bytes where all are of ASCII.
abbrev pub ascii : String → List ℕ
ascii none = []
ascii (c then s) = code c ∷ ascii s

-- Numbers in decimal, a comma between each two.
unfoldable pub comma_list : List ℕ → List ℕ
comma_list [] = []
comma_list (n ∷ ns) = decimal n ++ listed ns

-- What the number at a place of such a list adds to its text: the first stands bare.
abbrev pub item : ℕ → ℕ → List ℕ
item zero n = decimal n
item (suc place) n = 44 ∷ decimal n

-- A byte as it is printed: that of a visible character of ASCII as it is, any other as a question mark (63).
unfoldable pub visible : ℕ → ℕ
visible b = cond (leb 0x21 b && leb b 0x7e) b 63

unfoldable pub printed : List ℕ → List ℕ
printed bytes = map visible bytes

-- After a call that writes a text to the front of an output: as much of it as there is room for stands there, what lies behind is
-- as it was, and r is the place behind what was written. So where there is room, r is the text's length.
pub record Written (text before after : List ℕ) (r : ℕ) : Type 0 where
  pub count : r ≡ min (length before) (length text)
  pub bytes : after ≡ put (take (length before) text) before

-- The same from a place of the output on: behind what stands before that place, which is as it was. From a place past the end
-- nothing is written.
pub record Appended (text : List ℕ) (at : ℕ) (before after : List ℕ) (r : ℕ) : Type 0 where
  pub written : Written (take at before ++ text) before after r
