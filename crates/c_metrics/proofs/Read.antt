-- What was read to arrays of 1,024 places, where no array of bytes has more numbers, is what the bytes stand for.
-- Assumes nothing.
use mathlib.Core.Path.{◌≡◌, refl, ap, ◌∙◌}
use mathlib.Core.Bool.{Bool, true, false}
use mathlib.Core.List.{List, []}
use Prim.Native.Nat.{ℕ, ◌/◌, ◌≤◌}
use lib.ListN.{length, take}
use Rattle.std.proofs.Common.{Option, Some, None}
use Rattle.lists.specs.Output.{put}
use Rattle.lists.specs.Table.{tabulate}
use Rattle.refusals.specs.Outcome.{zeros}
use Rattle.byte_numbers.specs.Groups.{by_group}
use Rattle.byte_numbers.specs.Bytes.{number_of, words16}
use Rattle.byte_numbers.proofs.Groups.{read_front}
use Rattle.duplex_metrics.specs.Metrics.{input, input_of}
use Rattle.duplex_metrics.specs.declared.Counts.{Counts}
use Rattle.molecule_counts.specs.Counts.{CountedArrays, DecodedTo, zero_counts, arrays_in, second_in, counts_at_front}
use Rattle.c_metrics.specs.Bytes.{Narrow, decoded}

-- The numbers of a strand that may be absent, which stand at the front of two arrays.
abbrev pub second_at_front : Option (Counts ℕ) → CountedArrays → Option CountedArrays
second_at_front None read = None
second_at_front (Some s) read = Some (counts_at_front s read)

front : (bytes : List ℕ) {now : List ℕ} → length bytes / 2 ≤ 1024 → now ≡ put (take (length zeros) (words16 bytes)) zeros → take (length bytes / 2) now ≡ words16 bytes
front bytes h e = read_front 2 number_of bytes zeros h e

same_input :
    (second : Bool) (bases : List ℕ) {a a' ae ae' b b' be be' e e' : List ℕ}
    → a ≡ a'
    → ae ≡ ae'
    → b ≡ b'
    → be ≡ be'
    → e ≡ e'
    → input a ae second b be bases e ≡ input a' ae' second b' be' bases e'
same_input second bases f g h i j = cc

-- No bytes are no numbers.
no_numbers : [] ≡ words16 []
unfolding by_group tabulate
no_numbers = refl

pub read_as :
    (a : Counts ℕ) (b : Option (Counts ℕ)) (bases errors : List ℕ) (first : Counts ℕ) (given : Option (Counts ℕ)) (b_read : CountedArrays) {a_read : CountedArrays} {own e : List ℕ}
    → Narrow (input_of a b bases errors)
    → DecodedTo (Some a) zero_counts a_read
    → DecodedTo b zero_counts b_read
    → arrays_in first ≡ counts_at_front a a_read
    → second_in given ≡ second_at_front b b_read
    → own ≡ put (take (length zeros) (words16 errors)) zeros
    → e ≡ take (length errors / 2) own
    → input_of first given bases e ≡ decoded (input_of a b bases errors)
read_as a None bases errors first None b_read h ra rb f g o e =
    same_input false bases (ap (λ (s : CountedArrays). s.depths) f ∙ front a.depths.now h.a ra.0) (ap (λ (s : CountedArrays). s.errors) f ∙ front a.errors.now h.a_errors ra.1) no_numbers no_numbers (e ∙ front errors h.errors o)
read_as a None bases errors first (Some s) b_read h ra rb f g o e = absurd cc
read_as a (Some b) bases errors first None b_read h ra rb f g o e = absurd cc
read_as a (Some b) bases errors first (Some s) b_read h ra rb f g o e =
    let both : arrays_in s ≡ counts_at_front b b_read = cc in
    same_input true bases (ap (λ (s : CountedArrays). s.depths) f ∙ front a.depths.now h.a ra.0) (ap (λ (s : CountedArrays). s.errors) f ∙ front a.errors.now h.a_errors ra.1)
    (ap (λ (s : CountedArrays). s.depths) both ∙ front b.depths.now h.b rb.0) (ap (λ (s : CountedArrays). s.errors) both ∙ front b.errors.now h.b_errors rb.1) (e ∙ front errors h.errors o)
