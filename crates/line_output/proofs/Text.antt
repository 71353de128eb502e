-- Laws of written texts and of lists with commas.
--     same_size              the output's length stays
--     whole                  where there is room, all of the text is written
--     placed                 a text written to the part of the output from a place on
--     then                   one text written right behind another
--     item_later             what a number that is not the first adds to a list
--     Listing                the invariant of a loop that writes a list: begin, turn
--     length_printed, printed_at       bytes as they are printed
-- Assumes nothing.
use mathlib.Core.Path.{◌≡◌, refl, sym, ap, ◌∙◌}
use mathlib.Core.List.{List, [], ◌∷◌, ◌++◌, append-nil, append_assoc}
use Prim.Native.Nat.{ℕ, zero, suc, ◌+◌, ◌-◌, ◌*◌, ◌^◌, ◌≤◌, ◌<◌, min}
use native.Mathlib.Nat.{sub-zero, mul-suc}
use native.Mathlib.Numerals.{add-one}
use native.Mathlib.Omega.{arith}
use borrow.Rule.Slice.PartMut.{put_mid, mid_of}
use lib.ListN.{length, take, drop, get_or, length-append, length-take, length-drop, length-map, get_or-map}
use lib.Seq.{take-suc, take-take, take_all, length-take-le}
use Rattle.lists.specs.Output.{put}
use Rattle.lists.proofs.Output.{length_put, put_fitting, copy_next, put_take, put_over, front_of}
use Rattle.decimal.specs.Decimal.{decimal, listed}
use Rattle.decimal.proofs.Decimal.{few_digits, listed_append}
use Rattle.line_output.specs.Text.{comma_list, item, visible, printed, Written, Appended}
use Rattle.line_output.specs.Writer.{Writes}
use Rattle.line_output.specs.declared.Writer.{Writer}

module _ {text out after : List ℕ} {r : ℕ} (w : Written text out after r) where
  pub same_size : length after ≡ length out
  same_size = ap length w.bytes ∙ length_put (take (length out) text) out (omega (arith, length-take (length out) text))

  pub whole : length text ≤ length out → (r ≡ length text) × (after ≡ put text out)
  whole room = (omega (arith, w.count), w.bytes ∙ put_fitting text out room)

-- Of two texts, as much of the second is within the first n bytes as the first leaves room for.
take_both : (n : ℕ) (s t : List ℕ) → take n (s ++ t) ≡ take n s ++ take (n - length (take n s)) t
take_both zero s t = refl
take_both (suc n) [] t = rw sub-zero
take_both (suc n) (x ∷ s) t =
    let left : n - length (take n s) ≡ suc n - suc (length (take n s)) = omega arith in
    ap (λ (l : List ℕ). x ∷ l) (take_both n s t ∙ ap (λ (k : ℕ). take n s ++ take k t) left)

-- Written to the part behind another.
join :
    {s t out L Y : List ℕ} {a n : ℕ}
    → Written s out L a
    → Written t (mid_of a (length L - a) L) Y n
    → Written (s ++ t) out (put_mid a (length L - a) L Y) (a + n)
join {s} {t} {out} {L} {Y} {a} {n} u v =
    let first = take (length out) s in
    let room = length L - a in
    let same : length L ≡ length out = same_size u in
    let here : a ≡ length first = u.count ∙ sym (length-take (length out) s) in
    let size : length (mid_of a room L) ≡ room = length-take room (drop a L) ∙ omega (arith, length-drop a L) in
    let second : Y ≡ put (take (length (mid_of a room L)) (take room t)) (mid_of a room L) = v.bytes ∙ ap (λ (l : List ℕ). put l (mid_of a room L)) (sym (take-take (length (mid_of a room L)) room t (omega arith))) in
    let left : length out - length first ≡ room = omega arith in
    record {
      count = omega (arith, u.count, v.count, length-append s t);
      bytes = copy_next first out room u.bytes here (omega (arith, u.count)) (take room t) (omega (arith, length-take room t)) second ∙ ap (λ (l : List ℕ). put l out) (ap (λ (k : ℕ). first ++ take k t) (sym left) ∙ sym (take_both (length out) s t));
    }

held : {at : ℕ} {out : List ℕ} → at ≤ length out → Written (take at out) out out at
held {at} {out} h = record {
  count = omega (arith, length-take at out);
  bytes = sym (ap (λ (l : List ℕ). put l out) (take_all (length out) (take at out) (omega (arith, length-take at out))) ∙ put_take at out);
}

pub placed :
    {at : ℕ} {text out Y : List ℕ} {k n : ℕ}
    → at ≤ length out
    → k ≡ length text
    → Y ≡ put (take (length (mid_of at (length out - at) out)) text) (mid_of at (length out - at) out)
    → n ≡ min (length (mid_of at (length out - at) out)) k
    → Appended text at out (put_mid at (length out - at) out Y) (at + n)
placed h long left least = record { written = join (held h) (record { count = omega (arith, long, least); bytes = left }) }

-- Of a text that was cut off, more would be cut off too.
take_cut : (n : ℕ) (s t : List ℕ) → take n (take n s ++ t) ≡ take n (s ++ t)
take_cut zero s t = refl
take_cut (suc n) [] t = refl
take_cut (suc n) (x ∷ s) t = ap (λ (l : List ℕ). x ∷ l) (take_cut n s t)

behind :
    {s out L Y : List ℕ} (t : List ℕ) {a r : ℕ}
    → Written s out L a
    → Written (take a L ++ t) L Y r
    → Written (s ++ t) out Y r
behind {s} {out} {L} {Y} t {a} u v =
    let first = take (length out) s in
    let size : length first ≡ min (length out) (length s) = length-take (length out) s in
    let same : length L ≡ length out = same_size u in
    let again : take a L ≡ first = front_of first out u.bytes (u.count ∙ sym size) in
    let long : length first ≤ length (take (length out) (first ++ t)) = omega (arith, length-take (length out) (first ++ t), length-append first t) in
    record {
      count = omega (arith, v.count, ap (λ (l : List ℕ). length (l ++ t)) again, length-append first t, length-append s t);
      bytes = v.bytes ∙ rw (same, again, u.bytes) (put_over (take (length out) (first ++ t)) first out long) ∙ ap (λ (l : List ℕ). put l out) (take_cut (length out) s t);
    }

appended_then : {s t out L Y : List ℕ} {at a r : ℕ} → Appended s at out L a → Appended t a L Y r → Appended (s ++ t) at out Y r
appended_then {s} {t} {out} {at = at} u v = record { written = rw (append_assoc (take at out) s t) at (behind t u.written v.written) }

pub then : {s t : List ℕ} {before now last : Writer} → Writes s before now → Writes t now last → Writes (s ++ t) before last
then u v = record { same_reference = v.same_reference ∙ u.same_reference; appended = appended_then u.appended v.appended }

listed_snoc : (ns : List ℕ) (n : ℕ) → listed (ns ++ n ∷ []) ≡ listed ns ++ (44 ∷ decimal n)
unfolding listed
listed_snoc ns n = listed_append ns (n ∷ []) ∙ ap (λ (l : List ℕ). listed ns ++ l) (append-nil (44 ∷ decimal n))

comma_snoc : (ns : List ℕ) (n : ℕ) → comma_list (ns ++ n ∷ []) ≡ comma_list ns ++ item (length ns) n
unfolding comma_list listed
comma_snoc [] n = append-nil (decimal n)
comma_snoc (m ∷ ns) n = rw (listed_snoc ns n) (sym (append_assoc (decimal m) (listed ns) (44 ∷ decimal n)))

comma_next : (ns : List ℕ) (i : ℕ) → i < length ns → comma_list (take (i + 1) ns) ≡ comma_list (take i ns) ++ item i (get_or ns i 0)
comma_next ns i h = rw (add-one, take-suc ns i 0 h, comma_snoc, length-take-le i ns (omega arith))

pub item_later : (place n : ℕ) → (place ≡ 0 → ⊥) → item place n ≡ 44 ∷ decimal n
item_later zero n h = absurd (h refl)
item_later (suc place) n h = refl

item_most : (k place n : ℕ) → n < 10 ^ suc k → length (item place n) ≤ suc k + 1
item_most k zero n h = omega (arith, few_digits k n h)
item_most k (suc place) n h = omega (arith, few_digits k n h)

-- i of the numbers are written, with at most k bytes for each.
pub record Listing (k : ℕ) (ns : List ℕ) (before : Writer) (i : ℕ) (now : Writer) : Type 0 where
  pub few : i ≤ length ns
  pub written : Writes (comma_list (take i ns)) before now
  pub most : length (comma_list (take i ns)) ≤ k * i

pub begin : (k : ℕ) (ns : List ℕ) (w : Writer) → Listing k ns w 0 w
unfolding comma_list
begin k ns w = record {
  few = omega arith;
  written = record { same_reference = refl; appended = record { written = rw append-nil (held w.inside) } };
  most = omega arith;
}

pub turn :
    (k : ℕ) {ns : List ℕ} {before now last : Writer} {i : ℕ}
    → Listing (suc k + 1) ns before i now
    → i < length ns
    → Writes (item i (get_or ns i 0)) now last
    → get_or ns i 0 < 10 ^ suc k
    → Listing (suc k + 1) ns before (i + 1) last
turn k {ns} {i = i} l more w small =
    let next = comma_next ns i more in
    let grown = ap length next ∙ length-append (comma_list (take i ns)) (item i (get_or ns i 0)) in
    let bound : (suc k + 1) * (i + 1) ≡ (suc k + 1) * i + (suc k + 1) = rw (add-one i) (mul-suc (suc k + 1) i) in
    record {
      few = omega arith;
      written = rw next (then l.written w);
      most = omega (arith, l.most, item_most k i (get_or ns i 0) small);
    }

pub length_printed : (bytes : List ℕ) → length (printed bytes) ≡ length bytes
unfolding printed
length_printed bytes = length-map bytes visible

pub printed_at : (bytes : List ℕ) (i : ℕ) → visible (get_or bytes i 0) ≡ get_or (printed bytes) i 63
unfolding printed visible
printed_at bytes i = sym (get_or-map visible bytes i 0)
