-- What stands in the columns of a printed text.
--     column_kind, column_bases, column_errors     of a record's text
--     column_a_e, column_b_e, column_c_e
--     numbers_back                                 numbers with commas between them are read back
--     none_word, refused_word                      what stands for a kind in the other two texts
-- Assumes nothing.
use mathlib.Core.Path.{◌≡◌, refl, ap, ◌∙◌}
use mathlib.Core.Bool.{Bool, true, false, cond, not, ◌&&◌}
use mathlib.Core.List.{List, [], ◌∷◌, ◌++◌, map, append_assoc, append-nil}
use Prim.Native.Nat.{ℕ, ◌+◌, ◌-◌, ◌≤◌, ◌<◌}
use native.Mathlib.Omega.{arith}
use borrow.Author.Tests.{ne_eqb, not-true, leb-true}
use lib.Dec.{leb, ltb}
use lib.ListN.{length, drop, get_or, length-append}
use Rattle.lists.specs.Every.{every}
use Rattle.refusals.proofs.Condition.{both_hold}
use Rattle.decimal.specs.Decimal.{decimal, value_of, listed}
use Rattle.decimal.proofs.Decimal as digits
use Rattle.decimal.proofs.Decimal.{by_tenths, length_one, length_more, value_decimal}
use Rattle.hexadecimal.specs.Hexadecimal.{hex_digit, hexadecimal}
use Rattle.hexadecimal.proofs.Hexadecimal.{each_digit}
use Rattle.metrics_bits.specs.declared.MetricsBits.{MetricsBits}
use Rattle.line_output.specs.Text.{ascii, comma_list, visible, printed}
use Rattle.line_metrics.specs.MetricsText.{field, rate_field, figures_text, metrics_text}
use Rattle.line_format.specs.Line.{Columns, header, kind_text, gate_text, columns_text, opening, closing, line_text, none_text, refused_text}
use Rattle.line_format.specs.declared.Kind.{Kind}
use Rattle.line_format.specs.declared.Kind.TheVariants.{Ab, Ba, Both}
use Rattle.honest_rates.specs.Text.{split, ends_word, column, ends_number, numbers_in}

-- ---- Words

module _ (ends : ℕ → Bool) where
  -- No character of it ends a word.
  abbrev Whole : List ℕ → Type 0
  Whole w = every (λ c. not (ends c)) w ≡ true

  split_first : (w : List ℕ) (c : ℕ) (rest : List ℕ) → Whole w → ends c ≡ true → split ends (w ++ c ∷ rest) ≡ w ∷ split ends rest
  unfolding split every
  split_first [] c rest h e = rw e
  split_first (x ∷ w) c rest h e =
      let (here, later) = both_hold (not (ends x)) (every (λ c. not (ends c)) w) h in
      rw (not-true (ends x) here, split_first w c rest later e)

  split_last : (w : List ℕ) → Whole w → split ends w ≡ w ∷ []
  unfolding split every
  split_last [] h = refl
  split_last (x ∷ w) h =
      let (here, later) = both_hold (not (ends x)) (every (λ c. not (ends c)) w) h in
      rw (not-true (ends x) here, split_last w later)

  whole_append : (v w : List ℕ) → Whole v → Whole w → Whole (v ++ w)
  unfolding every
  whole_append [] w h k = k
  whole_append (x ∷ v) w h k =
      let (here, later) = both_hold (not (ends x)) (every (λ c. not (ends c)) v) h in
      rw (here, whole_append v w later k)

  whole_decimal : ((d : ℕ) → d < 10 → ends (48 + d) ≡ false) → (n : ℕ) → Whole (decimal n)
  whole_decimal so n = digits.each_digit (λ c. not (ends c)) (λ d h. ap not (so d h)) n

abbrev Word : List ℕ → Type 0
Word w = Whole ends_word w

no_word_end : (c : ℕ) → 32 < c → ends_word c ≡ false
no_word_end c h = rw (ne_eqb c 32 (λ e. omega arith), ne_eqb c 10 (λ e. omega arith))

word_decimal : (n : ℕ) → Word (decimal n)
word_decimal = whole_decimal ends_word (λ d h. no_word_end (48 + d) (omega arith))

word_hexadecimal : (n : ℕ) → Word (hexadecimal n)
word_hexadecimal n = each_digit (λ c. not (ends_word c)) so n
  where
    so : (d : ℕ) → d < 16 → not (ends_word (hex_digit d)) ≡ true
    so d h = go (ltb d 10)
      where
        go : (b : Bool) → not (ends_word (cond b (48 + d) (97 + (d - 10)))) ≡ true
        go true = ap not (no_word_end (48 + d) (omega arith))
        go false = ap not (no_word_end (97 + (d - 10)) (omega arith))

word_listed : (ns : List ℕ) → Word (listed ns)
unfolding listed every
word_listed [] = refl
word_listed (n ∷ ns) = whole_append ends_word (decimal n) (listed ns) (word_decimal n) (word_listed ns)

word_commas : (ns : List ℕ) → Word (comma_list ns)
unfolding comma_list every
word_commas [] = refl
word_commas (n ∷ ns) = whole_append ends_word (decimal n) (listed ns) (word_decimal n) (word_listed ns)

visible_above : (b : ℕ) → 32 < visible b
unfolding visible
visible_above b = go (leb 0x21 b && leb b 0x7e) refl
  where
    go : (t : Bool) → (leb 0x21 b && leb b 0x7e) ≡ t → 32 < cond t b 63
    go true e = omega (arith, leb-true 0x21 b (both_hold (leb 0x21 b) (leb b 0x7e) e).0)
    go false e = omega arith

word_printed : (bs : List ℕ) → Word (printed bs)
unfolding printed every
word_printed [] = refl
word_printed (b ∷ bs) = rw (no_word_end (visible b) (visible_above b)) (word_printed bs)

-- ---- A record's text

-- Words with a blank behind each, and then some text.
abbrev closed : List (List ℕ) → List ℕ → List ℕ
closed [] end = end
closed (w ∷ ws) end = w ++ 32 ∷ closed ws end

abbrev Words : List (List ℕ) → Type 0
Words [] = Unit {0}
Words (w ∷ ws) = Word w × Words ws

split_closed : (ws : List (List ℕ)) (end : List ℕ) → Words ws → split ends_word (closed ws end) ≡ ws ++ split ends_word end
split_closed [] end h = refl
split_closed (w ∷ ws) end h = split_first ends_word w 32 (closed ws end) h.0 refl ∙ ap (λ (l : List (List ℕ)). w ∷ l) (split_closed ws end h.1)

-- All words of the header but the last.
abbrev heads : List (List ℕ)
heads =
    ascii "kind"
    ∷ ascii "gate"
    ∷ ascii "bases"
    ∷ ascii "quals"
    ∷ ascii "errors"
    ∷ ascii "aD"
    ∷ ascii "aM"
    ∷ ascii "aE"
    ∷ ascii "bD"
    ∷ ascii "bM"
    ∷ ascii "bE"
    ∷ ascii "cD"
    ∷ ascii "cM"
    ∷ ascii "cE"
    ∷ []

head_words : Words heads
unfolding every
head_words = (refl, (refl, (refl, (refl, (refl, (refl, (refl, (refl, (refl, (refl, (refl, (refl, (refl, (refl, tt))))))))))))))

split_header : (rest : List ℕ) → split ends_word (header ++ rest) ≡ heads ++ ascii "nc" ∷ split ends_word rest
unfolding header
split_header rest =
    split_closed heads (ascii "nc" ++ 10 ∷ rest) head_words
    ∙ ap (λ (l : List (List ℕ)). heads ++ l) (split_first ends_word (ascii "nc") 10 rest (unfold every in refl) refl)

abbrev gate_word : Bool → List ℕ
gate_word kept = cond kept (ascii "kept") (ascii "below")

word_kind : (kind : Kind) → Word (kind_text kind)
unfolding kind_text every
word_kind Ab = refl
word_kind Ba = refl
word_kind Both = refl

split_gate : (kind : Kind) (kept : Bool) (rest : List ℕ) → split ends_word (kind_text kind ++ (gate_text kept ++ rest)) ≡ kind_text kind ∷ gate_word kept ∷ split ends_word rest
unfolding gate_text every
split_gate kind true rest =
    split_first ends_word (kind_text kind) 32 (ascii "kept" ++ 32 ∷ rest) (word_kind kind) refl
    ∙ ap (λ (l : List (List ℕ)). kind_text kind ∷ l) (split_first ends_word (ascii "kept") 32 rest refl refl)
split_gate kind false rest =
    split_first ends_word (kind_text kind) 32 (ascii "below" ++ 32 ∷ rest) (word_kind kind) refl
    ∙ ap (λ (l : List (List ℕ)). kind_text kind ∷ l) (split_first ends_word (ascii "below") 32 rest refl refl)

-- The parts of the line, a blank behind each word.
figures_closed : (largest smallest rate : ℕ) (rest : List ℕ) → figures_text largest smallest rate ++ rest ≡ 32 ∷ (decimal largest ++ 32 ∷ (decimal smallest ++ 32 ∷ (hexadecimal rate ++ rest)))
unfolding figures_text field rate_field
figures_closed largest smallest rate rest =
    append_assoc (field largest ++ field smallest) (rate_field rate) rest ∙ append_assoc (field largest) (field smallest) (rate_field rate ++ rest)

columns_closed : (c : Columns) (rest : List ℕ) → columns_text c ++ rest ≡ printed c.bases ++ 32 ∷ (comma_list c.quals ++ 32 ∷ (comma_list c.errors ++ rest))
unfolding columns_text
columns_closed c rest =
    let p = printed c.bases in
    let q = comma_list c.quals in
    let e = comma_list c.errors in
    let blank = ascii " " in
    append_assoc (((p ++ blank) ++ q) ++ blank) e rest
    ∙ append_assoc ((p ++ blank) ++ q) blank (e ++ rest)
    ∙ append_assoc (p ++ blank) q (blank ++ (e ++ rest))
    ∙ append_assoc p blank (q ++ (blank ++ (e ++ rest)))

module _ (kind : Kind) (kept : Bool) (c : Columns) (m : MetricsBits) where
  abbrev others : List (List ℕ)
  others =
      printed c.bases
      ∷ comma_list c.quals
      ∷ comma_list c.errors
      ∷ decimal m.aD
      ∷ decimal m.aM
      ∷ hexadecimal m.aE
      ∷ decimal m.bD
      ∷ decimal m.bM
      ∷ hexadecimal m.bE
      ∷ decimal m.cD
      ∷ decimal m.cM
      ∷ hexadecimal m.cE
      ∷ []

  are_words : Words others
  are_words = (word_printed c.bases, (word_commas c.quals, (word_commas c.errors, (word_decimal m.aD, (word_decimal m.aM, (word_hexadecimal m.aE, (word_decimal m.bD, (word_decimal m.bM, (word_hexadecimal m.bE, (word_decimal m.cD, (word_decimal m.cM, (word_hexadecimal m.cE, tt))))))))))))

  abbrev last : List ℕ
  last = decimal m.nc ++ 10 ∷ []

  closing_is : closing m ≡ 32 ∷ closed (drop 3 others) last
  unfolding closing metrics_text
  closing_is =
      let a = figures_text m.aD m.aM m.aE in
      let b = figures_text m.bD m.bM m.bE in
      let c = figures_text m.cD m.cM m.cE in
      append_assoc ((a ++ b) ++ c) (field m.nc) (10 ∷ [])
      ∙ append_assoc (a ++ b) c (field m.nc ++ 10 ∷ [])
      ∙ append_assoc a b (c ++ (field m.nc ++ 10 ∷ []))
      ∙ figures_closed m.aD m.aM m.aE (b ++ (c ++ (field m.nc ++ 10 ∷ [])))
      ∙ ap (λ (l : List ℕ). 32 ∷ (decimal m.aD ++ 32 ∷ (decimal m.aM ++ 32 ∷ (hexadecimal m.aE ++ l)))) (
      figures_closed m.bD m.bM m.bE (c ++ (field m.nc ++ 10 ∷ []))
      ∙ ap (λ (l : List ℕ). 32 ∷ (decimal m.bD ++ 32 ∷ (decimal m.bM ++ 32 ∷ (hexadecimal m.bE ++ l)))) (
      figures_closed m.cD m.cM m.cE (field m.nc ++ 10 ∷ []) ∙ (unfold field in refl)))

  text_is : line_text kind kept c m ≡ header ++ (kind_text kind ++ (gate_text kept ++ closed others last))
  unfolding line_text opening
  text_is =
      append_assoc (opening kind kept) (columns_text c) (closing m)
      ∙ append_assoc (header ++ kind_text kind) (gate_text kept) (columns_text c ++ closing m)
      ∙ append_assoc header (kind_text kind) (gate_text kept ++ (columns_text c ++ closing m))
      ∙ ap (λ (l : List ℕ). header ++ (kind_text kind ++ (gate_text kept ++ l))) (
      columns_closed c (closing m)
      ∙ ap (λ (l : List ℕ). printed c.bases ++ 32 ∷ (comma_list c.quals ++ 32 ∷ (comma_list c.errors ++ l))) closing_is)

  abbrev after_header : List (List ℕ)
  after_header = kind_text kind ∷ gate_word kept ∷ (others ++ split ends_word last)

  split_line : split ends_word (line_text kind kept c m) ≡ heads ++ ascii "nc" ∷ after_header
  split_line =
      ap (split ends_word) text_is
      ∙ split_header (kind_text kind ++ (gate_text kept ++ closed others last))
      ∙ ap (λ (l : List (List ℕ)). heads ++ ascii "nc" ∷ l) (
      split_gate kind kept (closed others last)
      ∙ ap (λ (l : List (List ℕ)). kind_text kind ∷ gate_word kept ∷ l) (split_closed others last are_words))

  in_column : (k : ℕ) → column k (line_text kind kept c m) ≡ get_or (heads ++ ascii "nc" ∷ after_header) (15 + k) []
  unfolding column
  in_column k = ap (λ (l : List (List ℕ)). get_or l (15 + k) []) split_line

  pub column_kind : column 0 (line_text kind kept c m) ≡ kind_text kind
  column_kind = in_column 0

  pub column_bases : column 2 (line_text kind kept c m) ≡ printed c.bases
  column_bases = in_column 2

  pub column_errors : column 4 (line_text kind kept c m) ≡ comma_list c.errors
  column_errors = in_column 4

  pub column_a_e : column 7 (line_text kind kept c m) ≡ hexadecimal m.aE
  column_a_e = in_column 7

  pub column_b_e : column 10 (line_text kind kept c m) ≡ hexadecimal m.bE
  column_b_e = in_column 10

  pub column_c_e : column 13 (line_text kind kept c m) ≡ hexadecimal m.cE
  column_c_e = in_column 13

-- ---- The other texts

split_none : split ends_word [] ≡ [] ∷ []
unfolding split
split_none = refl

pub none_word : column 0 none_text ≡ ascii "none"
unfolding column none_text every
none_word =
    ap (λ (l : List (List ℕ)). get_or l 15 [])
    (split_header (ascii "none\n") ∙ ap (λ (l : List (List ℕ)). heads ++ ascii "nc" ∷ l) (split_first ends_word (ascii "none") 10 [] refl refl))

pub refused_word : (n : ℕ) → column 0 (refused_text n) ≡ []
unfolding column refused_text every
refused_word n =
    ap (λ (l : List (List ℕ)). get_or l 15 [])
    (split_first ends_word (ascii "refused") 32 (decimal n ++ 10 ∷ []) refl refl
    ∙ ap (λ (l : List (List ℕ)). ascii "refused" ∷ l) (split_first ends_word (decimal n) 10 [] (word_decimal n) refl ∙ ap (λ (l : List (List ℕ)). decimal n ∷ l) split_none))

-- ---- Numbers with commas

no_comma : (n : ℕ) → Whole ends_number (decimal n)
no_comma = whole_decimal ends_number (λ d h. ne_eqb (48 + d) 44 (λ e. omega arith))

split_numbers : (n : ℕ) (ns : List ℕ) → map value_of (split ends_number (decimal n ++ listed ns)) ≡ n ∷ ns
unfolding listed
split_numbers n [] = rw (append-nil (decimal n), split_last ends_number (decimal n) (no_comma n)) (ap (λ (v : ℕ). v ∷ []) (value_decimal n))
split_numbers n (m ∷ ns) =
    rw (split_first ends_number (decimal n) 44 (decimal m ++ listed ns) (no_comma n) refl, value_decimal n)
    (ap (λ (l : List ℕ). n ∷ l) (split_numbers m ns))

some_digit : (n : ℕ) → 1 ≤ length (decimal n)
some_digit = by_tenths (λ n. 1 ≤ length (decimal n)) (λ n h. omega (arith, length_one n h)) (λ n h so. omega (arith, length_more n h))

of_some : (l : List ℕ) → 1 ≤ length l → numbers_in l ≡ map value_of (split ends_number l)
unfolding numbers_in
of_some [] h = absurd (omega arith)
of_some (c ∷ l) h = refl

pub numbers_back : (ns : List ℕ) → numbers_in (comma_list ns) ≡ ns
unfolding comma_list numbers_in
numbers_back [] = refl
numbers_back (n ∷ ns) = of_some (decimal n ++ listed ns) (omega (arith, some_digit n, length-append (decimal n) (listed ns))) ∙ split_numbers n ns
