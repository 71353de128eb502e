-- What a count of reads leaves.
--     all_within, few_positions     there is room for the positions that are counted, and they are no more than 1,024
--     one_read             of one read: the errors of its bases
--     either, one_shown    the same by what reads without flag 0x80 should show and those with it
--     none_shown           where nothing is shown, nothing
--     same                 as many numbers as there were
--     none_yet, next, all  a loop over the reads: at its start, after one more turn, and at its end
--     after_one            a count of one read, then of the others
--     expected_called, expected_uncalled, expected_length     the array of what reads should show: as it is written, and how long it is
--     none_counted, as_expected     of no position, nothing; by what is expected of reads, what they are to be counted for
--     as_counted           from 0, with no more reads than 16 bits count: how many reads are errors
--     few_errors           no more than there are reads
-- Assumes nothing.
use mathlib.Core.Path.{◌≡◌, refl, sym, ap, ◌∙◌}
use mathlib.Core.Bool.{Bool, true, false, cond, ◌&&◌}
use mathlib.Core.List.{List, [], ◌∷◌, ◌++◌, foldl, foldl-append}
use Prim.Native.Nat.{ℕ, ◌+◌, ◌-◌, ◌≤◌, ◌<◌, min}
use native.Mathlib.Nat.{min-eq_left}
use native.Mathlib.Omega.{arith}
use native.Mathlib.Numerals.{add-one}
use borrow.Author.Tests.{lt-ltb, le-ltb}
use lib.Dec.{lit<}
use lib.ListN.{length, take, drop, get_or, replicate, length-take, length-drop, length-replicate}
use lib.Seq.{take-suc, take_all, get_or-take, get_or-drop}
use Rattle.lists.specs.Count.{count_if, count_of}
use Rattle.lists.specs.Output.{put}
use Rattle.lists.specs.Part.{leaves, part}
use Rattle.lists.specs.Table.{tabulate}
use Rattle.lists.proofs.Output.{length_put, put_equal, put_over}
use Rattle.lists.proofs.Parts.{stays, part_outside, part_within}
use Rattle.lists.proofs.Table.{length_tabulate, tabulate_equal}
use Rattle.lists.proofs.Written.{table_front, put_more}
use Rattle.numbers.specs.Numbers.{saturating_add, smallest}
use Rattle.numbers.proofs.Numbers.{smallest_le}
use Rattle.flags.specs.Flags.{is_set, last_segment}
use Rattle.duplex_molecule.specs.Molecule.{is_error, call_at}
use Rattle.duplex_molecule.specs.declared.CtInput.{CtInput}
use Rattle.duplex_molecule.specs.declared.CtInput.TheVariants.{Neither}
use Rattle.duplex_call.specs.Annotated.{expected}
use Rattle.source_reads.specs.Arrays.{CombinedArrays, ShownArrays, asked}
use Rattle.source_reads.specs.Bases.{unmasked_at, bases_errors}
use Rattle.source_reads.specs.Reads.{none, read_leaves, reaches, read_error, read_errors, one_more, add_error, added_errors, expected_at, counted_length, counted_errors, expected_bases, shown_at, shown_errors}
use Rattle.source_reads.specs.declared.SourceRead.{SourceRead}

-- ---- the positions that are counted
-- Each has at least n places.
pub record Within (n : ℕ) (s : CombinedArrays) (errors : ℕ) : Type 0 where
  pub a : n ≤ length s.a.bases
  pub qa : n ≤ length s.a.quals
  pub b : n ≤ length s.b.bases
  pub qb : n ≤ length s.b.quals
  pub own : n ≤ errors

module _ (s : CombinedArrays) (errors : ℕ) where
  abbrev lengths : List ℕ
  lengths = s.positions ∷ length s.a.bases ∷ length s.a.quals ∷ length s.b.bases ∷ length s.b.quals ∷ errors ∷ 1024 ∷ []

  -- There is room for them.
  pub all_within : {n : ℕ} → n ≡ counted_length s errors → Within n s errors
  all_within {n} e = record {
    a = at 1 (lit< tt);
    qa = at 2 (lit< tt);
    b = at 3 (lit< tt);
    qb = at 4 (lit< tt);
    own = at 5 (lit< tt);
  }
    where
      at : (i : ℕ) → i < 7 → n ≤ get_or lengths i 0
      at i l = rw e (smallest_le lengths i l)

  -- They are no more than a strand may have.
  pub few_positions : counted_length s errors ≤ 1024
  few_positions = smallest_le lengths 6 (lit< tt)

-- ---- one read
module _ (bytes : List ℕ) (read : SourceRead) (expected : ℕ → Bool → ℕ) where
  abbrev o : ℕ
  o = read.offset

  abbrev k : ℕ
  k = read.length

  abbrev bases : List ℕ
  bases = part o k bytes

  abbrev shown : ℕ → ℕ
  shown i = expected i (is_set read.flags last_segment)

  -- At a position of its part the read has that base.
  within : (i : ℕ) → i < length bases → is_error (get_or bases i 0) (shown i) ≡ read_error bytes (expected i) i read
  unfolding read_error reaches read_leaves
  within i h = go (leaves o k (length bytes)) refl
    where
      go : (outside : Bool) → leaves o k (length bytes) ≡ outside → is_error (get_or bases i 0) (shown i) ≡ read_error bytes (expected i) i read
      go true e = absurd (omega (arith, ap length (part_outside o k bytes e)))
      go false e =
          let here : take (o + k - o) (drop o bytes) ≡ bases = part_within o k bytes e in
          let short : i < k = omega (arith, ap length here, length-take (o + k - o) (drop o bytes)) in
          let same : get_or bases i 0 ≡ get_or bytes (o + i) 0 = ap (λ (l : List ℕ). get_or l i 0) (sym here) ∙ get_or-take (o + k - o) (drop o bytes) i 0 (omega arith) ∙ get_or-drop o bytes i 0 in
          rw (same, e, lt-ltb i k short)

  -- Past it the read has none.
  beyond : (i : ℕ) → length bases ≤ i → read_error bytes (expected i) i read ≡ false
  unfolding read_error reaches read_leaves
  beyond i h = go (leaves o k (length bytes)) refl
    where
      go : (outside : Bool) → leaves o k (length bytes) ≡ outside → read_error bytes (expected i) i read ≡ false
      go true e = rw e
      go false e =
          let here : take (o + k - o) (drop o bytes) ≡ bases = part_within o k bytes e in
          let long : k ≤ i = omega (arith, ap length here, length-take (o + k - o) (drop o bytes), length-drop o bytes, stays o k (length bytes) e) in
          rw (e, le-ltb i k long)

  pub one_read : (n : ℕ) (errors : List ℕ) {m : ℕ} → m ≡ min n (length bases) → n ≤ length errors → bases_errors m bases shown errors ≡ added_errors n bytes expected (read ∷ []) errors
  unfolding bases_errors added_errors add_error one_more
  one_read n errors {m} e room =
      put_equal errors (tabulate_equal m (λ i. one_more (is_error (get_or bases i 0) (shown i)) (get_or errors i 0)) after (λ i l. ap (λ (b : Bool). one_more b (get_or errors i 0)) (within i (omega arith))))
      ∙ put_more m n after errors 0 (omega arith) room unchanged
    where
      after : ℕ → ℕ
      after i = one_more (read_error bytes (expected i) i read) (get_or errors i 0)

      unchanged : (i : ℕ) → m ≤ i → i < n → after i ≡ get_or errors i 0
      unchanged i l h = rw (beyond i (omega arith))

-- ---- by what is shown
-- What a read should show, by a test of its flag.
pub either : {r b : Bool} (x y : List ℕ) {t : Bool} → r ≡ b → r ≡ t → cond t x y ≡ cond b x y
either x y e f = ap (λ (t : Bool). cond t x y) (sym f ∙ e)

module _ (s : ShownArrays) (errors : List ℕ) where
  abbrev pub shown_length : ℕ
  shown_length = smallest (s.positions ∷ length s.first ∷ length s.last ∷ length errors ∷ [])

  pub room_for : shown_length ≤ length errors
  room_for = smallest_le (s.positions ∷ length s.first ∷ length s.last ∷ length errors ∷ []) 3 (lit< tt)

  -- One read: `own` are the bases of its part, and `shown` is what it should show. The lengths are gone through in turn.
  pub one_shown : (read : SourceRead) (bytes : List ℕ) {own shown us : List ℕ} {x y n m : ℕ}
      → own ≡ part read.offset read.length bytes
      → x ≡ min s.positions (length s.first)
      → y ≡ min x (length s.last)
      → n ≡ min y (length errors)
      → m ≡ min n (length own)
      → shown ≡ cond (is_set read.flags last_segment) s.last s.first
      → us ≡ bases_errors m own (λ i. get_or shown i 0) errors
      → us ≡ shown_errors (read ∷ []) bytes s errors
  unfolding shown_errors
  one_shown read bytes {own} {shown} {us} {x} {y} {n} {m} p e₁ e₂ e₃ f c h =
      let itself : s.positions ≤ s.positions = omega arith in
      let all : n ≡ shown_length = rw (min-eq_left itself, e₃, e₂, e₁) in
      h
      ∙ ap (λ (l : List ℕ). bases_errors m own (λ i. get_or l i 0) errors) c
      ∙ ap (λ (l : List ℕ). bases_errors m l (λ i. shown_at s i (is_set read.flags last_segment)) errors) p
      ∙ one_read bytes read (shown_at s) shown_length errors (f ∙ rw (all, p)) room_for

  -- Where nothing is shown, nothing is added.
  pub none_shown : (reads : List SourceRead) (bytes : List ℕ) → s.positions ≡ 0 → errors ≡ shown_errors reads bytes s errors
  unfolding shown_errors added_errors put tabulate
  none_shown reads bytes e =
      let first = smallest_le (s.positions ∷ length s.first ∷ length s.last ∷ length errors ∷ []) 0 (lit< tt) in
      let none : shown_length ≡ 0 = omega (arith, e, first) in
      sym (ap (λ (m : ℕ). added_errors m bytes (shown_at s) reads errors) none)

-- ---- some reads, one after the other
module _ (n : ℕ) (bytes : List ℕ) (expected : ℕ → Bool → ℕ) where
  added_then : (xs ys : List SourceRead) (errors : List ℕ) → n ≤ length errors → added_errors n bytes expected ys (added_errors n bytes expected xs errors) ≡ added_errors n bytes expected (xs ++ ys) errors
  unfolding added_errors
  added_then xs ys errors room =
      put_over (tabulate n later) (tabulate n first) errors (omega (arith, length_tabulate n later, length_tabulate n first))
      ∙ put_equal errors (tabulate_equal n later both (λ i l. ap (λ (z : ℕ). foldl (add i) z ys) (before i l) ∙ sym (foldl-append (add i) (get_or errors i 0) xs ys)))
    where
      add : ℕ → ℕ → SourceRead → ℕ
      add i = add_error bytes (expected i) i

      first : ℕ → ℕ
      first i = foldl (add i) (get_or errors i 0) xs

      later : ℕ → ℕ
      later i = foldl (add i) (get_or (put (tabulate n first) errors) i 0) ys

      both : ℕ → ℕ
      both i = foldl (add i) (get_or errors i 0) (xs ++ ys)

      before : (i : ℕ) → i < n → get_or (put (tabulate n first) errors) i 0 ≡ first i
      before i l = table_front 0 n first errors i l

  added_same : (reads : List SourceRead) (errors : List ℕ) → n ≤ length errors → length (added_errors n bytes expected reads errors) ≡ length errors
  unfolding added_errors
  added_same reads errors room = length_put _ errors (omega (arith, length_tabulate n (λ i. foldl (add_error bytes (expected i) i) (get_or errors i 0) reads)))

  added_none : (errors : List ℕ) → n ≤ length errors → errors ≡ added_errors n bytes expected [] errors
  unfolding added_errors put tabulate
  added_none errors room = put_more 0 n (λ i. get_or errors i 0) errors 0 (omega arith) room (λ i l h. refl)

-- ---- a loop over the reads
module _ (reads : List SourceRead) (bytes : List ℕ) (s : ShownArrays) (errors : List ℕ) where
  abbrev n : ℕ
  n = shown_length s errors

  abbrev counted : List SourceRead → List ℕ
  counted xs = shown_errors xs bytes s errors

  room : n ≤ length errors
  room = room_for s errors

  pub same : length (counted reads) ≡ length errors
  unfolding shown_errors
  same = added_same n bytes (shown_at s) reads errors room

  pub none_yet : errors ≡ counted (take 0 reads)
  unfolding shown_errors
  none_yet = added_none n bytes (shown_at s) errors room

  pub next : {i : ℕ} {zs us : List ℕ} → i < length reads → zs ≡ counted (take i reads) → us ≡ shown_errors (get_or reads i none ∷ []) bytes s zs → us ≡ counted (take (i + 1) reads)
  unfolding shown_errors
  next {i} {zs} {us} h e f =
      let expected = shown_at s in
      let read = get_or reads i none in
      let as_long : length zs ≡ length errors = ap length e ∙ added_same n bytes expected (take i reads) errors room in
      let as_many : shown_length s zs ≡ n = rw as_long in
      f
      ∙ ap (λ (m : ℕ). added_errors m bytes expected (read ∷ []) zs) as_many
      ∙ ap (λ (l : List ℕ). added_errors n bytes expected (read ∷ []) l) e
      ∙ added_then n bytes expected (take i reads) (read ∷ []) errors room
      ∙ rw (add-one, take-suc reads i none h)

  -- Of one read more, before them.
  pub after_one : (read : SourceRead) → counted (read ∷ reads) ≡ shown_errors reads bytes s (counted (read ∷ []))
  unfolding shown_errors
  after_one read =
      let expected = shown_at s in
      let one = added_errors n bytes expected (read ∷ []) errors in
      let as_long : length one ≡ length errors = added_same n bytes expected (read ∷ []) errors room in
      let as_many : shown_length s one ≡ n = rw as_long in
      sym (added_then n bytes expected (read ∷ []) reads errors room)
      ∙ ap (λ (m : ℕ). added_errors m bytes expected reads one) (sym as_many)

  pub all : {i : ℕ} {zs : List ℕ} → length reads ≤ i → zs ≡ counted (take i reads) → zs ≡ counted reads
  all {i} h e = rw (take_all i reads h) at e

-- ---- what is shown is what is expected
same_fold : (bytes : List ℕ) (i : ℕ) {e f : Bool → ℕ} → ((b : Bool) → e b ≡ f b) → (reads : List SourceRead) (start : ℕ) → foldl (add_error bytes e i) start reads ≡ foldl (add_error bytes f i) start reads
unfolding add_error read_error
same_fold bytes i h [] start = refl
same_fold bytes i {e} {f} h (read ∷ reads) start =
    ap (λ (x : ℕ). foldl (add_error bytes e i) (one_more (reaches bytes i read && is_error (get_or bytes (read.offset + i) 0) x) start) reads) (h (is_set read.flags last_segment))
    ∙ same_fold bytes i h reads (one_more (reaches bytes i read && is_error (get_or bytes (read.offset + i) 0) (f (is_set read.flags last_segment))) start)

sized : (m : ℕ) (f : ℕ → ℕ) (out : List ℕ) {k : ℕ} → length out ≡ k → m ≤ k → length (put (tabulate m f) out) ≡ k
sized m f out e h = length_put (tabulate m f) out (omega (arith, length_tabulate m f)) ∙ e

pub expected_length : (s : CombinedArrays) (last : Bool) → length (expected_bases s last) ≡ 1024
unfolding expected_bases
expected_length s last = sized _ (λ i. expected_at s.ct s.a s.b i last) (replicate 1024 0) (length-replicate {A = ℕ} 1024 0) (few_positions s 1024)

-- Written in these ways it is what is expected.
module _ (s : CombinedArrays) (last : Bool) {n : ℕ} (e : n ≡ counted_length s 1024) where
  pub expected_called : {us : List ℕ} → us ≡ put (tabulate n (λ i. expected_at s.ct s.a s.b i last)) (replicate 1024 0) → us ≡ expected_bases s last
  unfolding expected_bases
  expected_called h = h ∙ ap (λ (m : ℕ). put (tabulate m (λ i. expected_at s.ct s.a s.b i last)) (replicate 1024 0)) e

  -- Where neither strand is the C-to-T one, there is no call.
  pub expected_uncalled : s.ct ≡ Neither → {us : List ℕ} → us ≡ put (tabulate n (unmasked_at s.a s.b)) (replicate 1024 0) → us ≡ expected_bases s last
  unfolding expected call_at
  expected_uncalled c h = expected_called (h ∙ ap (λ (t : CtInput). put (tabulate n (λ i. expected_at t s.a s.b i last)) (replicate 1024 0)) (sym c))

module _ (reads : List SourceRead) (bytes : List ℕ) (s : CombinedArrays) (errors : List ℕ) where
  -- Where no position is counted, nothing changes.
  pub none_counted : counted_length s (length errors) ≡ 0 → errors ≡ counted_errors reads bytes s errors
  unfolding counted_errors added_errors put tabulate
  none_counted e = sym (ap (λ (m : ℕ). added_errors m bytes (expected_at s.ct s.a s.b) reads errors) e)

  module _ {n : ℕ} (e : n ≡ counted_length s (length errors)) where
    few : n ≤ 1024
    few = rw e (few_positions s (length errors))

    -- As many are expected as are counted, and at those is what a read should show.
    as_many : counted_length (asked n s) 1024 ≡ n
    as_many =
        let w = all_within s (length errors) e in
        let itself : n ≤ n = omega arith in
        rw (min-eq_left itself, min-eq_left w.a, min-eq_left w.qa, min-eq_left w.b, min-eq_left w.qb, min-eq_left few, min-eq_left few)

    at : (i : ℕ) → i < n → (last : Bool) → get_or (expected_bases (asked n s) last) i 0 ≡ expected_at s.ct s.a s.b i last
    unfolding expected_bases
    at i l last =
        let should : ℕ → ℕ = λ j. expected_at s.ct s.a s.b j last in
        ap (λ (m : ℕ). get_or (put (tabulate m should) (replicate 1024 0)) i 0) as_many ∙ table_front 0 n should (replicate 1024 0) i l

    module _ (first last : List ℕ) where
      abbrev these : ShownArrays
      these = record { positions = n; first = first; last = last }

      pub as_expected : first ≡ expected_bases (asked n s) false → last ≡ expected_bases (asked n s) true → shown_errors reads bytes these errors ≡ counted_errors reads bytes s errors
      unfolding shown_errors counted_errors added_errors
      as_expected f l =
          let w = all_within s (length errors) e in
          let itself : n ≤ n = omega arith in
          let long_first : length first ≡ 1024 = ap length f ∙ expected_length (asked n s) false in
          let long_last : length last ≡ 1024 = ap length l ∙ expected_length (asked n s) true in
          let all_shown : shown_length these errors ≡ n = rw (long_first, long_last, min-eq_left itself, min-eq_left few, min-eq_left few, min-eq_left w.own) in
          ap (λ (m : ℕ). added_errors m bytes (shown_at these) reads errors) all_shown
          ∙ put_equal errors (tabulate_equal n (λ i. foldl (add_error bytes (shown_at these i) i) (get_or errors i 0) reads) (λ i. foldl (add_error bytes (expected_at s.ct s.a s.b i) i) (get_or errors i 0) reads) (λ i h. same_fold bytes i (agree i h) reads (get_or errors i 0)))
          ∙ ap (λ (m : ℕ). added_errors m bytes (expected_at s.ct s.a s.b) reads errors) e
        where
          agree : (i : ℕ) → i < n → (b : Bool) → shown_at these i b ≡ expected_at s.ct s.a s.b i b
          agree i h true = ap (λ (xs : List ℕ). get_or xs i 0) l ∙ at i h true
          agree i h false = ap (λ (xs : List ℕ). get_or xs i 0) f ∙ at i h false

-- ---- how many reads are errors
one_of : (b : Bool) (start : ℕ) → start + 1 ≤ 65535 → one_more b start ≡ cond b (start + 1) start
unfolding one_more saturating_add
one_of true start h = omega arith
one_of false start h = refl

at_most : (b : Bool) (start : ℕ) → cond b (start + 1) start ≤ start + 1
at_most true start = omega arith
at_most false start = omega arith

module _ (bytes : List ℕ) (expected : Bool → ℕ) (i : ℕ) where
  counted_from : (reads : List SourceRead) (start : ℕ) → start + length reads ≤ 65535 → foldl (add_error bytes expected i) start reads ≡ foldl (count_if (read_error bytes expected i)) start reads
  unfolding add_error count_if
  counted_from [] start h = refl
  counted_from (read ∷ reads) start h =
      let error = read_error bytes expected i read in
      ap (λ (z : ℕ). foldl (add_error bytes expected i) z reads) (one_of error start (omega arith))
      ∙ counted_from reads (cond error (start + 1) start) (omega (arith, at_most error start))

  pub as_counted : (reads : List SourceRead) → length reads ≤ 65535 → foldl (add_error bytes expected i) 0 reads ≡ read_errors bytes expected i reads
  unfolding read_errors count_of
  as_counted reads h = counted_from reads 0 (omega arith)

  few_from : (reads : List SourceRead) (start : ℕ) → foldl (count_if (read_error bytes expected i)) start reads ≤ start + length reads
  unfolding count_if
  few_from [] start = omega arith
  few_from (read ∷ reads) start =
      let error = read_error bytes expected i read in
      omega (arith, few_from reads (cond error (start + 1) start), at_most error start)

  pub few_errors : (reads : List SourceRead) → read_errors bytes expected i reads ≤ length reads
  unfolding read_errors count_of
  few_errors reads = omega (arith, few_from reads 0)
