-- The parts of an accepted molecule: the proof of specs/Claims.antt's `Holds`. Its reads are all that stands after the list's marker.
--     holds            of `Holds`
--     in_order, all_fit, a_whole, b_whole     what the format asks of fields, one by one
--     tagged_reads, tagged_short     fields 30 are reads, each of a length that two bytes can say
-- Assumes nothing.
use mathlib.Core.Path.{◌≡◌, refl, sym, ap, ◌∙◌}
use mathlib.Core.Logic.{◌⊎◌, inl, inr, ⊎_elim}
use mathlib.Core.Bool.{Bool, true, false, cond, not, ◌&&◌, ◌||◌, true≢false}
use mathlib.Core.List.{List, [], ◌∷◌}
use Prim.Native.Nat.{ℕ, ◌+◌, ◌≤◌}
use native.Mathlib.Omega.{arith}
use borrow.Author.Tests.{ltb-true, leb-true, eqb-true, eq-eqb, ne_eqb}
use lib.Dec.{eqb, ltb, leb}
use lib.ListN.{length, drop, length-append}
use lib.Seq.{drop-append_seam, drop-append-add}
use Rattle.lists.specs.Every.{every}
use Rattle.refusals.proofs.Condition.{both_hold, neither}
use Rattle.fields.specs.Encoding.{Field, encoded_field, encoded, Short}
use Rattle.molecule_fields.specs.Widths.{implies, strand_tag, known_tag, length_fits, bits_fit, well_formed, is_read}
use Rattle.molecule_encoding.specs.Format.{StrandParts, follows, ascend_after, ascending, all_or_none, has, valid, whole_strand, annotated_strand, announced, value_of, place_from, place_of, strand_by, strand_of, bytes_after, reads_after, molecule}
use Rattle.molecule_encoding.specs.Claims.{EncodesMolecule, part_of, with_tag, StrandIs, Holds}
use Rattle.molecule_encoding.proofs.Values.{past, place_there, value_there}
use Rattle.molecule_encoding.proofs.Claims.{accepts}
use Rattle.fields.specs.Encoding.{FieldAt}
use Rattle.std.proofs.Common.{Option, Some, None, unwrap_or}
use Rattle.std.specs.Prelude.{is_some}

either : (a b : Bool) → (a || b) ≡ true → (a ≡ true) ⊎ (b ≡ true)
either true b e = inl refl
either false b e = inr e

-- No other tag of the format is above the marker's.
read_tag : (tag : ℕ) → known_tag tag ≡ true → 0x30 ≤ tag → tag ≡ 0x30
unfolding known_tag
read_tag tag e above =
    ⊎_elim (λ t. omega (arith, eqb-true tag 0x01 t))
    (λ s. ⊎_elim (λ t. omega (arith, leb-true tag 0x14 (both_hold (leb 0x10 tag) (leb tag 0x14) t).1))
    (λ u. ⊎_elim (λ t. omega (arith, leb-true tag 0x24 (both_hold (leb 0x20 tag) (leb tag 0x24) t).1))
    (λ v. ⊎_elim (λ t. omega (arith, eqb-true tag 0x2f t)) (λ t. eqb-true tag 0x30 t) (either (eqb tag 0x2f) (eqb tag 0x30) v))
    (either (strand_tag 0x20 tag) (eqb tag 0x2f || eqb tag 0x30) u))
    (either (strand_tag 0x10 tag) (strand_tag 0x20 tag || (eqb tag 0x2f || eqb tag 0x30)) s))
    (either (eqb tag 0x01) (strand_tag 0x10 tag || (strand_tag 0x20 tag || (eqb tag 0x2f || eqb tag 0x30))) e)

-- What follows the marker, or a read, is at least a read's tag.
after_marker : (last tag : ℕ) → 0x2f ≤ last → follows last tag ≡ true → 0x30 ≤ tag
unfolding follows
after_marker last tag h e =
    ⊎_elim (λ t. omega (arith, ltb-true last tag t))
    (λ t. omega (arith, eqb-true tag 0x30 (both_hold (eqb last 0x30) (eqb tag 0x30) t).1))
    (either (ltb last tag) (eqb last 0x30 && eqb tag 0x30) e)

-- A well-formed field with the tag of a read is one.
is_read_lem : (f : Field) → f.tag ≡ 0x30 → length_fits f.tag (length f.value) ≡ true → is_read f ≡ true
unfolding length_fits
is_read_lem f t e =
    let same : eqb f.tag 0x30 ≡ true = eq-eqb _ _ t in
    rw same (rw t at e)

only_reads : (last : ℕ) (fs : List Field) → 0x2f ≤ last → ascend_after last fs ≡ true → every well_formed fs ≡ true → every is_read fs ≡ true
unfolding ascend_after every well_formed
only_reads last [] h a w = refl
only_reads last (f ∷ fs) h a w =
    let (fol, asc) = both_hold (follows last f.tag) (ascend_after f.tag fs) a in
    let (here, later) = both_hold (well_formed f) (every well_formed fs) w in
    let (known, fits) = both_hold (known_tag f.tag) (length_fits f.tag (length f.value) && bits_fit f) here in
    let above : 0x30 ≤ f.tag = after_marker last f.tag h fol in
    let one = is_read_lem f (read_tag f.tag known above) (both_hold (length_fits f.tag (length f.value)) (bits_fit f) fits).0 in
    rw (one, only_reads f.tag fs (omega arith) asc later)

-- Fields that are reads all have the tag 30.
all_tagged : (fs : List Field) → every is_read fs ≡ true → with_tag 0x30 fs ≡ fs
unfolding every with_tag
all_tagged [] e = refl
all_tagged (f ∷ fs) e =
    let (here, later) = both_hold (is_read f) (every is_read fs) e in
    let (tagged, sized) = both_hold (eqb f.tag 0x30) (leb 2 (length f.value)) here in
    rw (tagged, all_tagged fs later)

-- Where a field ends that is looked for from a place on.
abbrev end : Option FieldAt → ℕ
end None = 0
end (Some f) = f.offset + f.length

-- Where fields that fit have the marker, what is encoded after it is the fields 30, and no others.
pub record Following (at : ℕ) (fs : List Field) : Type 0 where
  pub skipped : ℕ
  pub ends : end (place_from at 0x2f fs) ≡ at + skipped
  pub within : skipped ≤ length (encoded fs)
  pub rest : drop skipped (encoded fs) ≡ encoded (with_tag 0x30 fs)

field_size : (f : Field) → length (encoded_field f) ≡ 3 + length f.value
unfolding encoded_field
field_size f = omega arith

following : (at last : ℕ) (fs : List Field) → ascend_after last fs ≡ true → every well_formed fs ≡ true → has 0x2f fs ≡ true → Following at fs
unfolding ascend_after every has place_from encoded with_tag
following at last [] a w h = absurd (true≢false (sym h))
following at last (f ∷ fs) a w h =
    let (fol, asc) = both_hold (follows last f.tag) (ascend_after f.tag fs) a in
    let (here, later) = both_hold (well_formed f) (every well_formed fs) w in
    go (eqb f.tag 0x2f) refl h asc later (following (at + 3 + length f.value) f.tag fs asc later)
  where
    go :
        (b : Bool)
        → eqb f.tag 0x2f ≡ b
        → (b || has 0x2f fs) ≡ true
        → ascend_after f.tag fs ≡ true
        → every well_formed fs ≡ true
        → (has 0x2f fs ≡ true → Following (at + 3 + length f.value) fs)
        → Following at (f ∷ fs)
    go true t h asc later then =
        let tag : f.tag ≡ 0x2f = eqb-true f.tag 0x2f t in
        let other : eqb f.tag 0x30 ≡ false = ne_eqb f.tag 0x30 (λ e. omega arith) in
        let reads : with_tag 0x30 fs ≡ fs = all_tagged fs (only_reads f.tag fs (omega arith) asc later) in
        record {
          skipped = length (encoded_field f);
          ends = rw t (omega (arith, field_size f));
          within = simp length-append (omega arith);
          rest = rw (other, reads) (drop-append_seam (encoded_field f) (encoded fs));
        }
    go false t h asc later then =
        let next = then h in
        let other : eqb f.tag 0x30 ≡ false = ne_eqb f.tag 0x30 (λ e.
        let gone : place_from 0 0x2f fs ≡ None = past f.tag 0x2f 0 fs (omega arith) asc in
        true≢false (sym h ∙ sym (place_there 0 0x2f fs) ∙ ap (λ (s : Option FieldAt). is_some s) gone)) in
        record {
          skipped = length (encoded_field f) + next.skipped;
          ends = rw t (omega (arith, field_size f, next.ends));
          within = simp length-append (omega (arith, next.within));
          rest = rw other (drop-append-add (encoded_field f) (encoded fs) next.skipped ∙ next.rest);
        }

unhad : (fs : List Field) → has 0x30 fs ≡ false → with_tag 0x30 fs ≡ []
unfolding has with_tag
unhad [] e = refl
unhad (f ∷ fs) e =
    let (here, later) = neither (eqb f.tag 0x30) (has 0x30 fs) e in
    rw (here, unhad fs later)

-- What the format asks of fields.
module _ (fs : List Field) (v : valid fs ≡ true) where
  abbrev strand_a_lem : Bool
  strand_a_lem = whole_strand 0x10 fs && annotated_strand 0x10 fs

  abbrev strand_b_lem : Bool
  strand_b_lem = whole_strand 0x20 fs && annotated_strand 0x20 fs

  pub in_order : ascending fs ≡ true
  unfolding valid
  in_order = (both_hold (ascending fs) (every well_formed fs && (strand_a_lem && (strand_b_lem && announced fs))) v).0

  others : (every well_formed fs && (strand_a_lem && (strand_b_lem && announced fs))) ≡ true
  unfolding valid
  others = (both_hold (ascending fs) (every well_formed fs && (strand_a_lem && (strand_b_lem && announced fs))) v).1

  pub all_fit : every well_formed fs ≡ true
  all_fit = (both_hold (every well_formed fs) (strand_a_lem && (strand_b_lem && announced fs)) others).0

  strands : (strand_a_lem && (strand_b_lem && announced fs)) ≡ true
  strands = (both_hold (every well_formed fs) (strand_a_lem && (strand_b_lem && announced fs)) others).1

  pub a_whole : strand_a_lem ≡ true
  a_whole = (both_hold strand_a_lem (strand_b_lem && announced fs) strands).0

  pub b_whole : strand_b_lem ≡ true
  b_whole = (both_hold strand_b_lem (announced fs) (both_hold strand_a_lem (strand_b_lem && announced fs) strands).1).0

  are_announced : announced fs ≡ true
  are_announced = (both_hold strand_b_lem (announced fs) (both_hold strand_a_lem (strand_b_lem && announced fs) strands).1).1

  pub no_reads : has 0x2f fs ≡ false → with_tag 0x30 fs ≡ []
  no_reads none = unhad fs (go (has 0x30 fs) (has 0x2f fs) none (unfold announced in are_announced))
    where
      go : (reads marker : Bool) → marker ≡ false → (not reads || marker) ≡ true → reads ≡ false
      go true marker e a = absurd (true≢false (sym a ∙ e))
      go false marker e a = refl

pub tagged_reads : (fs : List Field) → every well_formed fs ≡ true → every is_read (with_tag 0x30 fs) ≡ true
unfolding every with_tag well_formed
tagged_reads [] w = refl
tagged_reads (f ∷ fs) w =
    let (here, later) = both_hold (well_formed f) (every well_formed fs) w in
    go (eqb f.tag 0x30) refl here (tagged_reads fs later)
  where
    go : (b : Bool) → eqb f.tag 0x30 ≡ b → well_formed f ≡ true → every is_read (with_tag 0x30 fs) ≡ true → every is_read (cond b (f ∷ with_tag 0x30 fs) (with_tag 0x30 fs)) ≡ true
    go true t here rest =
        let (known, fits) = both_hold (known_tag f.tag) (length_fits f.tag (length f.value) && bits_fit f) here in
        let (sized, bits) = both_hold (length_fits f.tag (length f.value)) (bits_fit f) fits in
        rw (is_read_lem f (eqb-true f.tag 0x30 t) sized, rest)
    go false t here rest = rest

pub tagged_short : (fs : List Field) → Short fs → Short (with_tag 0x30 fs)
unfolding with_tag
tagged_short [] s = tt
tagged_short (f ∷ fs) s = go (eqb f.tag 0x30) s (tagged_short fs s.1)
  where
    go : (b : Bool) → Short (f ∷ fs) → Short (with_tag 0x30 fs) → Short (cond b (f ∷ with_tag 0x30 fs) (with_tag 0x30 fs))
    go true s rest = (s.0, rest)
    go false s rest = rest

-- All that stands after the end of a field that is there.
after_is : (bytes : List ℕ) (s : Option FieldAt) → is_some s ≡ true → unwrap_or (bytes_after bytes s) [] ≡ drop (end s) bytes
after_is bytes (Some f) p = refl
after_is bytes None p = absurd (true≢false (sym p))

none_after : (bytes : List ℕ) (s : Option FieldAt) → is_some s ≡ false → unwrap_or (bytes_after bytes s) [] ≡ []
none_after bytes (Some f) p = absurd (true≢false p)
none_after bytes None p = refl

after_there : (bytes : List ℕ) (s : Option FieldAt) → is_some (bytes_after bytes s) ≡ is_some s
after_there bytes (Some f) = refl
after_there bytes None = refl

module _ (bytes : List ℕ) (fs : List Field) (x : EncodesMolecule bytes fs) where
  reads_are : unwrap_or (reads_after bytes fs) [] ≡ encoded (with_tag 0x30 fs)
  reads_are = go (has 0x2f fs) refl
    where
      go : (b : Bool) → has 0x2f fs ≡ b → unwrap_or (reads_after bytes fs) [] ≡ encoded (with_tag 0x30 fs)
      go true h =
          let next = following 0 0 fs (in_order fs x.is_valid) (all_fit fs x.is_valid) h in
          let ends : end (place_of 0x2f fs) ≡ next.skipped = omega (arith, next.ends) in
          after_is bytes (place_of 0x2f fs) (place_there 0 0x2f fs ∙ h) ∙ rw (ends, x.encodes.bytes_are) next.rest
      go false h =
          none_after bytes (place_of 0x2f fs) (place_there 0 0x2f fs ∙ h) ∙ unfold encoded in rw (no_reads fs x.is_valid h)

-- A strand's parts are its fields, where it has all of them or none.
module _ (fs : List Field) (first : ℕ) where
  abbrev Is : Option (List ℕ) → Option (List ℕ) → Option (List ℕ) → Option (List ℕ) → Option (List ℕ) → Type 0
  Is b q d e a =
      (part_of (λ (x : StrandParts). Some x.bases) (strand_by b q d e a) ≡ b)
      × (part_of (λ (x : StrandParts). Some x.quals) (strand_by b q d e a) ≡ q)
      × (part_of (λ (x : StrandParts). Some x.depths) (strand_by b q d e a) ≡ d)
      × (part_of (λ (x : StrandParts). Some x.errors) (strand_by b q d e a) ≡ e)
      × (part_of (λ (x : StrandParts). x.annotation) (strand_by b q d e a) ≡ a)

  fields_are : (b q d e a : Option (List ℕ)) → all_or_none (is_some b) (is_some q) (is_some d) (is_some e) ≡ true → implies (is_some a) (is_some b) ≡ true → Is b q d e a
  fields_are (Some b) (Some q) (Some d) (Some e) a h i = (refl, refl, refl, refl, refl)
  fields_are (Some b) (Some q) (Some d) None a h i = absurd (true≢false (sym h))
  fields_are (Some b) (Some q) None e a h i = absurd (true≢false (sym h))
  fields_are (Some b) None d e a h i = absurd (true≢false (sym h))
  fields_are None (Some q) d e a h i = absurd (true≢false (sym h))
  fields_are None None (Some d) e a h i = absurd (true≢false (sym h))
  fields_are None None None (Some e) a h i = absurd (true≢false (sym h))
  fields_are None None None None (Some a) h i = absurd (true≢false (sym i))
  fields_are None None None None None h i = (refl, refl, refl, refl, refl)

  strand_holds : (whole_strand first fs && annotated_strand first fs) ≡ true → StrandIs fs first (strand_of first fs)
  unfolding strand_of whole_strand annotated_strand
  strand_holds v =
      let (w, a) = both_hold (whole_strand first fs) (annotated_strand first fs) v in
      let p = fields_are (value_of first fs) (value_of (first + 1) fs) (value_of (first + 2) fs) (value_of (first + 3) fs) (value_of (first + 4) fs) (simp value_there w) (simp value_there a) in
      record { bases = p.0; quals = p.1; depths = p.2; errors = p.3; annotation = p.4 }

pub holds : Holds
unfolding molecule
holds bytes fs m x e =
    let is : m ≡ molecule bytes fs = cc (accepts bytes fs x) in
    rw is
    (record {
      thresholds = refl;
      a = strand_holds fs 0x10 (a_whole fs x.is_valid);
      b = strand_holds fs 0x20 (b_whole fs x.is_valid);
      listed = after_there bytes (place_of 0x2f fs) ∙ place_there 0 0x2f fs;
      reads = reads_are bytes fs x;
    })
