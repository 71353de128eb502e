-- Small encoded molecules, and bytes that are none, document 01's tray: a row for each cause of 13 that a few bytes can show and for
-- each edge of the format. All compute.
use Rattle.std.specs.Prelude.{◌≡◌, ℕ, Option, Some, None, Result, Ok, Err, List, [], ◌∷◌, ◌++◌}
use Rattle.refusals.specs.declared.Refusal.{Refusal}
use Rattle.refusals.specs.declared.Refusal.TheVariants.{Broken}
use Rattle.molecule_encoding.specs.Format.{StrandParts, MoleculeParts, decoded}

abbrev pub of : Option (List ℕ) → Option StrandParts → Option StrandParts → Option (List ℕ) → Result MoleculeParts Refusal
of thresholds a b reads = Ok (record { thresholds = thresholds; a = a; b = b; reads = reads })

abbrev pub no : Result MoleculeParts Refusal
no = Err Broken

-- Fields with these tags, each empty.
abbrev pub empty : List ℕ → List ℕ
empty [] = []
empty (tag ∷ tags) = tag ∷ 0 ∷ 0 ∷ empty tags

-- A strand of no positions.
abbrev pub empty_strand : Option (List ℕ) → Option StrandParts
empty_strand annotation = Some (record { bases = []; quals = []; depths = []; errors = []; annotation = annotation })

pub record Small : Type 0 where
  -- Molecules.
  pub no_bytes : decoded [] ≡ of None None None None
  pub no_thresholds : decoded (0x01 ∷ 0 ∷ 0 ∷ []) ≡ of (Some []) None None None
  pub one_threshold : decoded (0x01 ∷ 4 ∷ 0 ∷ 1 ∷ 0 ∷ 0 ∷ 0 ∷ []) ≡ of (Some (1 ∷ 0 ∷ 0 ∷ 0 ∷ [])) None None None
  pub a_of_none : decoded (empty (0x10 ∷ 0x11 ∷ 0x12 ∷ 0x13 ∷ [])) ≡ of None (empty_strand None) None None
  pub b_of_none : decoded (empty (0x20 ∷ 0x21 ∷ 0x22 ∷ 0x23 ∷ [])) ≡ of None None (empty_strand None) None
  pub both_of_none : decoded (empty (0x10 ∷ 0x11 ∷ 0x12 ∷ 0x13 ∷ 0x20 ∷ 0x21 ∷ 0x22 ∷ 0x23 ∷ 0x2f ∷ [])) ≡ of None (empty_strand None) (empty_strand None) (Some [])
  pub annotation_of_none : decoded (empty (0x10 ∷ 0x11 ∷ 0x12 ∷ 0x13 ∷ []) ++ 0x14 ∷ 1 ∷ 0 ∷ 1 ∷ []) ≡ of None (empty_strand (Some (1 ∷ []))) None None
  pub marked : decoded (empty (0x20 ∷ 0x21 ∷ 0x22 ∷ 0x23 ∷ []) ++ 0x24 ∷ 10 ∷ 0 ∷ 0 ∷ 1 ∷ 2 ∷ 0 ∷ 0 ∷ 0 ∷ 2 ∷ 0 ∷ 0 ∷ 0 ∷ []) ≡ of None None (empty_strand (Some (0 ∷ 1 ∷ 2 ∷ 0 ∷ 0 ∷ 0 ∷ 2 ∷ 0 ∷ 0 ∷ 0 ∷ []))) None
  pub empty_list : decoded (empty (0x2f ∷ [])) ≡ of None None None (Some [])
  pub two_reads : decoded (0x2f ∷ 0 ∷ 0 ∷ 0x30 ∷ 2 ∷ 0 ∷ 77 ∷ 0 ∷ 0x30 ∷ 3 ∷ 0 ∷ 0 ∷ 0 ∷ 65 ∷ []) ≡ of None None None (Some (0x30 ∷ 2 ∷ 0 ∷ 77 ∷ 0 ∷ 0x30 ∷ 3 ∷ 0 ∷ 0 ∷ 0 ∷ 65 ∷ []))
  -- A cut field.
  pub cut_tag : decoded (0x2f ∷ []) ≡ no
  pub cut_length : decoded (0x2f ∷ 0 ∷ []) ≡ no
  pub cut_value : decoded (0x01 ∷ 4 ∷ 0 ∷ 1 ∷ 0 ∷ 0 ∷ []) ≡ no
  pub cut_read : decoded (0x2f ∷ 0 ∷ 0 ∷ 0x30 ∷ 2 ∷ 0 ∷ 77 ∷ []) ≡ no
  -- Another tag.
  pub tag_00 : decoded (empty (0x00 ∷ [])) ≡ no
  pub tag_02 : decoded (empty (0x02 ∷ [])) ≡ no
  pub tag_0f : decoded (empty (0x0f ∷ [])) ≡ no
  pub tag_15 : decoded (empty (0x15 ∷ [])) ≡ no
  pub tag_1f : decoded (empty (0x1f ∷ [])) ≡ no
  pub tag_25 : decoded (empty (0x25 ∷ [])) ≡ no
  pub tag_2e : decoded (empty (0x2e ∷ [])) ≡ no
  pub tag_31 : decoded (0x2f ∷ 0 ∷ 0 ∷ 0x31 ∷ 2 ∷ 0 ∷ 77 ∷ 0 ∷ []) ≡ no
  -- Another order, or a tag twice.
  pub out_of_order : decoded (empty (0x2f ∷ 0x01 ∷ [])) ≡ no
  pub b_before_a : decoded (empty (0x20 ∷ 0x21 ∷ 0x22 ∷ 0x23 ∷ 0x10 ∷ 0x11 ∷ 0x12 ∷ 0x13 ∷ [])) ≡ no
  pub read_before_marker : decoded (0x30 ∷ 2 ∷ 0 ∷ 77 ∷ 0 ∷ 0x2f ∷ 0 ∷ 0 ∷ []) ≡ no
  pub repeated : decoded (empty (0x01 ∷ 0x01 ∷ [])) ≡ no
  pub marker_repeated : decoded (empty (0x2f ∷ 0x2f ∷ [])) ≡ no
  -- A length that does not fit the widths.
  pub odd_thresholds : decoded (0x01 ∷ 2 ∷ 0 ∷ 1 ∷ 0 ∷ []) ≡ no
  pub odd_depths : decoded (empty (0x10 ∷ 0x11 ∷ []) ++ 0x12 ∷ 1 ∷ 0 ∷ 1 ∷ 0x13 ∷ 0 ∷ 0 ∷ []) ≡ no
  pub odd_errors : decoded (empty (0x20 ∷ 0x21 ∷ 0x22 ∷ []) ++ 0x23 ∷ 1 ∷ 0 ∷ 1 ∷ []) ≡ no
  pub annotation_of_nothing : decoded (empty (0x10 ∷ 0x11 ∷ 0x12 ∷ 0x13 ∷ 0x14 ∷ [])) ≡ no
  pub annotation_of_nine : decoded (empty (0x20 ∷ 0x21 ∷ 0x22 ∷ 0x23 ∷ []) ++ 0x24 ∷ 9 ∷ 0 ∷ 0 ∷ 0 ∷ 0 ∷ 0 ∷ 0 ∷ 0 ∷ 0 ∷ 0 ∷ 0 ∷ []) ≡ no
  pub marker_with_value : decoded (0x2f ∷ 1 ∷ 0 ∷ 0 ∷ []) ≡ no
  pub read_of_one_byte : decoded (0x2f ∷ 0 ∷ 0 ∷ 0x30 ∷ 1 ∷ 0 ∷ 77 ∷ []) ≡ no
  -- A pattern or a mark above 1.
  pub pattern_2 : decoded (empty (0x10 ∷ 0x11 ∷ 0x12 ∷ 0x13 ∷ []) ++ 0x14 ∷ 1 ∷ 0 ∷ 2 ∷ []) ≡ no
  pub pattern_2_of_b : decoded (empty (0x20 ∷ 0x21 ∷ 0x22 ∷ 0x23 ∷ []) ++ 0x24 ∷ 1 ∷ 0 ∷ 2 ∷ []) ≡ no
  pub mark_2 : decoded (empty (0x10 ∷ 0x11 ∷ 0x12 ∷ 0x13 ∷ []) ++ 0x14 ∷ 10 ∷ 0 ∷ 1 ∷ 2 ∷ 0 ∷ 0 ∷ 0 ∷ 0 ∷ 0 ∷ 0 ∷ 0 ∷ 0 ∷ []) ≡ no
  pub mark_2_of_b : decoded (empty (0x20 ∷ 0x21 ∷ 0x22 ∷ 0x23 ∷ []) ++ 0x24 ∷ 10 ∷ 0 ∷ 1 ∷ 2 ∷ 0 ∷ 0 ∷ 0 ∷ 0 ∷ 0 ∷ 0 ∷ 0 ∷ 0 ∷ []) ≡ no
  -- A strand with some of its first four fields, an annotation alone, a read without a list.
  pub a_without_bases : decoded (empty (0x11 ∷ 0x12 ∷ 0x13 ∷ [])) ≡ no
  pub a_without_quals : decoded (empty (0x10 ∷ 0x12 ∷ 0x13 ∷ [])) ≡ no
  pub a_without_depths : decoded (empty (0x10 ∷ 0x11 ∷ 0x13 ∷ [])) ≡ no
  pub a_without_errors : decoded (empty (0x10 ∷ 0x11 ∷ 0x12 ∷ [])) ≡ no
  pub b_without_bases : decoded (empty (0x21 ∷ 0x22 ∷ 0x23 ∷ [])) ≡ no
  pub b_without_quals : decoded (empty (0x20 ∷ 0x22 ∷ 0x23 ∷ [])) ≡ no
  pub b_without_depths : decoded (empty (0x20 ∷ 0x21 ∷ 0x23 ∷ [])) ≡ no
  pub b_without_errors : decoded (empty (0x20 ∷ 0x21 ∷ 0x22 ∷ [])) ≡ no
  pub annotation_alone : decoded (0x14 ∷ 1 ∷ 0 ∷ 0 ∷ []) ≡ no
  pub annotation_of_b_alone : decoded (empty (0x10 ∷ 0x11 ∷ 0x12 ∷ 0x13 ∷ []) ++ 0x24 ∷ 1 ∷ 0 ∷ 0 ∷ []) ≡ no
  pub read_without_list : decoded (0x30 ∷ 2 ∷ 0 ∷ 77 ∷ 0 ∷ []) ≡ no
