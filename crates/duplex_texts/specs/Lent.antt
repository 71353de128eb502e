-- The outputs lent for a duplex record's texts.
use Rattle.std.specs.Prelude.{◌≡◌}
use Rattle.duplex_texts.specs.Texts.{TextArrays, text_arrays}
use Rattle.duplex_texts.specs.declared.TextOutputs.{TextOutputs}

-- What stands in them.
abbrev pub texts_out : TextOutputs → TextArrays
texts_out out = text_arrays out.seq.now out.a_mm.now out.b_mm.now out.mm.now out.ml.now

-- A call that was lent them left each slice where it was, so that who lent them knows what it holds.
pub record SameTexts (before now : TextOutputs) : Type 0 where
  pub seq : now.seq.ghost_name ≡ before.seq.ghost_name
  pub a_mm : now.a_mm.ghost_name ≡ before.a_mm.ghost_name
  pub b_mm : now.b_mm.ghost_name ≡ before.b_mm.ghost_name
  pub mm : now.mm.ghost_name ≡ before.mm.ghost_name
  pub ml : now.ml.ghost_name ≡ before.ml.ghost_name
