-- What is returned for some bytes, by what they encode. Assumes nothing.
use mathlib.Core.Path.{◌≡◌, subst}
use mathlib.Core.List.{List}
use Prim.Native.Nat.{ℕ, ◌≤◌}
use native.Mathlib.Omega.{arith}
use lib.ListN.{length, replicate, length-replicate}
use Rattle.std.proofs.Common.{Result, Ok, Err}
use Rattle.refusals.specs.declared.Refusal.{Refusal}
use Rattle.refusals.specs.Refusal.{number_of}
use Rattle.molecule_encoding.specs.Format.{MoleculeParts, decoded}
use Rattle.molecule_encoding.specs.Parts.{molecule_in}
use Rattle.molecule_encoding.specs.declared.Molecule.{Molecule}
use Rattle.line_format.specs.Line.{refused_text}
use Rattle.line_output.proofs.Text.{same_size, whole}
use Rattle.line_record.specs.Line.{Holds}
use Rattle.line_record.specs.declared.Line.{Line}
use Rattle.line_molecule.specs.Line.{molecule_text, decoded_text, text_of, TextIn, parts_of}

text_in : (text : List ℕ) (r : Line) → Holds text r → TextIn text r
text_in text r h =
    let room : length text ≤ length {A = ℕ} (replicate 12288 0) = omega (arith, h.fits, length-replicate {A = ℕ} 12288 0) in
    let all = whole h.written room in
    record { size = all.0; bytes = all.1; most = omega (arith, all.0, h.fits); within = omega (arith, all.0, room, same_size h.written) }

pub by_decoded : (bytes : List ℕ) {d : Result MoleculeParts Refusal} {r : Line} → d ≡ decoded bytes → Holds (decoded_text d) r → TextIn (text_of bytes) r
unfolding text_of
by_decoded bytes {d} {r} e h = text_in (decoded_text (decoded bytes)) r (subst (λ (x : Result MoleculeParts Refusal). Holds (decoded_text x) r) e h)

-- The text by what the reader answered: the refusal's, or the molecule's.
module _ (d : Result Molecule Refusal) {r : Line} where
  pub by_refusal : {refusal : Refusal} → d ≡ Err refusal → Holds (refused_text (number_of refusal)) r → Holds (decoded_text (molecule_in d)) r
  by_refusal e h = rw e h

  pub by_molecule : {m : Molecule} → d ≡ Ok m → Holds (molecule_text (parts_of m)) r → Holds (decoded_text (molecule_in d)) r
  by_molecule e h = rw e h
