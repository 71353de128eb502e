-- The read that begins at a place of a run, by what the bytes from there on begin with.
--     end_next, none_next, cut_next, next_is     what `next_read` is
--     parted      a field's header, its value and the bytes after it are all from its place on
-- Assumes nothing.
use mathlib.Core.Path.{◌≡◌, refl, sym, ap, ◌∙◌}
use mathlib.Core.Bool.{cond}
use mathlib.Core.List.{List, []}
use Prim.Native.Nat.{ℕ, ◌+◌, ◌-◌, ◌≤◌}
use native.Mathlib.Omega.{arith}
use lib.ListN.{length, drop, length-drop, drop_of_length-le}
use Rattle.std.proofs.Common.{Some, None, Ok, Err}
use Rattle.fields.specs.Encoding.{Field, Front, nothing, cut, whole, front, located, next_field}
use Rattle.fields.proofs.Walk.{stands}
use Rattle.refusals.specs.declared.Refusal.TheVariants.{Broken}
use Rattle.molecule_fields.specs.Widths.{is_read}
use Rattle.molecule_reads.specs.Run.{read_of, read_at, next_read}

module _ (run : List ℕ) (at : ℕ) where
  pub none_next : front (drop at run) ≡ nothing → next_read run at ≡ Ok None
  unfolding next_read next_field
  none_next e = rw e

  pub end_next : length run ≤ at → next_read run at ≡ Ok None
  unfolding front
  end_next h =
      let none_left : drop at run ≡ [] = drop_of_length-le run h in
      none_next (rw none_left refl)

  pub cut_next : front (drop at run) ≡ cut → next_read run at ≡ Err Broken
  unfolding next_read next_field
  cut_next e = rw e

  module _ {g : Field} {rest : List ℕ} (e : front (drop at run) ≡ whole g rest) where
    pub next_is : next_read run at ≡ cond (is_read g) (Ok (Some (read_of (at + 3) g))) (Err Broken)
    unfolding next_read next_field
    next_is =
        ap (λ (b : Front). read_at run (located at b)) e
        ∙ ap (λ (f : Field). cond (is_read f) (Ok (Some (read_of (at + 3) f))) (Err Broken)) (stands run at e).field_is

    pub parted : length run ≡ at + 3 + length g.value + length rest
    parted =
        let s = stands run at e in
        let left : length rest ≡ length run - (at + 3 + length g.value) = sym (ap length s.rest_is) ∙ length-drop (at + 3 + length g.value) run in
        omega (arith, s.begins_at.within)
