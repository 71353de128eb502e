-- Laws of restoring, by position.
--     restored_length                  how many bases
--     restored_copy                    what restoring a copy leaves in the output
--     strand_absent, strand_of_lem     a strand without an annotation, and with one
-- Assumes nothing.
use mathlib.Core.Path.{◌≡◌, ap}
use mathlib.Core.List.{List}
use Prim.Native.Nat.{ℕ}
use lib.ListN.{length, get_or}
use native.Mathlib.Omega.{arith}
use Rattle.lists.specs.Output.{put}
use Rattle.lists.proofs.Output.{put_over}
use Rattle.lists.proofs.Table.{length_tabulate, tabulate_equal}
use Rattle.lists.proofs.Written.{get_d_put}
use Rattle.methylation.specs.declared.ConversionPattern.{ConversionPattern}
use Rattle.methylation.specs.declared.PatternBases.{PatternBases}
use Rattle.methylation_restore.specs.Restore.{restored_base, restored_at, restored_to, restored, strand_bases}
use Rattle.std.proofs.Common.{None, Some, Option}

module _ (letters : PatternBases) (marks bases : List ℕ) where
  pub restored_length : (n : ℕ) → length (restored_to n letters marks bases) ≡ n
  restored_length n = length_tabulate n (restored_at letters marks bases)

  restored_front : (out : List ℕ) → restored_to (length bases) letters marks (put bases out) ≡ restored_to (length bases) letters marks bases
  restored_front out =
      tabulate_equal (length bases) (restored_at letters marks (put bases out)) (restored_at letters marks bases)
      (λ i h. ap (restored_base letters (get_or marks i 0)) (get_d_put bases out i 0 h))

  pub restored_copy :
      (out : List ℕ)
      → length marks ≡ length bases
      → put (restored_to (length marks) letters marks (put bases out)) (put bases out) ≡ put (restored_to (length bases) letters marks bases) out
  restored_copy out e =
      rw (e, restored_front out) (put_over (restored_to (length bases) letters marks bases) bases out (omega (arith, restored_length (length bases))))

module _ (marks bases : List ℕ) where
  pub strand_absent : {annotation : Option ConversionPattern} → annotation ≡ None → bases ≡ strand_bases annotation marks bases
  strand_absent e = rw e

  pub strand_of_lem : {annotation : Option ConversionPattern} {pattern : ConversionPattern} → annotation ≡ Some pattern → restored pattern marks bases ≡ strand_bases annotation marks bases
  strand_of_lem e = rw e
