-- `duplex_partition::write_partition` meets its contract: its loop picks the reads of A for the one list and those of B for the
-- other. Assumes nothing.
use mathlib.Core.Path.{◌≡◌, sym, ap, ◌∙◌}
use mathlib.Core.Bool.{cond}
use mathlib.Core.List.{List}
use Prim.Native.Nat.{ℕ, ◌+◌, ◌<◌}
use lib.ListN.{length, get_or, set}
use Rattle.std.proofs.Common.{Option, Some}
use Rattle.lists.proofs.Indices.{Picking, begin, next}
use Rattle.duplex_partition.specs.Partition.{read_strand, is_a, is_b}
use Rattle.duplex_partition.specs.declared.MiPart.{MiPart}
use Rattle.duplex_partition.specs.declared.MiStrand.{MiStrand}
use Rattle.duplex_partition.proofs.MiReads.write_partition.Goals as goal
use Rattle.duplex_partition.proofs.MiReads.write_partition.Goals.{in-Some-A, in-Some-B, in-None}

pub loop-i-init : goal.loop-i-init
loop-i-init c =
    let room = c.requires.reads_in_bounds in
    (begin room.0, begin room.1)

-- A turn at a read of strand s.
turn :
    (bytes : List ℕ) {reads : List MiPart} {a_out₀ b_out₀ a_out b_out : List ℕ} {a b i : ℕ} (d : MiPart) {r s : Option MiStrand}
    → r ≡ read_strand bytes (get_or reads i d)
    → Picking (λ read. is_a (read_strand bytes read)) reads a_out₀ i a_out a × Picking (λ read. is_b (read_strand bytes read)) reads b_out₀ i b_out b
    → i < length reads
    → r ≡ s
    → Picking (λ read. is_a (read_strand bytes read)) reads a_out₀ (i + 1) (cond (is_a s) (set a_out a i) a_out) (cond (is_a s) (a + 1) a)
    × Picking (λ read. is_b (read_strand bytes read)) reads b_out₀ (i + 1) (cond (is_b s) (set b_out b i) b_out) (cond (is_b s) (b + 1) b)
turn bytes d e inv more named = (next d _ inv.0 more (ap is_a (sym e ∙ named)), next d _ inv.1 more (ap is_b (sym e ∙ named)))

pub loop-i-preserved : goal.loop-i-preserved
loop-i-preserved c =
    let inv = c.loop-i.invariant in
    let more = c.loop-i-test.true in
    let strand = c.read_strand.ensures in
    elim c.match-read_strand.branch [
      | in-Some-A w ↦ rw (w.a_out-is, w.b_out-is, w.a-is, w.b-is) (turn _ _ strand inv more (w.in-Some-A.is ∙ ap Some w.in-Some-A.field-0-is))
      | in-Some-B w ↦ rw (w.a_out-is, w.b_out-is, w.a-is, w.b-is) (turn _ _ strand inv more (w.in-Some-B.is ∙ ap Some w.in-Some-B.field-0-is))
      | in-None w ↦ rw (w.a_out-is, w.b_out-is, w.a-is, w.b-is) (turn _ _ strand inv more w.in-None.is)
    ]
