-- A strand and a molecule as numbers tell of them, document 01.
use Rattle.std.specs.Prelude.{ℕ, Bool, true, cond, ◌&&◌, ◌||◌, Option, None, Result, Ok, Err}
use Rattle.refusals.specs.declared.Refusal.{Refusal}
use Rattle.refusals.specs.declared.Refusal.TheVariants.{Broken}
use Rattle.methylation.specs.Choices.{annotation_of, wrong_annotation}
use Rattle.replies.specs.Choices.{yes}
use Rattle.vanilla_caller.specs.Strand.{Arrays}
use Rattle.vanilla_caller.specs.declared.VanillaConsensusRead.{VanillaConsensusRead}
use Rattle.duplex_kind.specs.Kind.{Strand, strand, given_of}
use Rattle.duplex_reply.specs.declared.ToldMolecule.{ToldMolecule}
use Rattle.duplex_reply.specs.declared.ToldStrand.{ToldStrand}

-- Row 13's condition for a strand: it is present, and its annotation stands for nothing.
abbrev pub wrong_strand : ℕ → ℕ → Bool
wrong_strand present annotation = yes present && wrong_annotation annotation

-- The strand, or 13.
abbrev pub strand_by : ℕ → ℕ → Arrays → Result Strand Refusal
strand_by present annotation arrays =
    cond (yes present) (cond (wrong_annotation annotation) (Err Broken) (Ok (strand true (annotation_of annotation) arrays))) (Ok (given_of None))

-- As the code has it.
abbrev pub told_by : Result (Option VanillaConsensusRead) Refusal → Result Strand Refusal
told_by (Ok s) = Ok (given_of s)
told_by (Err refusal) = Err refusal

-- Row 13's condition for a molecule: either strand's.
abbrev pub wrong_molecule : ToldMolecule → Bool
wrong_molecule m = wrong_strand m.a.present m.a.annotation || wrong_strand m.b.present m.b.annotation

-- A strand that is told of, of these arrays.
abbrev pub told_strand : ToldStrand → Arrays → Strand
told_strand told arrays = strand (yes told.present) (annotation_of told.annotation) arrays
