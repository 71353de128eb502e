-- `c_reason::mark_at` meets its contract: the first of a position's bytes, and none past the last position. Assumes nothing.
use mathlib.Core.Path.{sym}
use native.Mathlib.Omega.{arith}
use lib.ListN.{get_or-eq_default}
use Rattle.lists.proofs.Table.{tabulated}
use Rattle.byte_numbers.specs.Groups.{by_group}
use Rattle.byte_numbers.proofs.Groups.{length_by_group}
use Rattle.molecule_evidence.specs.Evidence.{mark_in, marks_of}
use Rattle.molecule_evidence.proofs.Evidence.{mark_at}
use Rattle.c_reason.proofs.mark_at.Goals as goal

pub returns-then-position-evidence : goal.returns-then-position-evidence
unfolding by_group
returns-then-position-evidence c =
    let s = c.args in
    tabulated _ _ 0 c.if-position-evidence.true (mark_at s.evidence.now s.position c.if-position-evidence.true)

pub returns : goal.returns
returns c =
    let s = c.args in
    sym (get_or-eq_default (marks_of s.evidence.now) 0 (omega (arith, length_by_group 9 mark_in s.evidence.now, c.if-position-evidence.false)))
