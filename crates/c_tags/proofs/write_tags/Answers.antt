-- `c_tags::write_tags` meets its contract: refused by the library's first test or by the texts, or all is written; what refuses what was
-- read changes nothing. Assumes nothing.
use mathlib.Core.Path.{◌≡◌, ap, ◌∙◌}
use Prim.Native.Nat.{◌/◌, ◌≤◌}
use lib.ListN.{length}
use Rattle.std.proofs.lemmas.Result.{err_from_is_err_and}
use Rattle.refusals.specs.Outcome.{answer}
use Rattle.methylation.specs.Arrays.{EvidenceArrays, evidence_arrays, evidence_fronts, evidence_in}
use Rattle.molecule_evidence.specs.Buffers.{buffers_in}
use Rattle.molecule_evidence.specs.Evidence.{marks_of, unconverted_of, converted_of}
use Rattle.molecule_strand.specs.Strand.{bytes_held}
use Rattle.duplex_texts.specs.Lent.{texts_out}
use Rattle.rust_methylation.specs.Entries.{DuplexArrays, duplex_arrays}
use Rattle.duplex_tags.specs.Lent.{counts_out}
use Rattle.duplex_texts.specs.Texts.{strand_in}
use Rattle.c_tags.specs.Parts.{strand_seen, counts_in}
use Rattle.c_tags.proofs.Bytes.{evidence_read}
use Rattle.c_tags.proofs.Entry.{lent_as, own, same_test, early, late, all_written, few_places, ready, left_counts}
use Rattle.c_tags.proofs.write_tags.Goals as goal
use Rattle.c_tags.proofs.write_tags.Goals.{After-counts_refusal, After-of-2}

-- The first test, as the library's over numbers.
module _ (c : After-counts_refusal) where
  abbrev before : DuplexArrays
  before = duplex_arrays (texts_out c.args.texts.now) (counts_out c.args.unconverted.now c.args.converted.now)

  told : answer {A = Unit {0}} (own c.in_ok-a.field-0.mode c.args.bases.now c.in_ok-a.field-0.a c.in_ok-a.field-0.b before) tt ≡ c.counts_refusal.result
  told = same_test c.in_ok-a.field-0.mode c.args.bases.now c.in_ok-a.field-0.a c.in_ok-a.field-0.b before c.lengths_held.ensures c.lengths_held-2.ensures (c.counts_in.ensures ∙ ap counts_in c.lengths.ensures) (c.counts_in-2.ensures ∙ ap counts_in c.lengths-2.ensures) c.counts_refusal.ensures

-- What is read, all of it, where that test refuses nothing.
module _ (c : After-of-2) (few : (length (bytes_held c.in_ok-a.field-0.a) / 9 ≤ 1024) × (length (bytes_held c.in_ok-a.field-0.b) / 9 ≤ 1024)) where
  a_read : evidence_in c.front-a_evidence.result ≡ evidence_arrays (marks_of (bytes_held c.in_ok-a.field-0.a)) (unconverted_of (bytes_held c.in_ok-a.field-0.a)) (converted_of (bytes_held c.in_ok-a.field-0.a))
  a_read =
      let s = rw c.bytes_held.ensures at c.read.ensures in
      evidence_read (bytes_held c.in_ok-a.field-0.a) {before = buffers_in c.zeros-a_read.result} {e = evidence_in c.front-a_evidence.result} few.0 c.zeros-a_read.ensures s.marks s.unconverted s.converted c.places_held.ensures (c.front-a_evidence.ensures ∙ ap (evidence_fronts c.places_held.result) c.slices.ensures)

  b_read : evidence_in c.front-b_evidence.result ≡ evidence_arrays (marks_of (bytes_held c.in_ok-a.field-0.b)) (unconverted_of (bytes_held c.in_ok-a.field-0.b)) (converted_of (bytes_held c.in_ok-a.field-0.b))
  b_read =
      let s = rw c.bytes_held-2.ensures at c.read-2.ensures in
      evidence_read (bytes_held c.in_ok-a.field-0.b) {before = buffers_in c.zeros-b_read.result} {e = evidence_in c.front-b_evidence.result} few.1 c.zeros-b_read.ensures s.marks s.unconverted s.converted c.places_held-2.ensures (c.front-b_evidence.ensures ∙ ap (evidence_fronts c.places_held-2.result) c.slices-2.ensures)

  a_lent : strand_in c.of.result ≡ strand_seen c.in_ok-a.field-0.a
  a_lent = lent_as c.in_ok-a.field-0.a c.of.result c.pattern_held.ensures c.of.ensures.pattern c.of.ensures.evidence a_read

  b_lent : strand_in c.of-2.result ≡ strand_seen c.in_ok-a.field-0.b
  b_lent = lent_as c.in_ok-a.field-0.b c.of-2.result c.pattern_held-2.ensures c.of-2.ensures.pattern c.of-2.ensures.evidence b_read

pub returns-in_err-counts_refusal-clause-tagged : goal.returns-in_err-counts_refusal-clause-tagged
returns-in_err-counts_refusal-clause-tagged c =
    let test = (goal.at.returns-in_err-counts_refusal-clause-tagged c).After-counts_refusal in
    let p = err_from_is_err_and c.from_residual-in_err-counts_refusal.result c.from_residual-in_err-counts_refusal.ensures.1 in
    rw (p.1, p.2, c.in_ok-a.was) (early c.in_ok-a.field-0.mode c.args.bases.now c.in_ok-a.field-0.a c.in_ok-a.field-0.b (before test) (told test ∙ c.in_err-counts_refusal.was))

pub returns-in_err-lengths-clause-tagged : goal.returns-in_err-lengths-clause-tagged
returns-in_err-lengths-clause-tagged c =
    let here = goal.at.returns-in_err-lengths-clause-tagged c in
    let test = here.After-counts_refusal in
    let passed = told test ∙ c.in_ok-counts_refusal.was in
    let few = few_places c.in_ok-a.field-0.mode c.args.bases.now c.in_ok-a.field-0.a c.in_ok-a.field-0.b (before test) passed in
    let read = here.After-of-2 in
    let p = err_from_is_err_and c.from_residual-in_err-lengths.result c.from_residual-in_err-lengths.ensures.1 in
    let texts = rw c.in_err-lengths.was at c.duplex_texts.ensures.texts in
    rw (p.1, p.2, c.in_ok-a.was) (late c.in_ok-a.field-0.mode c.args.bases.now c.in_ok-a.field-0.a c.in_ok-a.field-0.b (before test) passed (rw (a_lent read few, b_lent read few) at texts))

pub write_counts-requires-clause-of_a : goal.write_counts-requires-clause-of_a
write_counts-requires-clause-of_a c =
    let here = goal.at.write_counts-requires-clause-of_a c in
    let test = here.After-counts_refusal in
    let passed = told test ∙ c.in_ok-counts_refusal.was in
    let few = few_places c.in_ok-a.field-0.mode c.args.bases.now c.in_ok-a.field-0.a c.in_ok-a.field-0.b (before test) passed in
    (ready c.in_ok-a.field-0.mode c.args.bases.now c.in_ok-a.field-0.a c.in_ok-a.field-0.b (before test) passed).a_unconverted (ap (λ (e : EvidenceArrays). e.unconverted) (a_read here.After-of-2 few))

pub write_counts-requires-clause-of_b : goal.write_counts-requires-clause-of_b
write_counts-requires-clause-of_b c =
    let here = goal.at.write_counts-requires-clause-of_b c in
    let test = here.After-counts_refusal in
    let passed = told test ∙ c.in_ok-counts_refusal.was in
    let few = few_places c.in_ok-a.field-0.mode c.args.bases.now c.in_ok-a.field-0.a c.in_ok-a.field-0.b (before test) passed in
    (ready c.in_ok-a.field-0.mode c.args.bases.now c.in_ok-a.field-0.a c.in_ok-a.field-0.b (before test) passed).b_unconverted (ap (λ (e : EvidenceArrays). e.unconverted) (b_read here.After-of-2 few))

pub write_counts-requires-clause-of_both : goal.write_counts-requires-clause-of_both
write_counts-requires-clause-of_both c =
    let here = goal.at.write_counts-requires-clause-of_both c in
    let test = here.After-counts_refusal in
    let passed = told test ∙ c.in_ok-counts_refusal.was in
    (ready c.in_ok-a.field-0.mode c.args.bases.now c.in_ok-a.field-0.a c.in_ok-a.field-0.b (before test) passed).unconverted

pub write_counts-requires-2-clause-of_a : goal.write_counts-requires-2-clause-of_a
write_counts-requires-2-clause-of_a c =
    let here = goal.at.write_counts-requires-2-clause-of_a c in
    let test = here.After-counts_refusal in
    let passed = told test ∙ c.in_ok-counts_refusal.was in
    let few = few_places c.in_ok-a.field-0.mode c.args.bases.now c.in_ok-a.field-0.a c.in_ok-a.field-0.b (before test) passed in
    (ready c.in_ok-a.field-0.mode c.args.bases.now c.in_ok-a.field-0.a c.in_ok-a.field-0.b (before test) passed).a_converted (ap (λ (e : EvidenceArrays). e.converted) (a_read here.After-of-2 few))

pub write_counts-requires-2-clause-of_b : goal.write_counts-requires-2-clause-of_b
write_counts-requires-2-clause-of_b c =
    let here = goal.at.write_counts-requires-2-clause-of_b c in
    let test = here.After-counts_refusal in
    let passed = told test ∙ c.in_ok-counts_refusal.was in
    let few = few_places c.in_ok-a.field-0.mode c.args.bases.now c.in_ok-a.field-0.a c.in_ok-a.field-0.b (before test) passed in
    (ready c.in_ok-a.field-0.mode c.args.bases.now c.in_ok-a.field-0.a c.in_ok-a.field-0.b (before test) passed).b_converted (ap (λ (e : EvidenceArrays). e.converted) (b_read here.After-of-2 few))

pub write_counts-requires-2-clause-of_both : goal.write_counts-requires-2-clause-of_both
write_counts-requires-2-clause-of_both c =
    let here = goal.at.write_counts-requires-2-clause-of_both c in
    let test = here.After-counts_refusal in
    let passed = told test ∙ c.in_ok-counts_refusal.was in
    (ready c.in_ok-a.field-0.mode c.args.bases.now c.in_ok-a.field-0.a c.in_ok-a.field-0.b (before test) passed).converted

pub returns-clause-tagged : goal.returns-clause-tagged
returns-clause-tagged c =
    let here = goal.at.returns-clause-tagged c in
    let test = here.After-counts_refusal in
    let passed = told test ∙ c.in_ok-counts_refusal.was in
    let few = few_places c.in_ok-a.field-0.mode c.args.bases.now c.in_ok-a.field-0.a c.in_ok-a.field-0.b (before test) passed in
    let a_is = a_read here.After-of-2 few in
    let b_is = b_read here.After-of-2 few in
    let texts = rw c.in_ok-lengths.was at c.duplex_texts.ensures.texts in
    let left = left_counts c.in_ok-a.field-0.mode c.args.bases.now c.in_ok-a.field-0.a c.in_ok-a.field-0.b (before test) _ (ap (λ (e : EvidenceArrays). e.unconverted) a_is) (ap (λ (e : EvidenceArrays). e.converted) a_is) (ap (λ (e : EvidenceArrays). e.unconverted) b_is) (ap (λ (e : EvidenceArrays). e.converted) b_is) c.write_counts.ensures.written c.write_counts-2.ensures.written in
    rw c.in_ok-a.was (all_written c.in_ok-a.field-0.mode c.args.bases.now c.in_ok-a.field-0.a c.in_ok-a.field-0.b (before test) passed (rw (a_lent here.After-of-2 few, b_lent here.After-of-2 few) at texts) left)
