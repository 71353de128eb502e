-- `c_metrics::decoded_metrics` meets its contract: the library's call has the decoded numbers. Assumes nothing.
use mathlib.Core.Path.{◌≡◌, ap, subst, ◌∙◌}
use Rattle.std.proofs.Common.{Some, rules}
use Rattle.duplex_metrics.specs.Metrics.{Input, input_given, metrics_of}
use Rattle.metrics_bits.specs.Bits.{metrics_words}
use Rattle.molecule_counts.specs.Counts.{CountedArrays, DecodedTo, buffers_in}
use Rattle.c_metrics.specs.Bytes.{decoded}
use Rattle.c_metrics.proofs.Read.{read_as}
use Rattle.c_metrics.proofs.decoded_metrics.Goals as goal

pub returns : goal.returns
returns c =
    let x = c.args.x in
    let told = c.new.ensures in
    let asked : input_given c.new.result ≡ decoded (input_given x) =
    rw (told.0, told.1, told.2)
    (read_as x.a x.b x.bases.now x.errors.now c.counts-first.result c.map-second.result (buffers_in c.decode-2.new.self) {a_read = buffers_in c.decode.new.self} c.requires
    (subst (λ (r : CountedArrays). DecodedTo (Some x.a) r (buffers_in c.decode.new.self)) c.zeros-a.ensures c.decode.ensures) (subst (λ (r : CountedArrays). DecodedTo x.b r (buffers_in c.decode-2.new.self)) c.zeros-b.ensures c.decode-2.ensures) c.counts-first.ensures (search (rules, c.map-second.ensures))
    c.read.ensures (told.3 ∙ c.front-own.ensures)) in
    c.metrics_bits.ensures ∙ ap (λ (i : Input). metrics_words (metrics_of i)) asked
