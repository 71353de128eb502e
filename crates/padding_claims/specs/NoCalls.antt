-- Request 107 of document 02: padding is not a no-call. Proved in proofs/NoCalls.antt.
use Rattle.std.specs.Prelude.{Ok, Option, None, ◌≡◌, false, [], ℕ, ◌≤◌, ltb, length}
use Rattle.lists.specs.Count.{count_of}
use Rattle.lists.specs.Part.{only_if}
use Rattle.vanilla_caller.specs.Strand.{Arrays}
use Rattle.vanilla_padded.specs.Padding.{Padding, kept, padded_arrays, padded_refused}
use Rattle.duplex_single.specs.Single.{single_arrays}
use Rattle.duplex_metrics.specs.Metrics.{Input, input, record_depths, metrics_of}
use Rattle.duplex_metrics.specs.declared.MetricsRecord.{MetricsRecord}
use Rattle.methylation.specs.declared.ConversionPattern.{ConversionPattern}

-- What a metrics call is given of a strand that is alone in its record: the record's own bases and errors, the strand's depths and errors
-- as the first strand's, and no second strand.
abbrev pub alone : Option ConversionPattern → Arrays → Input
alone annotation s = input s.depths s.errors false [] [] (single_arrays annotation s).bases (single_arrays annotation s).errors

-- And of that strand once it is padded.
abbrev pub alone_padded : Option ConversionPattern → Arrays → Padding → Input
alone_padded annotation s p = alone (kept annotation (length s.bases) p.new_length) (padded_arrays annotation s p)

-- Padding a strand, on the left or the right, to any length and with any base and quality, leaves nc of its one-strand record as it was,
-- wherever neither `padded` nor the metrics refuse.
abbrev pub PaddingIsNoNoCall : Type 0
PaddingIsNoNoCall =
    (annotation : Option ConversionPattern) (s : Arrays) (p : Padding) (out : Arrays) (before after : MetricsRecord)
    → padded_refused annotation s p out ≡ None
    → metrics_of (alone annotation s) ≡ Ok before
    → metrics_of (alone_padded annotation s p) ≡ Ok after
    → after.nc ≡ before.nc

-- The number of a record's positions that have depth.
abbrev pub with_depth : Input → ℕ
with_depth x = count_of (ltb 0) (record_depths (length x.bases) x.a (only_if x.second x.b))

-- nc of a record, whatever its strands are, is never above that.
abbrev pub NoneWithoutDepth : Type 0
NoneWithoutDepth = (x : Input) (r : MetricsRecord) → metrics_of x ≡ Ok r → r.nc ≤ with_depth x
