-- The running figures of document 02's request 104: those of the positions so far, one position at a time.
use Rattle.std.specs.Prelude.{ℕ, ◌+◌, min, max, ◌≡◌, Bool, cond, length}
use mathlib.Core.List.{List, [], ◌∷◌, ◌++◌, foldl}
use Rattle.lists.specs.Count.{count_of}
use Rattle.numbers.specs.Numbers.{largest, smallest, total}
use Rattle.duplex_metrics.specs.Metrics.{capped, record_depths, is_no_call, record_no_calls}
use Rattle.duplex_metrics.specs.declared.Figures.{Figures}
use Rattle.duplex_metrics.specs.declared.Running.{Running}

-- The figures of some positions, by their depths and errors, and how many of them are no-calls. The smallest is looked for from the depth
-- of the first position on, which is 0 where there is none.
abbrev pub so_far : ℕ → List ℕ → List ℕ → List Bool → Running
so_far first depths errors no_calls = record {
  largest = largest depths;
  smallest = foldl min first depths;
  depths = total depths;
  errors = total errors;
  nc = count_of (λ (met : Bool). met) no_calls;
}

-- With one position more.
abbrev pub added : Running → ℕ → ℕ → ℕ → Running
added r depth error base = record {
  largest = max r.largest depth;
  smallest = min r.smallest depth;
  depths = r.depths + depth;
  errors = r.errors + error;
  nc = r.nc + cond (is_no_call base depth) 1 0;
}

-- After each position they are those of the positions so far.
abbrev pub Continues : Running → ℕ → ℕ → ℕ → Running → Type 0
Continues before depth error base after =
    (first : ℕ) (depths errors : List ℕ) (no_calls : List Bool)
    → before ≡ so_far first depths errors no_calls
    → after ≡ so_far first (depths ++ depth ∷ []) (errors ++ error ∷ []) (no_calls ++ is_no_call base depth ∷ [])

-- Those of a record, from the strands' depths and its own errors and bases.
abbrev pub running : List ℕ → List ℕ → List ℕ → List ℕ → Running
running a b errors bases =
    let depths = record_depths (length errors) a b in
    record {
      largest = largest depths;
      smallest = smallest depths;
      depths = total depths;
      errors = total (capped errors);
      nc = record_no_calls a b bases;
    }

abbrev pub figures_in : Running → Figures
figures_in r = record { largest = r.largest; smallest = r.smallest; depths = r.depths; errors = r.errors }
