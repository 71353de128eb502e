-- The three texts differ, and a refusal's says its number.
--     same_number     two refusals that print alike have one number
--     not_printed     a refusal's text is neither `none` nor a record's
-- Assumes nothing.
use mathlib.Core.Path.{◌≡◌, sym, ap, ◌∙◌}
use mathlib.Core.Bool.{Bool}
use mathlib.Core.List.{List, [], ◌∷◌, ◌++◌}
use Prim.Native.Nat.{ℕ, ◌-◌}
use native.Mathlib.Omega.{arith}
use lib.ListN.{length, take, drop, get_or, length-append}
use lib.Seq.{take_at}
use Rattle.decimal.specs.Decimal.{decimal, value_of}
use Rattle.decimal.proofs.Decimal.{value_decimal}
use Rattle.metrics_bits.specs.declared.MetricsBits.{MetricsBits}
use Rattle.line_format.specs.Line.{Columns, header, opening, line_text, none_text, refused_text}
use Rattle.line_format.specs.declared.Kind.{Kind}
use Rattle.line_claims.specs.Claims.{Printed, none, record_line}

-- The number that a refusal's text says: all between `refused ` and the line feed.
abbrev number : List ℕ → ℕ
number text = value_of (take (length (drop 8 text) - 1) (drop 8 text))

number_back : (n : ℕ) → number (refused_text n) ≡ n
unfolding refused_text
number_back n =
    let all : length (decimal n) ≡ length (decimal n ++ 10 ∷ []) - 1 = simp length-append (omega arith) in
    ap value_of (take_at (decimal n) (10 ∷ []) (length (decimal n ++ 10 ∷ []) - 1) all) ∙ value_decimal n

pub same_number : (m n : ℕ) → refused_text m ≡ refused_text n → m ≡ n
same_number m n e = sym (number_back m) ∙ ap number e ∙ number_back n

-- A refusal begins with an r, the header with a k.
not_none : (n : ℕ) → refused_text n ≡ none_text → ⊥
unfolding refused_text none_text header
not_none n e = let heads : ◌≡◌ {A = ℕ} 114 107 = ap (λ (t : List ℕ). get_or t 0 0) e in omega arith

not_line : (n : ℕ) (kind : Kind) (kept : Bool) (c : Columns) (metrics : MetricsBits) → refused_text n ≡ line_text kind kept c metrics → ⊥
unfolding refused_text line_text opening header
not_line n kind kept c metrics e = let heads : ◌≡◌ {A = ℕ} 114 107 = ap (λ (t : List ℕ). get_or t 0 0) e in omega arith

pub not_printed : (n : ℕ) {text : List ℕ} → text ≡ refused_text n → Printed text → ⊥
not_printed n e (none same) = not_none n (sym e ∙ same)
not_printed n e (record_line kind kept c metrics same) = not_line n kind kept c metrics (sym e ∙ same)
