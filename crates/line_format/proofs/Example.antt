-- Document 01's examples, byte by byte: the lines that it prints, a record of strand B alone with a base that is not printed as it is,
-- no record, and a refusal. Assumes nothing.
use mathlib.Core.Path.{◌≡◌, refl}
use mathlib.Core.Bool.{true, false}
use mathlib.Core.List.{[], ◌∷◌}
use Rattle.lists.specs.Table as table
use Rattle.decimal.specs.Decimal as decimals
use Rattle.hexadecimal.specs.Hexadecimal as hexadecimals
use Rattle.line_output.specs.Text as text
use Rattle.line_output.specs.Text.{ascii}
use Rattle.metrics_bits.specs.declared.MetricsBits.{MetricsBits}
use Rattle.line_metrics.specs.MetricsText as metrics
use Rattle.line_format.specs.Line.{columns, header, kind_text, gate_text, columns_text, opening, closing, line_text, none_text, refused_text}
use Rattle.line_format.specs.declared.Kind.TheVariants.{Ba, Both}

figures : MetricsBits
figures = record { aD = 2; aM = 2; aE = 0; bD = 1; bM = 1; bE = 0; cD = 3; cM = 3; cE = 0x3e2aaaab; nc = 2 }

both_kept :
    line_text Both true (columns (ascii "ACNN") (50 ∷ 70 ∷ 2 ∷ 2 ∷ []) (0 ∷ 0 ∷ 1 ∷ 1 ∷ [])) figures
    ≡ ascii "kind gate bases quals errors aD aM aE bD bM bE cD cM cE nc\nboth kept ACNN 50,70,2,2 0,0,1,1 2 2 00000000 1 1 00000000 3 3 3e2aaaab 2\n"
unfolding figures header kind_text gate_text columns_text opening closing line_text metrics.field metrics.rate_field metrics.figures_text metrics.metrics_text decimals.listed text.comma_list text.visible text.printed decimals.decimal decimals.decimal_in hexadecimals.digit_at hexadecimals.hexadecimal table.tabulate
both_kept = refl

ba_below :
    line_text Ba false (columns (65 ∷ 127 ∷ []) (2 ∷ 255 ∷ []) (0 ∷ 32767 ∷ [])) figures
    ≡ ascii "kind gate bases quals errors aD aM aE bD bM bE cD cM cE nc\nba below A? 2,255 0,32767 2 2 00000000 1 1 00000000 3 3 3e2aaaab 2\n"
unfolding figures header kind_text gate_text columns_text opening closing line_text metrics.field metrics.rate_field metrics.figures_text metrics.metrics_text decimals.listed text.comma_list text.visible text.printed decimals.decimal decimals.decimal_in hexadecimals.digit_at hexadecimals.hexadecimal table.tabulate
ba_below = refl

no_record : none_text ≡ ascii "kind gate bases quals errors aD aM aE bD bM bE cD cM cE nc\nnone\n"
unfolding header none_text
no_record = refl

refused : refused_text 8 ≡ ascii "refused 8\n"
unfolding refused_text decimals.decimal decimals.decimal_in
refused = refl
