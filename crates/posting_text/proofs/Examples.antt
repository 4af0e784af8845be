-- Case i (docs/RULES.md, "Examples"): the text that `post` prints, letter by letter; and the lines of refused sheets.
use mathlib.Core.Path.{◌≡◌, refl, ◌∙◌}
use mathlib.Core.List.{[], ◌∷◌}
use lib.ListN.{replicate}
use Rattle.base.specs.Sums.{sum_to, all_to}
use Rattle.sheet_records.specs.Sheet.{word_at, sum_over, limit, outside, existing, existing_on}
use Rattle.sheet_records.specs.Refusal.{bad_length, bad_sizes, record_stands, records_stand, one_limit_each, one_load_share_each, no_rank_twice, rules_hold, limits_hold, sheet_refusal}
use Rattle.state_rows.specs.Rows.{fill_row}
use Rattle.posting.proofs.Examples.{bytes_of, sheet_of, entry, sheet_i, stands-i, lines_i, posted-i}
use Rattle.text.specs.Ascii.{ascii}
use Rattle.text.specs.Decimal.{decimal_to}
use Rattle.text.specs.Lines.{figure, figures_of, line_of, each}
use Rattle.base.specs.Words.{tab}
use Rattle.posting_text.specs.Text.{text_of}
use Rattle.posting_text.specs.Workers.Columns.{intertie_by_rows, holder_by_rows, lines_text}
use Rattle.posting_text.proofs.PostedLaws.{text-by-rows}

pub case-i : text_of sheet_i ≡ ascii "T 100000\nI 0 110000 10000 30000 0 0 70000\nH 0 50000 50000 0 43750\nH 1 30000 30000 0 26250\nH 2 20000 20000 30000 0\n"
unfolding bytes_of sheet_of sheet_i lines_i word_at fill_row tab decimal_to figure figures_of line_of each intertie_by_rows holder_by_rows lines_text
case-i = text-by-rows sheet_i stands-i ∙ rw (posted-i (replicate 480 0)) refl

-- the examples of a sheet's refusals (docs/RULES.md, "Refusals")
pub record Refused : Type 0 where
  -- 11 bytes
  pub short : text_of (replicate 11 0) ≡ ascii "R 1\n"
  -- I = 49
  pub sizes : text_of (sheet_of 49 1 []) ≡ ascii "R 2\n"
  -- intertie 0 with two limits, and with none
  pub limits : text_of (sheet_of 1 1 (entry 1 0 0 0 100 ∷ entry 1 0 0 0 100 ∷ [])) ≡ ascii "R 3\n"
  pub no-limit : text_of (sheet_of 1 1 []) ≡ ascii "R 3\n"
  -- limit 100, 60 and 41
  pub above : text_of (sheet_of 1 1 (entry 1 0 0 0 100 ∷ entry 2 0 0 0 60 ∷ entry 4 0 0 1 41 ∷ [])) ≡ ascii "R 4\n"

pub refused-sheets : Refused
unfolding bytes_of sheet_of sum_to all_to word_at sum_over limit outside existing existing_on bad_length bad_sizes record_stands records_stand one_limit_each one_load_share_each no_rank_twice rules_hold limits_hold sheet_refusal decimal_to figure figures_of line_of text_of
refused-sheets = record { short = refl; sizes = refl; limits = refl; no-limit = refl; above = refl }
