-- The words of an opened state, group by group as `opening` has them, from the sheet's table of kilowatts and the steps' figures.
-- Of a number over 32 bits the low ones are written.
use Rattle.std.specs.Prelude.{ℕ, ◌+◌, ◌*◌, ◌%◌, ◌^◌, Bool, ◌&&◌, List, leb, length, set}
use Rattle.base.specs.Choice.{pick}
use Rattle.base.specs.Limits.{most_interties, most_holders, state_words}
use Rattle.base.specs.Stages.{trading_stage}
use Rattle.base.specs.Words.{at}
use Rattle.sheet_reading.specs.Tables.{limit_slot, outside_slot, load_share_slot, existing_slot}
use Rattle.sheet_reading.specs.declared.tables.Tables.{Tables}
use Rattle.state.specs.Layout.{interties_at, holders_at, limit_row, outside_row, load_share_row, step5_share_row}
use Rattle.state.specs.Layout.{step7_total_row, reserved_row}
use Rattle.state.specs.Layout.{existing_row, pre_ra_row, new_use_row, stage_at, last_day_at, unassigned_row, unplaced_row}
use Rattle.state.specs.Layout.{sellers_row, last_week_row}
use Rattle.state.specs.Layout.{takings_row, placed_row, taken_row, locked_row, term_row, pending_row}
use Rattle.state_rows.specs.Rows.{fill_row, fill_pairs}
use Rattle.opened_state.specs.declared.Figures.{Figures}

-- the low 32 bits of a number
abbrev pub low : ℕ → ℕ
low n = n % 2 ^ 32

-- those of a row's numbers, and of a table's, a row of the interties for each holder
abbrev pub row_low : List ℕ → ℕ → ℕ
row_low row c = low (at row c)

abbrev pub pair_low : List ℕ → ℕ → ℕ → ℕ
pair_low table h i = low (at table (most_interties * h + i))

-- a state that has room, and sizes in range
abbrev pub fit_sizes : ℕ → ℕ → ℕ → Bool
fit_sizes words I H = leb state_words words && leb I most_interties && leb H most_holders

-- I and H
abbrev pub sizes_written : ℕ → ℕ → List ℕ → List ℕ
sizes_written I H s = set (set s interties_at I) holders_at H

-- limits, outside rights, load shares, Step 5 shares, Step 7 totals, reserved
abbrev pub figures_written : Tables → ℕ → ℕ → Figures → List ℕ → List ℕ
figures_written tables I H figures s =
    fill_row reserved_row H (row_low figures.held)
    (fill_row step7_total_row H (row_low figures.totals)
    (fill_row step5_share_row H (row_low figures.shares)
    (fill_row load_share_row H (λ h. low (at tables.kw (load_share_slot h)))
    (fill_row outside_row I (λ i. low (at tables.kw (outside_slot i)))
    (fill_row limit_row I (λ i. low (at tables.kw (limit_slot i))) s)))))

-- E
abbrev pub existing_written : Tables → ℕ → ℕ → List ℕ → List ℕ
existing_written tables I H s = fill_pairs existing_row H I (λ h i. low (at tables.kw (existing_slot h i))) s

-- E, P and N
abbrev pub reserved_written : Tables → ℕ → ℕ → Figures → List ℕ → List ℕ
reserved_written tables I H figures s =
    fill_pairs new_use_row H I (pair_low figures.new_use)
    (fill_pairs pre_ra_row H I (pair_low figures.pre_ra) (existing_written tables I H s))

-- stage 1, no last day, unassigned and unplaced, which is the Step 5 share
abbrev pub stage_written : ℕ → ℕ → Figures → List ℕ → List ℕ
stage_written I H figures s =
    fill_row unplaced_row H (row_low figures.shares)
    (fill_row unassigned_row I (row_low figures.unassigned) (set (set s stage_at trading_stage) last_day_at 0))

-- no sellers, last week and takings
abbrev pub rows_cleared : ℕ → List ℕ → List ℕ
rows_cleared H s = fill_row takings_row H (λ h. 0) (fill_row last_week_row H (λ h. 0) (fill_row sellers_row H (λ h. 0) s))

-- nothing placed, taken, locked or pending, and no lock term
abbrev pub pairs_cleared : ℕ → ℕ → List ℕ → List ℕ
pairs_cleared I H s =
    fill_pairs pending_row H I (λ h i. 0)
    (fill_pairs term_row H I (λ h i. 0)
    (fill_pairs locked_row H I (λ h i. 0)
    (fill_pairs taken_row H I (λ h i. 0)
    (fill_pairs placed_row H I (λ h i. 0) s))))

-- the whole opened state
abbrev pub state_written : Tables → ℕ → ℕ → Figures → List ℕ → List ℕ
state_written tables I H figures s =
    pairs_cleared I H
    (rows_cleared H
    (stage_written I H figures
    (reserved_written tables I H figures (figures_written tables I H figures (sizes_written I H s)))))

-- a state under 16,000 words, over 48 interties and over 32 holders are not written
abbrev pub written : Tables → ℕ → ℕ → Figures → List ℕ → List ℕ
written tables I H figures s = pick (fit_sizes (length s) I H) (state_written tables I H figures s) s
