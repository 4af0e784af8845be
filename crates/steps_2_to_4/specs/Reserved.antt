-- Steps 2 to 4b on the tables of a sheet (docs/RULES.md, "Opening"): T, Load Share Quantities, what stays unassigned, P and N, by the
-- definitions of the steps.
use Rattle.std.specs.Prelude.{ℕ, Bool, false, ◌&&◌, ◌||◌, List, leb, ltb}
use Rattle.base.specs.Limits.{most_interties, most_holders, most_kw, most_load_share}
use Rattle.base.specs.Choice.{pick}
use Rattle.base.specs.Sums.{all_to}
use Rattle.base.specs.Words.{at, fill}
use Rattle.intertie_shares.specs.Pairs.{fill_table}
use Rattle.sheet_reading.specs.Tables.{limit_slot, load_share_slot}
use Rattle.sheet_reading.specs.declared.tables.Tables.{Tables}
use Rattle.steps.specs.Inputs.{Inputs}
use Rattle.steps.specs.Tables.{of_tables}
use Rattle.steps.specs.Step2.{available_total, load_share_quantity}
use Rattle.steps.specs.Step4a.{pre_ra_granted}
use Rattle.steps.specs.Step4b.{new_use_granted}
use Rattle.steps.specs.Step5to7.{unassigned}

-- the inputs of the steps, as the tables of a sheet with I interties and H holders have them
abbrev pub inputs : Tables → ℕ → ℕ → Inputs
inputs tables I H = of_tables I H tables.kw tables.interties

-- sizes, limits and load shares in range
abbrev pub fit_tables : List ℕ → ℕ → ℕ → Bool
fit_tables kw I H =
    pick (ltb most_interties I || ltb most_holders H) false
    (all_to I (λ i. leb (at kw (limit_slot i)) most_kw) && all_to H (λ h. leb (at kw (load_share_slot h)) most_load_share))

-- T, and the rows and the tables afterwards
pub record Outcome : Type 0 where
  pub total : ℕ
  pub quantities : List ℕ
  pub left : List ℕ
  pub pre_ra : List ℕ
  pub new_use : List ℕ

-- the Load Share Quantities over the first H words of a row, what stays unassigned over the first I words of a row, P and N over the words
-- of H holders and I interties of a table; the other words stay
unfoldable pub reserved : Tables → ℕ → ℕ → List ℕ → List ℕ → List ℕ → List ℕ → Outcome
reserved tables I H quantities left pre_ra new_use =
    let y = inputs tables I H in
    pick (fit_tables tables.kw I H)
    (record {
      total = available_total y;
      quantities = fill H (load_share_quantity y) quantities;
      left = fill I (unassigned y) left;
      pre_ra = fill_table I H (pre_ra_granted y) pre_ra;
      new_use = fill_table I H (new_use_granted y) new_use;
    })
    (record { total = 0; quantities = quantities; left = left; pre_ra = pre_ra; new_use = new_use })
