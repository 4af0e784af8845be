-- Step 2: available import capability, and each holder's Load Share Quantity (docs/RULES.md, "Opening").
use Rattle.std.specs.Prelude.{ℕ, ◌-◌, ◌*◌, ◌/◌}
use Rattle.base.specs.Sums.{sum_to}
use Rattle.steps.specs.Inputs.{Inputs}

module _ (y : Inputs) where
  -- available = limit - outside rights
  unfoldable pub available : ℕ → ℕ
  available i = y.limit i - y.outside i

  -- T is their sum
  unfoldable pub available_total : ℕ
  available_total = sum_to y.interties available

  -- all load shares
  unfoldable pub all_load_shares : ℕ
  all_load_shares = sum_to y.holders y.load_share

  -- Load Share Quantity = T × load share / all load shares, rounded down; 0 if all are 0
  unfoldable pub load_share_quantity : ℕ → ℕ
  load_share_quantity h = available_total * y.load_share h / all_load_shares
