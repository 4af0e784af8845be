-- What Steps 2 to 4b leave.
use Rattle.std.specs.Prelude.{ℕ, ◌≡◌, List}
use Rattle.base.specs.Words.{tab}
use Rattle.intertie_shares.specs.Pairs.{fill_table}
use Rattle.steps.specs.Inputs.{Inputs}
use Rattle.steps.specs.Step2.{available, available_total, load_share_quantity}
use Rattle.steps.specs.Step4a.{pre_ra_granted}
use Rattle.steps.specs.Step4b.{new_use_granted}
use Rattle.steps.specs.Step5to7.{unassigned}

-- Step 2: available on each intertie, the holders' Load Share Quantities, and T
pub record Available (y : Inputs) (pools quantities : List ℕ) (total : ℕ) : Type 0 where
  pub pool : pools ≡ tab y.interties (available y)
  pub quantity : quantities ≡ tab y.holders (load_share_quantity y)
  pub sum : total ≡ available_total y

-- Steps 3 to 4b: what stays unassigned on each intertie, and P and N of every pair in tables whose other words stay
pub record Granted (y : Inputs) (preRa₀ newUse₀ left pre_ra new_use : List ℕ) : Type 0 where
  pub remains : left ≡ tab y.interties (unassigned y)
  pub granted : pre_ra ≡ fill_table y.interties y.holders (pre_ra_granted y) preRa₀
  pub kept : new_use ≡ fill_table y.interties y.holders (new_use_granted y) newUse₀

-- together: the Load Share Quantities, what stays unassigned, P and N, and T
pub record Taken (y : Inputs) (preRa₀ newUse₀ quantities left pre_ra new_use : List ℕ) (total : ℕ) : Type 0 where
  pub sum : total ≡ available_total y
  pub quantity : quantities ≡ tab y.holders (load_share_quantity y)
  pub reserved : Granted y preRa₀ newUse₀ left pre_ra new_use
