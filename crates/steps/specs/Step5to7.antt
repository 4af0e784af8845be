-- Steps 5 to 7: what each holder holds, its Step 5 share and its Step 7 total, and what stays unassigned (docs/RULES.md, "Opening").
use Rattle.std.specs.Prelude.{ℕ, ◌+◌, ◌-◌}
use Rattle.base.specs.Sums.{sum_to}
use Rattle.base.specs.Words.{at, tab}
use Rattle.step_5.specs.Shares.{step5_shares}
use Rattle.steps.specs.Inputs.{Inputs}
use Rattle.steps.specs.Step2.{available, available_total}
use Rattle.steps.specs.Step4a.{pre_ra_granted}
use Rattle.steps.specs.Step4b.{new_use_granted}

module _ (y : Inputs) where
  -- E, P and N of holder h on intertie i
  unfoldable pub held_on : ℕ → ℕ → ℕ
  held_on h i = y.existing h i + pre_ra_granted y h i + new_use_granted y h i

  -- held = all of a holder's E, P and N; reserved is the same, fixed for the year
  unfoldable pub held : ℕ → ℕ
  held h = sum_to y.interties (λ i. held_on h i)

  -- reserved on an intertie: all E, P and N that opening gives on it
  unfoldable pub reserved_on : ℕ → ℕ
  reserved_on i = sum_to y.holders (λ h. held_on h i)

  -- the holder's Step 5 share
  unfoldable pub step5_share : ℕ → ℕ
  step5_share h = at (step5_shares (available_total y) (tab y.holders held) (tab y.holders y.load_share)) h

  -- Step 7 total = held + Step 5 share
  unfoldable pub step7_total : ℕ → ℕ
  step7_total h = held h + step5_share h

  -- unassigned = available - E - P - N; lost fractions stay in it
  unfoldable pub unassigned : ℕ → ℕ
  unassigned i = available y i - reserved_on i
