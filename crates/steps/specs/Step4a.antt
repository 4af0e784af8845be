-- Steps 3 and 4a: existing contracts, never cut, and the Pre-RA commitments above them (docs/RULES.md, "Opening").
use Rattle.std.specs.Prelude.{ℕ, ◌-◌}
use Rattle.base.specs.Sums.{sum_to}
use Rattle.base.specs.Words.{at}
use Rattle.share_out.specs.Rule.{Outcome}
use Rattle.intertie_shares.specs.Rule.{among_holders}
use Rattle.steps.specs.Inputs.{Inputs}
use Rattle.steps.specs.Step2.{available}

module _ (y : Inputs) where
  -- E of all holders on intertie i
  unfoldable pub existing_on : ℕ → ℕ
  existing_on i = sum_to y.holders (λ h. y.existing h i)

  -- what Step 3 left on intertie i
  unfoldable pub left_by_step3 : ℕ → ℕ
  left_by_step3 i = available y i - existing_on i

  -- a claim is the part of Pre-RA kW above E at that pair
  unfoldable pub pre_ra_claim : ℕ → ℕ → ℕ
  pre_ra_claim h i = y.pre_ra h i - y.existing h i

  -- on each intertie what Step 3 left is shared out over the claims, weights = load shares
  unfoldable pub pre_ra_shared : ℕ → Outcome
  pre_ra_shared i = among_holders y.holders (left_by_step3 i) (λ h. pre_ra_claim h i) y.load_share

  -- P of holder h on intertie i
  unfoldable pub pre_ra_granted : ℕ → ℕ → ℕ
  pre_ra_granted h i = at (pre_ra_shared i).output h

  -- what Step 4a left on intertie i
  unfoldable pub left_by_step4a : ℕ → ℕ
  left_by_step4a i = left_by_step3 i - sum_to y.holders (λ h. pre_ra_granted h i)
