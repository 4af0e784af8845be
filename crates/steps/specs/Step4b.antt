-- Step 4b: the New Use commitments, by rising rank, within the holder's allowance (docs/RULES.md, "Opening").
use Rattle.std.specs.Prelude.{ℕ, ◌+◌, ◌-◌, List}
use Rattle.base.specs.Limits.{most_interties}
use Rattle.base.specs.Sums.{sum_to}
use Rattle.base.specs.Words.{at, tab}
use Rattle.share_out.specs.Rule.{Outcome}
use Rattle.intertie_shares.specs.Rule.{among_holders}
use Rattle.sheet_keys.specs.Key.{key_ranks}
use Rattle.step_4b.specs.NewUse.{NewUse, new_use}
use Rattle.steps.specs.Inputs.{Inputs}
use Rattle.steps.specs.Step2.{load_share_quantity}
use Rattle.steps.specs.Step4a.{pre_ra_granted, left_by_step4a}

module _ (y : Inputs) where
  -- the allowance starts at Load Share Quantity - all the holder's E and P, at least 0
  unfoldable pub allowance : ℕ → ℕ
  allowance h = load_share_quantity y h - sum_to y.interties (λ i. y.existing h i + pre_ra_granted y h i)

  -- what the holder's E on each intertie exceeds its Pre-RA kW there
  unfoldable pub cover : ℕ → List ℕ
  cover h = tab most_interties (λ i. y.existing h i - y.pre_ra h i)

  -- the holder's records by rising rank, each covered first and then cut to the allowance left
  unfoldable pub new_use_kept : ℕ → NewUse
  new_use_kept h = new_use (tab key_ranks (y.new_use_kw h)) (tab key_ranks (y.new_use_intertie h)) (allowance h) (cover h) most_interties

  -- what stays, summed per pair, is the claim
  unfoldable pub new_use_claim : ℕ → ℕ → ℕ
  new_use_claim h i = at (new_use_kept h).kept i

  -- and is shared out with the same weights, from what 4a left on the intertie
  unfoldable pub new_use_shared : ℕ → Outcome
  new_use_shared i = among_holders y.holders (left_by_step4a y i) (λ h. new_use_claim h i) y.load_share

  -- N of holder h on intertie i
  unfoldable pub new_use_granted : ℕ → ℕ → ℕ
  new_use_granted h i = at (new_use_shared i).output h
