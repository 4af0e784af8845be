-- The year's state after opening (docs/RULES.md, "The year's state"): every word that the rules name, for the holders below H and the
-- interties below I. The other words stay.
use Rattle.std.specs.Prelude.{ℕ, List, set}
use Rattle.base.specs.Stages.{trading_stage}
use Rattle.state.specs.Layout.{interties_at, holders_at, stage_at, last_day_at}
use Rattle.state.specs.Layout.{limit_row, outside_row, load_share_row, step5_share_row, step7_total_row, reserved_row}
use Rattle.state.specs.Layout.{existing_row, pre_ra_row, new_use_row}
use Rattle.state.specs.Layout.{unassigned_row, unplaced_row, sellers_row, last_week_row, takings_row}
use Rattle.state.specs.Layout.{placed_row, taken_row, locked_row, term_row, pending_row}
use Rattle.state_rows.specs.Rows.{fill_row, fill_pairs}
use Rattle.steps.specs.Inputs.{Inputs}
use Rattle.steps.specs.Step4a.{pre_ra_granted}
use Rattle.steps.specs.Step4b.{new_use_granted}
use Rattle.steps.specs.Step5to7.{held, step5_share, step7_total, unassigned}

module _ (y : Inputs) where
  -- a row of the interties, a row of the holders, a field of the pairs, as `Layout` places them
  abbrev pub per_intertie : ℕ → (ℕ → ℕ) → List ℕ → List ℕ
  per_intertie row f s = fill_row row y.interties f s

  abbrev pub per_holder : ℕ → (ℕ → ℕ) → List ℕ → List ℕ
  per_holder row f s = fill_row row y.holders f s

  abbrev pub per_pair : ℕ → (ℕ → ℕ → ℕ) → List ℕ → List ℕ
  per_pair row f s = fill_pairs row y.holders y.interties f s

  -- I and H
  unfoldable pub size_words : List ℕ → List ℕ
  size_words s = set (set s interties_at y.interties) holders_at y.holders

  -- limits and outside rights; load shares, Step 5 shares, Step 7 totals and reserved
  unfoldable pub figure_words : List ℕ → List ℕ
  figure_words s =
      per_holder reserved_row (held y)
      (per_holder step7_total_row (step7_total y)
      (per_holder step5_share_row (step5_share y)
      (per_holder load_share_row y.load_share
      (per_intertie outside_row y.outside
      (per_intertie limit_row y.limit s)))))

  -- E, P and N
  unfoldable pub reserved_words : List ℕ → List ℕ
  reserved_words s = per_pair new_use_row (new_use_granted y) (per_pair pre_ra_row (pre_ra_granted y) (per_pair existing_row y.existing s))

  -- stage 1, no taking yet; unassigned = available - E - P - N, unplaced = Step 5 share
  unfoldable pub stage_words : List ℕ → List ℕ
  stage_words s =
      per_holder unplaced_row (step5_share y)
      (per_intertie unassigned_row (unassigned y) (set (set s stage_at trading_stage) last_day_at 0))

  -- the rest 0: sellers, last takings' weeks and takings; placed, taken, locked, lock terms and pending
  unfoldable pub cleared_words : List ℕ → List ℕ
  cleared_words s =
      per_pair pending_row (λ h i. 0)
      (per_pair term_row (λ h i. 0)
      (per_pair locked_row (λ h i. 0)
      (per_pair taken_row (λ h i. 0)
      (per_pair placed_row (λ h i. 0)
      (per_holder takings_row (λ h. 0)
      (per_holder last_week_row (λ h. 0)
      (per_holder sellers_row (λ h. 0) s)))))))

  -- all of them
  unfoldable pub opened_state : List ℕ → List ℕ
  opened_state s = cleared_words (stage_words (reserved_words (figure_words (size_words s))))
