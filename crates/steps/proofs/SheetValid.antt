-- A sheet that no number refuses: its inputs keep the rules, and none of its share-outs in Steps 4a and 4b is refused.
use Prim.Native.Nat.{ℕ, ◌<◌, min}
use mathlib.Core.Path.{◌≡◌}
use mathlib.Core.List.{List}
use Rattle.base.specs.Sums.{sum_to}
use Rattle.sheet_records.specs.Sheet as Sheet
use Rattle.sheet_records.specs.Refusal.{sheet_refusal}
use Rattle.sheet_reading.proofs.SheetLaws.{Stands, standing}
use Rattle.steps.specs.Inputs.{of_sheet}
use Rattle.steps.specs.Valid.{Valid}
use Rattle.steps.specs.Step4a.{existing_on, left_by_step3, pre_ra_claim, pre_ra_shared, pre_ra_granted, left_by_step4a}
use Rattle.steps.specs.Step4b.{new_use_claim, new_use_shared, new_use_granted}
use Rattle.steps.proofs.AcceptedLaws.{pre-ra-accepted, pre-ra-total, new-use-accepted, new-use-total}

-- what a sheet that stands says is what the steps need
pub valid-stands : (s : List ℕ) → Stands s → Valid (of_sheet s)
unfolding existing_on Sheet.existing_on
valid-stands s stands =
    record {
      interties-least = stands.sizes.some-interties;
      interties-most = stands.sizes.few-interties;
      holders-least = stands.sizes.some-holders;
      holders-most = stands.sizes.few-holders;
      limit-most = stands.limit-bound;
      load-share-most = stands.load-share-bound;
      fits = stands.within-limit;
    }

pub valid-sheet : (s : List ℕ) → sheet_refusal s ≡ 0 → Valid (of_sheet s)
valid-sheet s e = valid-stands s (standing s e)

module _ (s : List ℕ) (e : sheet_refusal s ≡ 0) where
  -- no share-out of Step 4a or 4b is refused
  pub sheet-pre-ra-accepted : (i : ℕ) → i < Sheet.interties s → (pre_ra_shared (of_sheet s) i).answer.refusal ≡ 0
  sheet-pre-ra-accepted i l = pre-ra-accepted (of_sheet s) (valid-sheet s e) (standing s e).pre-ra-bound i l

  pub sheet-new-use-accepted : (i : ℕ) → i < Sheet.interties s → (new_use_shared (of_sheet s) i).answer.refusal ≡ 0
  sheet-new-use-accepted i l = new-use-accepted (of_sheet s) (valid-sheet s e) i l

  -- what they grant on an intertie together: all that is claimed there, or all that was left where that is less
  pub sheet-pre-ra-total : (i : ℕ) → i < Sheet.interties s →
      sum_to (Sheet.holders s) (λ h. pre_ra_granted (of_sheet s) h i) ≡ min (left_by_step3 (of_sheet s) i) (sum_to (Sheet.holders s) (λ h. pre_ra_claim (of_sheet s) h i))
  sheet-pre-ra-total i l = pre-ra-total (of_sheet s) (valid-sheet s e) (standing s e).pre-ra-bound i l

  pub sheet-new-use-total : (i : ℕ) → i < Sheet.interties s →
      sum_to (Sheet.holders s) (λ h. new_use_granted (of_sheet s) h i) ≡ min (left_by_step4a (of_sheet s) i) (sum_to (Sheet.holders s) (λ h. new_use_claim (of_sheet s) h i))
  sheet-new-use-total i l = new-use-total (of_sheet s) (valid-sheet s e) i l
