-- What Steps 1 to 7 give is within its ranges, for every sheet that keeps the rules.
use Prim.Native.Nat.{ℕ, ◌+◌, ◌≤◌, ◌<◌}
use mathlib.Core.Path.{◌≡◌, sym, ap, ◌∙◌}
use mathlib.Core.List.{List}
use native.Mathlib.Nat.{le_trans, mul-le-mul_right}
use native.Mathlib.Omega.{arith}
use lib.ListN.{length}
use Rattle.base.specs.Sums.{sum_to}
use Rattle.base.specs.Words.{at, tab}
use Rattle.base.proofs.SumLaws.{sum_to-same, sum_to-add, sum_to-bound, sum_to-term}
use Rattle.base.proofs.WordLaws.{at-tab, length-tab}
use Rattle.intertie_shares.proofs.HolderLaws.{Kept, kept}
use Rattle.step_5.specs.Shares.{step5_shares}
use Rattle.step_5.proofs.Promise as Step5
use Rattle.steps.specs.Inputs.{Inputs}
use Rattle.steps.specs.Valid.{Valid}
use Rattle.steps.specs.Step2.{available, available_total}
use Rattle.steps.specs.Step4a.{existing_on, left_by_step3, pre_ra_claim, pre_ra_shared, pre_ra_granted, left_by_step4a}
use Rattle.steps.specs.Step4b.{new_use_claim, new_use_shared, new_use_granted}
use Rattle.steps.specs.Step5to7.{held_on, held, reserved_on, step5_share, step7_total, unassigned}
use Rattle.steps.proofs.SwapLaws.{sum_to-swap}

module _ (y : Inputs) where
  kept-4a : (i : ℕ) → Kept y.holders (left_by_step3 y i) (λ h. pre_ra_claim y h i) (pre_ra_shared y i)
  unfolding pre_ra_shared
  kept-4a i = kept y.holders (left_by_step3 y i) (λ h. pre_ra_claim y h i) y.load_share

  kept-4b : (i : ℕ) → Kept y.holders (left_by_step4a y i) (λ h. new_use_claim y h i) (new_use_shared y i)
  unfolding new_use_shared
  kept-4b i = kept y.holders (left_by_step4a y i) (λ h. new_use_claim y h i) y.load_share

  -- P is at most its claim, and all P on an intertie at most what Step 3 left
  pub pre-ra-claimed : (h i : ℕ) → h < y.holders → pre_ra_granted y h i ≤ pre_ra_claim y h i
  unfolding pre_ra_granted
  pre-ra-claimed h i l = (kept-4a i).within h l

  pub pre-ra-pooled : (i : ℕ) → sum_to y.holders (λ h. pre_ra_granted y h i) ≤ left_by_step3 y i
  unfolding pre_ra_granted
  pre-ra-pooled i = omega (arith, (kept-4a i).kw, (kept-4a i).pooled)

  -- N likewise
  pub new-use-claimed : (h i : ℕ) → h < y.holders → new_use_granted y h i ≤ new_use_claim y h i
  unfolding new_use_granted
  new-use-claimed h i l = (kept-4b i).within h l

  pub new-use-pooled : (i : ℕ) → sum_to y.holders (λ h. new_use_granted y h i) ≤ left_by_step4a y i
  unfolding new_use_granted
  new-use-pooled i = omega (arith, (kept-4b i).kw, (kept-4b i).pooled)

  -- reserved on an intertie: E and P and N
  pub reserved-parts : (i : ℕ) →
      reserved_on y i ≡ existing_on y i + sum_to y.holders (λ h. pre_ra_granted y h i) + sum_to y.holders (λ h. new_use_granted y h i)
  unfolding reserved_on held_on existing_on
  reserved-parts i =
      sum_to-add y.holders (λ h. y.existing h i + pre_ra_granted y h i) (λ h. new_use_granted y h i)
      ∙ ap (λ k. k + sum_to y.holders (λ h. new_use_granted y h i)) (sum_to-add y.holders (λ h. y.existing h i) (λ h. pre_ra_granted y h i))

module _ (y : Inputs) (v : Valid y) where
  pub available-most : (i : ℕ) → i < y.interties → available y i ≤ 20000000
  unfolding available
  available-most i l = omega (arith, v.limit-most i l)

  -- limit = outside + available
  pub limit-parts : (i : ℕ) → i < y.interties → y.limit i ≡ y.outside i + available y i
  unfolding available
  limit-parts i l = omega (arith, v.fits i l)

  existing-available : (i : ℕ) → i < y.interties → existing_on y i ≤ available y i
  unfolding available
  existing-available i l = omega (arith, v.fits i l)

  -- what is reserved on an intertie is within what is available
  pub reserved-available : (i : ℕ) → i < y.interties → reserved_on y i ≤ available y i
  unfolding left_by_step3 left_by_step4a
  reserved-available i l =
      omega (arith, reserved-parts y i, existing-available i l, pre-ra-pooled y i, new-use-pooled y i)

  -- Maximum Import Capability = outside rights + reserved + unassigned
  pub balance : (i : ℕ) → i < y.interties → y.limit i ≡ y.outside i + reserved_on y i + unassigned y i
  unfolding unassigned
  balance i l = omega (arith, limit-parts i l, reserved-available i l)

  pub unassigned-most : (i : ℕ) → i < y.interties → unassigned y i ≤ 20000000
  unfolding unassigned
  unassigned-most i l = omega (arith, available-most i l)

  -- T is at most 960,000,000
  pub total-most : available_total y ≤ 960000000
  unfolding available_total
  total-most =
      le_trans (sum_to-bound y.interties 20000000 (available y) available-most)
      (mul-le-mul_right 20000000 v.interties-most)

  -- all that is held, and all that is unassigned, is T
  pub held-total : sum_to y.holders (held y) + sum_to y.interties (unassigned y) ≡ available_total y
  unfolding held available_total unassigned reserved_on
  held-total =
      ap (λ k. k + sum_to y.interties (unassigned y)) (sum_to-swap y.holders y.interties (held_on y))
      ∙ sym (sum_to-add y.interties (λ i. sum_to y.holders (λ h. held_on y h i)) (unassigned y))
      ∙ sum_to-same y.interties _ (available y) (λ i l. omega (arith, reserved-available i l))

  held-within : sum_to y.holders (held y) ≤ available_total y
  held-within = omega (arith, held-total)

  -- Step 5 as the promise of its crate has it
  held_list : List ℕ
  held_list = tab y.holders (held y)

  held-list : sum_to (length held_list) (at held_list) ≡ sum_to y.holders (held y)
  unfolding held_list
  held-list =
      ap (λ n. sum_to n (at (tab y.holders (held y)))) (length-tab y.holders (held y))
      ∙ sum_to-same y.holders (at (tab y.holders (held y))) (held y) (at-tab y.holders (held y))

  share-list : sum_to (length held_list) (at (step5_shares (available_total y) held_list (tab y.holders y.load_share))) ≡ sum_to y.holders (step5_share y)
  unfolding held_list step5_share
  share-list =
      ap (λ n. sum_to n (at (step5_shares (available_total y) (tab y.holders (held y)) (tab y.holders y.load_share)))) (length-tab y.holders (held y))

  -- the Step 5 shares together are at most what is unassigned
  pub shares-unassigned : sum_to y.holders (step5_share y) ≤ sum_to y.interties (unassigned y)
  shares-unassigned =
      let p = Step5.promise (available_total y) held_list (tab y.holders y.load_share) in
      omega (arith, p.within (omega (arith, held-list, held-within)), held-list, share-list, held-total)

  pub held-most : (h : ℕ) → h < y.holders → held y h ≤ 960000000
  held-most h l = omega (arith, sum_to-term y.holders (held y) h l, held-within, total-most)

  pub share-most : (h : ℕ) → h < y.holders → step5_share y h ≤ 960000000
  share-most h l = omega (arith, sum_to-term y.holders (step5_share y) h l, shares-unassigned, held-total, total-most)

  pub step7-total-most : (h : ℕ) → h < y.holders → step7_total y h ≤ 960000000
  unfolding step7_total
  step7-total-most h l =
      omega (
        arith,
        sum_to-term y.holders (held y) h l,
        sum_to-term y.holders (step5_share y) h l,
        shares-unassigned,
        held-total,
        total-most,
      )

  -- a pair's E, P and N are within its intertie's limit
  pub held-on-most : (h i : ℕ) → h < y.holders → i < y.interties → held_on y h i ≤ 20000000
  unfolding reserved_on
  held-on-most h i k l =
      omega (arith, sum_to-term y.holders (λ j. held_on y j i) h k, reserved-available i l, available-most i l)
