-- The share-outs of Steps 4a and 4b are never refused. So on each intertie all that can be granted is granted: what is claimed there, or all that the step before left where that is less.
use Prim.Native.Nat.{ℕ, ◌≤◌, ◌<◌, min}
use mathlib.Core.Path.{◌≡◌, sym, ◌∙◌}
use native.Mathlib.Nat.{mul_comm, mul-le-mul_left, div-le_of_le-mul}
use native.Mathlib.Omega.{arith}
use Rattle.base.specs.Sums.{sum_to}
use Rattle.base.specs.Words.{tab}
use Rattle.base.proofs.SumLaws.{sum_to-term}
use Rattle.intertie_shares.proofs.HolderLaws.{kept, Ranged, Made, made}
use Rattle.step_4b.proofs.Promise as NewUse
use Rattle.steps.specs.Inputs.{Inputs}
use Rattle.steps.specs.Valid.{Valid}
use Rattle.steps.specs.Step2.{available_total, all_load_shares, load_share_quantity}
use Rattle.steps.specs.Step4a.{left_by_step3, pre_ra_claim, pre_ra_shared, pre_ra_granted, left_by_step4a}
use Rattle.steps.specs.Step4b.{allowance, cover, new_use_kept, new_use_claim, new_use_shared, new_use_granted}
use Rattle.steps.proofs.BoundLaws.{available-most, total-most}

-- what stays of a holder's New Use kW on an intertie is within its allowance
pub claim-allowed : (y : Inputs) (h i : ℕ) → new_use_claim y h i ≤ allowance y h
unfolding new_use_claim new_use_kept
claim-allowed y h i =
    omega (arith, (NewUse.promise (tab 256 (y.new_use_kw h)) (tab 256 (y.new_use_intertie h)) (allowance y h) (cover y h) 48).each i)

module _ (y : Inputs) (v : Valid y) where
  -- a Load Share Quantity is at most T, and so at most 960,000,000
  pub quantity-within : (h : ℕ) → h < y.holders → load_share_quantity y h ≤ available_total y
  unfolding load_share_quantity all_load_shares
  quantity-within h l =
      let all : ℕ = sum_to y.holders y.load_share in
      div-le_of_le-mul all
      (omega (
        arith,
        mul-le-mul_left (available_total y) (sum_to-term y.holders y.load_share h l),
        mul_comm (available_total y) all,
      ))

  pub quantity-most : (h : ℕ) → h < y.holders → load_share_quantity y h ≤ 960000000
  quantity-most h l = omega (arith, quantity-within h l, total-most y v)

  -- a New Use claim is within the allowance, which is within the Load Share Quantity
  pub new-use-claim-most : (h i : ℕ) → h < y.holders → new_use_claim y h i ≤ 960000000
  unfolding allowance
  new-use-claim-most h i l = omega (arith, claim-allowed y h i, quantity-most h l)

  -- what is shared out on an intertie
  pub left3-most : (i : ℕ) → i < y.interties → left_by_step3 y i ≤ 20000000
  unfolding left_by_step3
  left3-most i l = omega (arith, available-most y v i l)

  pub left4a-most : (i : ℕ) → i < y.interties → left_by_step4a y i ≤ 20000000
  unfolding left_by_step4a
  left4a-most i l = omega (arith, left3-most i l)

  -- Step 4b: the numbers are in range, whatever the New Use records are
  pub new-use-ranged : (i : ℕ) → i < y.interties → Ranged y.holders (left_by_step4a y i) (λ h. new_use_claim y h i) y.load_share
  new-use-ranged i l =
      record {
        few = v.holders-most;
        pooled = left4a-most i l;
        claimed = λ h k. omega (arith, new-use-claim-most h i k);
        weighed = v.load-share-most;
      }

  new-use-made : (i : ℕ) → i < y.interties → Made y.holders (left_by_step4a y i) (λ h. new_use_claim y h i) (new_use_shared y i)
  unfolding new_use_shared
  new-use-made i l = made y.holders (left_by_step4a y i) (λ h. new_use_claim y h i) y.load_share (new-use-ranged i l)

  -- it is not refused
  pub new-use-accepted : (i : ℕ) → i < y.interties → (new_use_shared y i).answer.refusal ≡ 0
  new-use-accepted i l = (new-use-made i l).accepted

  -- and all N on an intertie are all that is claimed there, or all that 4a left where that is less
  pub new-use-total : (i : ℕ) → i < y.interties →
      sum_to y.holders (λ h. new_use_granted y h i) ≡ min (left_by_step4a y i) (sum_to y.holders (λ h. new_use_claim y h i))
  unfolding new_use_granted new_use_shared
  new-use-total i l =
      sym (kept y.holders (left_by_step4a y i) (λ h. new_use_claim y h i) y.load_share).kw
      ∙ (new-use-made i l).total

  -- Step 4a, where the Pre-RA kW of each pair are at most 1,024 records of 20,000,000
  module _ (bound : (h i : ℕ) → y.pre_ra h i ≤ 20480000000) where
    pub pre-ra-ranged : (i : ℕ) → i < y.interties → Ranged y.holders (left_by_step3 y i) (λ h. pre_ra_claim y h i) y.load_share
    unfolding pre_ra_claim
    pre-ra-ranged i l =
        record {
          few = v.holders-most;
          pooled = left3-most i l;
          claimed = λ h k. omega (arith, bound h i);
          weighed = v.load-share-most;
        }

    pre-ra-made : (i : ℕ) → i < y.interties → Made y.holders (left_by_step3 y i) (λ h. pre_ra_claim y h i) (pre_ra_shared y i)
    unfolding pre_ra_shared
    pre-ra-made i l = made y.holders (left_by_step3 y i) (λ h. pre_ra_claim y h i) y.load_share (pre-ra-ranged i l)

    -- it is not refused
    pub pre-ra-accepted : (i : ℕ) → i < y.interties → (pre_ra_shared y i).answer.refusal ≡ 0
    pre-ra-accepted i l = (pre-ra-made i l).accepted

    -- and all P on an intertie are all that is claimed there, or all that Step 3 left where that is less
    pub pre-ra-total : (i : ℕ) → i < y.interties →
        sum_to y.holders (λ h. pre_ra_granted y h i) ≡ min (left_by_step3 y i) (sum_to y.holders (λ h. pre_ra_claim y h i))
    unfolding pre_ra_granted pre_ra_shared
    pre-ra-total i l =
        sym (kept y.holders (left_by_step3 y i) (λ h. pre_ra_claim y h i) y.load_share).kw
        ∙ (pre-ra-made i l).total
