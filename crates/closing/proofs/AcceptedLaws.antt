-- A closing's share-outs are never refused in an orderly state. So on each intertie all that can be granted is granted: what is pending there, or all that is unassigned where that is less.
use Prim.Native.Nat.{ℕ, ◌*◌, ◌≤◌, ◌<◌, min}
use mathlib.Core.Path.{◌≡◌, sym, ◌∙◌}
use mathlib.Core.List.{List}
use native.Mathlib.Nat.{mul_comm, mul-le-mul_left, div-le_of_le-mul}
use native.Mathlib.Omega.{arith}
use lib.Dec.{eqb}
use Rattle.base.specs.Sums.{sum_to}
use Rattle.base.proofs.ChoiceLaws.{pick-by}
use Rattle.base.proofs.SumLaws.{sum_to-same, sum_to-le, sum_to-scale}
use Rattle.intertie_shares.specs.Rule.{share_out_on, grant_on}
use Rattle.intertie_shares.proofs.HolderLaws.{Ranged, Made}
use Rattle.intertie_shares.proofs.IntertieLaws.{made-on}
use Rattle.state.specs.Layout.{interties, holders, load_share_of, stage_of, unassigned_of, sellers_of, pending_of}
use Rattle.state.proofs.OrderlyLaws.{Orderly, unassigned-most, unplaced-most, pair-pending-most}
use Rattle.weights.specs.Weight.{seller_bit, sellers_count, sellers_load, average_load, weight_of}
use Rattle.closing.specs.Close.{close_grant, close_kw, granted_on}
use Rattle.closing.proofs.UniformLaws.{shared_kept, uniform-grant}
use Rattle.closing.proofs.GrantLaws.{close-kw}

module _ {s : List ℕ} (o : Orderly s) where
  -- the sellers' load shares together: at most 100,000,000 for each seller
  sellers-load-most : (h : ℕ) → sellers_load s h ≤ sellers_count s h * 100000000
  unfolding sellers_load sellers_count
  sellers-load-most h =
      let bit : ℕ → ℕ = λ j. seller_bit (sellers_of s h) j in
      let each : (j : ℕ) → j < holders s → bit j * load_share_of s j ≤ 100000000 * bit j =
      λ j l. omega (arith, mul-le-mul_left (bit j) (o.load-share-most j l), mul_comm (bit j) 100000000) in
      omega (
        arith,
        sum_to-le (holders s) (λ j. bit j * load_share_of s j) (λ j. 100000000 * bit j) each,
        sum_to-scale (holders s) 100000000 bit,
      )

  average-most : (h : ℕ) → average_load s h ≤ 100000000
  unfolding average_load
  average-most h = div-le_of_le-mul (sellers_count s h) (sellers-load-most h)

  -- no weight is above 100,000,000
  pub weight-most : (h : ℕ) → h < holders s → weight_of s h ≤ 100000000
  unfolding weight_of
  weight-most h l =
      pick-by (λ w. w ≤ 100000000) (eqb (load_share_of s h) 0) (average_load s h) (load_share_of s h)
      (λ t. average-most h)
      (λ f. o.load-share-most h l)

  -- a pair's pending is within its holder's unplaced, and so at most 960,000,000
  pub pending-bound : (h i : ℕ) → h < holders s → i < interties s → pending_of s h i ≤ 960000000
  pending-bound h i k l = omega (arith, pair-pending-most o h i k l, unplaced-most o h k)

  -- the numbers of each share-out are in range
  pub closing-ranged : (i : ℕ) → i < interties s → Ranged (holders s) (unassigned_of s i) (λ h. pending_of s h i) (weight_of s)
  closing-ranged i l =
      record {
        few = o.holders-most;
        pooled = unassigned-most o i l;
        claimed = λ h k. omega (arith, pending-bound h i k l);
        weighed = weight-most;
      }

  closing-made : (i : ℕ) → i < interties s →
      Made (holders s) (unassigned_of s i) (λ h. pending_of s h i) (share_out_on (holders s) (unassigned_of s) (pending_of s) (weight_of s) i)
  closing-made i l = made-on (holders s) (unassigned_of s) (pending_of s) (weight_of s) i (closing-ranged i l)

  -- no share-out of a closing is refused
  pub closing-accepted : (i : ℕ) → i < interties s →
      (share_out_on (holders s) (unassigned_of s) (pending_of s) (weight_of s) i).answer.refusal ≡ 0
  closing-accepted i l = (closing-made i l).accepted

  -- what a closing grants on an intertie, in stages 1 to 3: all that is pending there, or all that is unassigned where that is less. So nothing that could be granted is left. In stage 1 nothing is pending, and both are 0.
  pub closing-total : stage_of s ≤ 3 → (i : ℕ) → i < interties s →
      granted_on s i ≡ min (unassigned_of s i) (sum_to (holders s) (λ h. pending_of s h i))
  closing-total most i l =
      sum_to-same (holders s) (λ h. close_grant s h i) (λ h. grant_on (holders s) (unassigned_of s) (pending_of s) (weight_of s) h i)
      (λ h k. uniform-grant s o most h i k l)
      ∙ sym (shared_kept s i).kw
      ∙ (closing-made i l).total

  -- and the kW of its answer, over all interties
  pub closing-kw : stage_of s ≤ 3 → close_kw s ≡ sum_to (interties s) (λ i. min (unassigned_of s i) (sum_to (holders s) (λ h. pending_of s h i)))
  closing-kw most =
      close-kw s
      ∙ sum_to-same (interties s) (granted_on s) (λ i. min (unassigned_of s i) (sum_to (holders s) (λ h. pending_of s h i)))
      (λ i l. closing-total most i l)
