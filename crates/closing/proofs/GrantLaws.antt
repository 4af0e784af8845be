-- What a closing grants: within what is pending and unassigned, and so within what is unplaced.
use Prim.Native.Nat.{ℕ, ◌≤◌, ◌<◌, zero-le}
use mathlib.Core.Path.{◌≡◌, refl, sym, ap, ◌∙◌}
use mathlib.Core.List.{List}
use native.Mathlib.Nat.{le_trans}
use Rattle.base.specs.Choice.{pick}
use Rattle.base.specs.Sums.{sum_to}
use Rattle.base.proofs.ChoiceLaws.{pick-by, sum_to-pick}
use Rattle.base.proofs.SumLaws.{sum_to-same, sum_to-le, sum_to-zeros}
use Rattle.intertie_shares.specs.Rule.{share_out_on, grant_on}
use Rattle.state.specs.Layout.{interties, holders, unassigned_of, unplaced_of, pending_of}
use Rattle.state.proofs.OrderlyLaws.{Orderly}
use Rattle.weights.specs.Weight.{weight_of}
use Rattle.closing.specs.Close.{shares_out, close_grant, close_kw, granted_to, granted_on}
use Rattle.closing.proofs.UniformLaws.{shared_kept}

module _ (s : List ℕ) where
  -- the kW that the share-out on intertie i answers
  abbrev shared_kw : ℕ → ℕ
  shared_kw i = (share_out_on (holders s) (unassigned_of s) (pending_of s) (weight_of s) i).answer.kw

  -- no grant is above what is pending
  pub grant-within : (h i : ℕ) → h < holders s → close_grant s h i ≤ pending_of s h i
  unfolding close_grant
  grant-within h i p =
      pick-by (λ g. g ≤ pending_of s h i) (shares_out s) _ _
      (λ t. (shared_kept s i).within h p)
      (λ f. zero-le)

  -- all grants on an intertie are its share-out's kW, where one is made
  granted-on-is : (i : ℕ) → granted_on s i ≡ pick (shares_out s) (shared_kw i) 0
  unfolding close_grant
  granted-on-is i =
      sum_to-pick (holders s) (shares_out s) (λ h. grant_on (holders s) (unassigned_of s) (pending_of s) (weight_of s) h i) (λ h. 0)
      ∙ ap (λ (k : ℕ). pick (shares_out s) k (sum_to (holders s) (λ h. 0))) (sym (shared_kept s i).kw)
      ∙ ap (λ (k : ℕ). pick (shares_out s) (shared_kw i) k) (sum_to-zeros (holders s) (λ h. 0) (λ h l. refl))

  -- they are no more than is unassigned there
  pub granted-on-most : (i : ℕ) → granted_on s i ≤ unassigned_of s i
  granted-on-most i =
      rw (granted-on-is i)
      (pick-by (λ k. k ≤ unassigned_of s i) (shares_out s) (shared_kw i) 0
      (λ t. (shared_kept s i).pooled)
      (λ f. zero-le))

  -- the kW of the answer are all grants together
  pub close-kw : close_kw s ≡ sum_to (interties s) (granted_on s)
  unfolding close_kw
  close-kw =
      sym
      (sum_to-same (interties s) (granted_on s) (λ i. pick (shares_out s) (shared_kw i) 0) (λ i l. granted-on-is i)
      ∙ sum_to-pick (interties s) (shares_out s) shared_kw (λ i. 0)
      ∙ ap (λ (k : ℕ). pick (shares_out s) (sum_to (interties s) shared_kw) k) (sum_to-zeros (interties s) (λ i. 0) (λ i l. refl)))

  -- what a holder is granted is within its pending, and so within its unplaced
  pub granted-to-pending : (h : ℕ) → h < holders s → granted_to s h ≤ sum_to (interties s) (λ i. pending_of s h i)
  granted-to-pending h p = sum_to-le (interties s) (λ i. close_grant s h i) (λ i. pending_of s h i) (λ i l. grant-within h i p)

  pub granted-to-most : Orderly s → (h : ℕ) → h < holders s → granted_to s h ≤ unplaced_of s h
  granted-to-most o h p = le_trans (granted-to-pending h p) (o.pending-most h p)
