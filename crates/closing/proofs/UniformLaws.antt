-- A closing is one share-out in stages 1 to 3 alike: nothing is pending in stage 1, so sharing out grants nothing there.
use Prim.Native.Nat.{ℕ, ◌≤◌, ◌<◌}
use mathlib.Core.Path.{◌≡◌, refl, sym, ◌∙◌}
use mathlib.Core.Bool.{false}
use mathlib.Core.List.{List}
use mathlib.Core.Logic.{◌≢◌, inl}
use native.Mathlib.Omega.{arith}
use lib.Dec.{eqb}
use borrow.Author.Tests.{eqb-false}
use Rattle.base.specs.Words.{at}
use Rattle.base.proofs.ChoiceLaws.{pick-by, or_left, or_right}
use Rattle.base.proofs.SumLaws.{sum_to-zeros}
use Rattle.intertie_shares.specs.Rule.{share_out_on, grant_on, kw_over, passes_over}
use Rattle.intertie_shares.proofs.HolderLaws.{Kept}
use Rattle.intertie_shares.proofs.IntertieLaws.{kept_on, passes-most}
use Rattle.state.specs.Layout.{interties, holders, stage_of, unassigned_of, pending_of}
use Rattle.state.proofs.OrderlyLaws.{Orderly, no-pair-pending}
use Rattle.weights.specs.Weight.{weight_of}
use Rattle.closing.specs.Close.{shares_out, close_grant, close_kw, close_passes}

-- what the share-out on intertie i keeps
pub shared_kept : (s : List ℕ) (i : ℕ) → Kept (holders s) (unassigned_of s i) (λ h. pending_of s h i) (share_out_on (holders s) (unassigned_of s) (pending_of s) (weight_of s) i)
shared_kept s i = kept_on (holders s) (unassigned_of s) (pending_of s) (weight_of s) i

module _ (s : List ℕ) (o : Orderly s) (most : stage_of s ≤ 3) where
  -- a stage in which nothing is shared out has nothing pending
  no-claim : shares_out s ≡ false → (h i : ℕ) → h < holders s → i < interties s → pending_of s h i ≡ 0
  no-claim f h i p q =
      let second : stage_of s ≢ 2 = eqb-false (stage_of s) 2 (or_left (eqb (stage_of s) 2) (eqb (stage_of s) 3) f) in
      let third : stage_of s ≢ 3 = eqb-false (stage_of s) 3 (or_right (eqb (stage_of s) 2) (eqb (stage_of s) 3) f) in
      let first : stage_of s ≡ 1 = omega (arith, o.stage-least) in
      no-pair-pending o (inl first) h i p q

  -- so the share-out grants nothing, in no pass
  no-grant : shares_out s ≡ false → (h i : ℕ) → h < holders s → i < interties s → grant_on (holders s) (unassigned_of s) (pending_of s) (weight_of s) h i ≡ 0
  no-grant f h i p q = omega (arith, (shared_kept s i).within h p, no-claim f h i p q)

  no-kw : shares_out s ≡ false → kw_over (holders s) (unassigned_of s) (pending_of s) (weight_of s) (interties s) ≡ 0
  no-kw f =
      sum_to-zeros (interties s) (λ i. (share_out_on (holders s) (unassigned_of s) (pending_of s) (weight_of s) i).answer.kw)
      (λ i q.
      (shared_kept s i).kw
      ∙ sum_to-zeros (holders s) (at (share_out_on (holders s) (unassigned_of s) (pending_of s) (weight_of s) i).output) (λ h p. no-grant f h i p q))

  no-passes : shares_out s ≡ false → passes_over (holders s) (unassigned_of s) (pending_of s) (weight_of s) (interties s) ≡ 0
  no-passes f = omega (arith, passes-most (holders s) (unassigned_of s) (pending_of s) (weight_of s) (interties s), no-kw f)

  -- what a closing grants, its kW and its passes are the share-outs'
  pub uniform-grant : (h i : ℕ) → h < holders s → i < interties s → close_grant s h i ≡ grant_on (holders s) (unassigned_of s) (pending_of s) (weight_of s) h i
  unfolding close_grant
  uniform-grant h i p q =
      pick-by (λ g. g ≡ grant_on (holders s) (unassigned_of s) (pending_of s) (weight_of s) h i) (shares_out s) _ _
      (λ t. refl)
      (λ f. sym (no-grant f h i p q))

  pub uniform-kw : close_kw s ≡ kw_over (holders s) (unassigned_of s) (pending_of s) (weight_of s) (interties s)
  unfolding close_kw
  uniform-kw =
      pick-by (λ g. g ≡ kw_over (holders s) (unassigned_of s) (pending_of s) (weight_of s) (interties s)) (shares_out s) _ _
      (λ t. refl)
      (λ f. sym (no-kw f))

  pub uniform-passes : close_passes s ≡ passes_over (holders s) (unassigned_of s) (pending_of s) (weight_of s) (interties s)
  unfolding close_passes
  uniform-passes =
      pick-by (λ g. g ≡ passes_over (holders s) (unassigned_of s) (pending_of s) (weight_of s) (interties s)) (shares_out s) _ _
      (λ t. refl)
      (λ f. sym (no-passes f))
