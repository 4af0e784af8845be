-- Laws of a holder over the passes: what its weight keeps it from, and what it is sure of.
use Prim.Native.Nat.{ℕ, ◌+◌, ◌-◌, ◌*◌, ◌/◌, ◌≤◌, ◌<◌}
use mathlib.Core.Path.{◌≡◌, refl, sym, ap, ◌∙◌}
use mathlib.Core.Bool.{Bool, true, false, ◌&&◌}
use mathlib.Core.List.{List}
use mathlib.Core.Logic.{◌⊎◌, inl, inr, ⊎_elim}
use native.Mathlib.Nat.{le_refl, eq-zero-or-pos, mul-zero, zero-div, div-zero}
use native.Mathlib.Omega.{arith}
use lib.ListN.{length}
use lib.Dec.{ltb, eqb}
use borrow.Author.Tests.{lt-ltb, eqb-true}
use Rattle.base.specs.Choice.{pick}
use Rattle.base.specs.Sums.{sum_to}
use Rattle.base.specs.Words.{at}
use Rattle.base.proofs.ChoiceLaws.{pick-by, pick_true}
use Rattle.base.proofs.SumLaws.{sum_to-same, sum_to-none, sum_to-zeros}
use Rattle.share_out.specs.Pass.{unmet, is_open, open_weight, open_weights, by_weight, one_each, pass_kw, pass_total, pass_grants}
use Rattle.share_out.specs.Workers.Fit.{none}
use Rattle.share_out.proofs.PassLaws.{open-both, open-unmet, open-weight, by_weight-is, at-pass_grants}
use Rattle.share_out.proofs.RunLaws.{at_none}

module _ (claims weights : List ℕ) where
  -- with none open, none opens again
  stays_closed : (R : ℕ) (g : List ℕ) → open_weights claims weights g ≡ 0 → open_weights claims weights (pass_grants claims weights R g) ≡ 0
  unfolding open_weights
  stays_closed R g z =
      sum_to-zeros (length claims) _
      (λ i l.
      pick-by (λ x. x ≡ 0) (is_open claims weights (pass_grants claims weights R g) i) (at weights i) 0
      (λ t.
      let now : 0 < unmet claims (pass_grants claims weights R g) i = open-unmet claims weights (pass_grants claims weights R g) i t in
      let before : is_open claims weights g i ≡ true =
      open-both claims weights g i (omega (arith, at-pass_grants claims weights R g i l)) (open-weight claims weights (pass_grants claims weights R g) i t) in
      sym (pick_true (is_open claims weights g i) (at weights i) 0 before)
      ∙ sum_to-none (length claims) (open_weight claims weights g) z i l)
      (λ f. refl))

  -- a holder of weight 0 gets nothing while another is open
  weightless : (R : ℕ) (g : List ℕ) (i : ℕ) → at weights i ≡ 0 → pass_kw claims weights R g i ≡ 0 ⊎ open_weights claims weights g ≡ 0
  unfolding pass_kw one_each
  weightless R g i w =
      pick-by (λ x. x ≡ 0 ⊎ open_weights claims weights g ≡ 0) (eqb (open_weights claims weights g) 0) _ _
      (λ t. inr (eqb-true (open_weights claims weights g) 0 t))
      (λ f.
      inl
      (pick-by (λ x. x ≡ 0) (eqb (sum_to (length claims) (by_weight claims weights R g)) 0) _ _
      (λ t.
      let closed : pick {A = ℕ} (is_open claims weights g i) 1 0 ≡ 0 =
      pick-by (λ x. x ≡ 0) (is_open claims weights g i) 1 0
      (λ o. absurd (omega (arith, open-weight claims weights g i o)))
      (λ c. refl) in
      omega arith)
      (λ f.
      let d : R * at weights i / open_weights claims weights g ≡ 0 = rw (w, mul-zero, zero-div) in
      by_weight-is claims weights R g i ∙ (omega arith))))

  -- where a holder of weight 0 has a grant, none is open
  abbrev pub Weightless : ℕ → ℕ → List ℕ → Type 0
  Weightless made R g = (i : ℕ) → i < length claims → at weights i ≡ 0 → 0 < at g i → open_weights claims weights g ≡ 0

  pub weightless-kept : (made R : ℕ) (g : List ℕ) → Weightless made R g →
      Weightless (made + 1) (R - pass_total claims weights R g) (pass_grants claims weights R g)
  weightless-kept made R g p i l w some =
      ⊎_elim
      (λ (z : pass_kw claims weights R g i ≡ 0). stays_closed R g (p i l w (omega (arith, at-pass_grants claims weights R g i l))))
      (λ (z : open_weights claims weights g ≡ 0). stays_closed R g z)
      (weightless R g i w)

  -- a pass gives at least the part by weight
  pub by_weight-least : (R : ℕ) (g : List ℕ) (i : ℕ) → i < length claims → by_weight claims weights R g i ≤ pass_kw claims weights R g i
  unfolding pass_kw
  by_weight-least R g i l =
      pick-by (λ x. by_weight claims weights R g i ≤ x) (eqb (open_weights claims weights g) 0) _ _
      (λ t.
      let d : R * at weights i / open_weights claims weights g ≡ 0 = rw (eqb-true (open_weights claims weights g) 0 t, div-zero) in
      omega (arith, by_weight-is claims weights R g i))
      (λ f.
      pick-by (λ x. by_weight claims weights R g i ≤ x) (eqb (sum_to (length claims) (by_weight claims weights R g)) 0) _ _
      (λ t.
      omega (arith, sum_to-none (length claims) (by_weight claims weights R g) (eqb-true (sum_to (length claims) (by_weight claims weights R g)) 0 t) i l))
      (λ f. le_refl (by_weight claims weights R g i)))

-- the weights of all holders with a claim
abbrev pub claim_weights : List ℕ → List ℕ → ℕ
claim_weights claims weights = sum_to (length claims) (λ i. pick (ltb 0 (at claims i)) (at weights i) 0)

module _ (claims weights : List ℕ) where
  -- before the first pass all holders with a claim and a weight are open
  pub open_weights-first : open_weights claims weights (none claims) ≡ claim_weights claims weights
  unfolding open_weights is_open
  open_weights-first =
      sum_to-same (length claims) _ _
      (λ i l.
      let same : unmet claims (none claims) i ≡ at claims i = omega (arith, at_none claims weights i l) in
      ap (λ (u : ℕ). pick (ltb 0 u && ltb 0 (at weights i)) (at weights i) 0) same
      ∙ ⊎_elim
      (λ (z : at weights i ≡ 0). rw z (both (ltb 0 (at claims i))))
      (λ (p : 0 < at weights i). rw (lt-ltb 0 (at weights i) p) (left (ltb 0 (at claims i)) (at weights i)))
      (eq-zero-or-pos (at weights i)))
    where
      both : (b : Bool) → pick {A = ℕ} (b && ltb 0 0) 0 0 ≡ pick b 0 0
      both true = refl
      both false = refl

      left : (b : Bool) (w : ℕ) → pick {A = ℕ} (b && true) w 0 ≡ pick b w 0
      left true w = refl
      left false w = refl
