-- Laws of the shares once no round excludes any more: each is at least 0 before it is stored, and together they are within what remains.
use Prim.Native.Nat.{ℕ, ◌+◌, ◌*◌, ◌/◌, ◌≤◌, ◌<◌}
use mathlib.Core.Path.{◌≡◌, refl, sym, ◌∙◌}
use mathlib.Core.Bool.{Bool, true, false, ◌&&◌}
use mathlib.Core.List.{List}
use mathlib.Core.Logic.{⊎_elim}
use native.Mathlib.Nat.{le_trans, le_of_eq, eq-zero-or-pos, mul-zero, mul_comm, div-zero, div-mul-le_self, le_of_mul-le-mul_right, le-div_iff_mul-le, le_of_lt}
use native.Mathlib.Omega.{arith}
use lib.ListN.{length}
use lib.Dec.{eqb, leb}
use borrow.Author.Tests.{eq-eqb, ne_eqb, leb-false}
use Rattle.base.specs.Choice.{pick}
use Rattle.base.specs.Sums.{sum_to}
use Rattle.base.specs.Words.{at}
use Rattle.base.proofs.ChoiceLaws.{pick-by, pick_true}
use Rattle.base.proofs.SumLaws.{sum_to-same, sum_to-le, sum_to-add, sum_to-scale, sum_to-none, sum_to-term, sum_to-zeros}
use Rattle.step_5.specs.Round.{eligible, excluded, together, gross_remaining, eligible_loads, excludes, newly_excluded}
use Rattle.step_5.specs.Shares.{share_of}
use Rattle.step_5.specs.Workers.Fit.{Marks}
use Rattle.step_5.proofs.RoundLaws.{Settled}

-- what all have together is what the excluded and the eligible have
pub held-split : (n : ℕ) (x l : List ℕ) → Marks n x → sum_to n (at l) ≡ together n excluded x l + together n eligible x l
held-split n x l m =
    sum_to-same n (at l) (λ i. pick (eqb (at x i) excluded) (at l i) 0 + pick (eqb (at x i) eligible) (at l i) 0)
    (λ i h.
    ⊎_elim
    (λ (z : at x i ≡ 0). rw z (omega arith))
    (λ (p : 0 < at x i).
    let one : at x i ≡ 1 = omega (arith, m.each i h) in
    rw one (omega arith))
    (eq-zero-or-pos (at x i)))
    ∙ sum_to-add n (λ i. pick (eqb (at x i) excluded) (at l i) 0) (λ i. pick (eqb (at x i) eligible) (at l i) 0)

module _ (total : ℕ) (held loads x : List ℕ) where
  -- an eligible holder's load share is part of V
  pub load-within : (i : ℕ) → i < length held → at x i ≡ eligible → at loads i ≤ eligible_loads held loads x
  unfolding eligible_loads
  load-within i l e =
      rw (pick_true (eqb (at x i) eligible) (at loads i) 0 (eq-eqb (at x i) eligible e)) at
      (sum_to-term (length held) (λ j. pick (eqb (at x j) eligible) (at loads j) 0) i l)

  -- G × load share / V rounded down, for an eligible holder
  abbrev pub quota : ℕ → ℕ
  quota i = gross_remaining total held x * at loads i / eligible_loads held loads x

  -- the quotas of the eligible together are within G
  quotas-within : sum_to (length held) (λ i. pick (eqb (at x i) eligible) (quota i) 0) ≤ gross_remaining total held x
  unfolding eligible_loads
  quotas-within =
      let n : ℕ = length held in
      let G : ℕ = gross_remaining total held x in
      let all : ℕ = eligible_loads held loads x in
      let given : ℕ = sum_to n (λ i. pick (eqb (at x i) eligible) (quota i) 0) in
      ⊎_elim
      (λ (z : all ≡ 0).
      let none : given ≡ 0 =
      sum_to-zeros n _ (λ i l. pick-by (λ k. k ≡ 0) (eqb (at x i) eligible) (quota i) 0 (λ t. rw (z, div-zero)) (λ f. refl)) in
      omega arith)
      (λ (p : 0 < all).
      let scaled : all * given ≤ G * all =
      le_trans (le_of_eq (sym (sum_to-scale n all (λ i. pick (eqb (at x i) eligible) (quota i) 0))))
      (le_trans
      (sum_to-le n (λ i. all * pick (eqb (at x i) eligible) (quota i) 0) (λ i. G * pick (eqb (at x i) eligible) (at loads i) 0)
      (λ i l. part (eqb (at x i) eligible) G all (at loads i)))
      (le_of_eq (sum_to-scale n G (λ i. pick (eqb (at x i) eligible) (at loads i) 0)))) in
      le_of_mul-le-mul_right (rw (mul_comm all given) at scaled) p)
      (eq-zero-or-pos all)
    where
      part : (b : Bool) (G all load : ℕ) → all * pick b (G * load / all) 0 ≤ G * pick b load 0
      part true G all load = omega (arith, div-mul-le_self (G * load) all)
      part false G all load = omega arith

module _ (total : ℕ) (held loads x : List ℕ) (end : Settled total held loads x) where
  -- a holder that stays eligible has held × V below G × load share
  stays-below : (i : ℕ) → i < length held → at x i ≡ eligible → at held i * eligible_loads held loads x < gross_remaining total held x * at loads i
  unfolding newly_excluded excludes
  stays-below i l e =
      let out : Bool = leb (gross_remaining total held x * at loads i) (at held i * eligible_loads held loads x) in
      leb-false _ _
      (kept (eqb (at x i) eligible) out (eq-eqb (at x i) eligible e)
      (sum_to-none (length held) (λ j. pick (excludes total held loads x j) 1 0) end.none i l))
    where
      kept : (b c : Bool) → b ≡ true → pick {A = ℕ} (b && c) 1 0 ≡ 0 → c ≡ false
      kept true true p z = absurd (omega arith)
      kept true false p z = refl
      kept false c p z = absurd (let q : ◌≡◌ {A = ℕ} 0 1 = cc in omega arith)

  -- so its load share, and V, is above 0
  pub divided : (i : ℕ) → i < length held → at x i ≡ eligible → 0 < eligible_loads held loads x
  divided i l e =
      ⊎_elim
      (λ (z : at loads i ≡ 0).
      let none : gross_remaining total held x * at loads i ≡ 0 = rw (z, mul-zero) in
      absurd (omega (arith, stays-below i l e)))
      (λ (p : 0 < at loads i). omega (arith, load-within total held loads x i l e))
      (eq-zero-or-pos (at loads i))

  -- and held is at most its quota
  pub covered : (i : ℕ) → i < length held → at x i ≡ eligible → at held i ≤ quota total held loads x i
  covered i l e = (le-div_iff_mul-le (divided i l e)).1 (le_of_lt (stays-below i l e))

  -- held and share of an eligible holder are its quota
  pub share-held : (i : ℕ) → i < length held →
      share_of total held loads x i + pick (eqb (at x i) eligible) (at held i) 0 ≡ pick (eqb (at x i) eligible) (quota total held loads x i) 0
  unfolding share_of
  share-held i l =
      ⊎_elim
      (λ (e : at x i ≡ 0). rw (eq-eqb (at x i) 0 e) (omega (arith, covered i l e)))
      (λ (p : 0 < at x i). rw (ne_eqb (at x i) 0 (omega arith)) (omega arith))
      (eq-zero-or-pos (at x i))

  -- the shares and what the eligible hold are within G
  pub shares-within : sum_to (length held) (share_of total held loads x) + together (length held) eligible x held ≤ gross_remaining total held x
  shares-within =
      le_trans
      (le_of_eq
      (sym (sum_to-add (length held) (share_of total held loads x) (λ i. pick (eqb (at x i) eligible) (at held i) 0))
      ∙ sum_to-same (length held) _ (λ i. pick (eqb (at x i) eligible) (quota total held loads x i) 0) share-held))
      (quotas-within total held loads x)

  -- shares and held together are within T where held is
  pub total-within : sum_to (length held) (at held) ≤ total → sum_to (length held) (share_of total held loads x) + sum_to (length held) (at held) ≤ total
  unfolding gross_remaining
  total-within fits = omega (arith, shares-within, held-split (length held) x held end.marks)

  -- and shares are within T whatever is held
  pub shares-most : sum_to (length held) (share_of total held loads x) ≤ total
  unfolding gross_remaining
  shares-most = omega (arith, shares-within)
