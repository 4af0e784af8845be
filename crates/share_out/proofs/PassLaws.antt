-- Laws of one pass: what it gives a holder is within the unmet claim, and what it gives all is within the pool and above 0.
use Prim.Native.Nat.{ℕ, zero, suc, ◌+◌, ◌-◌, ◌*◌, ◌/◌, ◌≤◌, ◌<◌, min, zero-le}
use mathlib.Core.Path.{◌≡◌, refl, sym, ap, ◌∙◌}
use mathlib.Core.Bool.{Bool, true, false, ◌&&◌}
use mathlib.Core.List.{List}
use mathlib.Core.Logic.{⊎_elim}
use native.Mathlib.Nat.{le_refl, le_trans, le_of_eq, min-le_left, min-le_right, mul-zero, zero-mul, zero-div, div-zero, mul_comm, mul-one, mul-suc, mul-le-mul_left, mul-le-mul_right, div-mul-le_self, lt-div-mul-add, le_of_mul-le-mul_right, eq-zero-or-pos, pos_of_ne-zero}
use native.Mathlib.Omega.{arith}
use native.Mathlib.Decide.{dec_lt}
use lib.ListN.{length}
use lib.Dec.{ltb, eqb}
use borrow.Author.Tests.{lt-ltb, le-ltb, eq-eqb, eqb-false, ltb-true}
use Rattle.base.specs.Choice.{pick}
use Rattle.base.specs.Sums.{sum_to}
use Rattle.base.specs.Words.{at}
use Rattle.base.proofs.ChoiceLaws.{pick-by, sum_to-pick, and_left, and_right, and_both}
use Rattle.base.proofs.SumLaws.{sum_to-same, sum_to-le, sum_to-add, sum_to-scale, sum_to-none, sum_to-zeros, sum_to-suc, sum_to-zero}
use Rattle.base.proofs.WordLaws.{at-tab, length-tab}
use Rattle.share_out.specs.Turn.{in_turn}
use Rattle.share_out.specs.Pass.{unmet, is_open, open_weight, open_weights, by_weight, one_each, unweighted, pass_kw, pass_total, pass_grants}

-- serving in turn gives the smaller of the pool and what is wanted
pub in_turn-sum : (pool : ℕ) (want : ℕ → ℕ) (k : ℕ) → sum_to k (in_turn pool want) ≡ min pool (sum_to k want)
in_turn-sum pool want zero = rw (sum_to-zero (in_turn pool want), sum_to-zero want) (omega arith)
in_turn-sum pool want (suc k) =
    let ih : sum_to k (in_turn pool want) ≡ min pool (sum_to k want) = in_turn-sum pool want k in
    omega (arith, sum_to-suc k (in_turn pool want), sum_to-suc k want)

-- the weight that a holder brings into W, as the code decides it: a weight of 0 needs no test
pub open-weight-unmet : (unmetKw weight : ℕ) → 0 < unmetKw → pick (ltb 0 unmetKw && ltb 0 weight) weight 0 ≡ weight
open-weight-unmet u w h =
    ⊎_elim
    (λ (z : w ≡ 0). rw (lt-ltb 0 u h, z))
    (λ (p : 0 < w). rw (lt-ltb 0 u h, lt-ltb 0 w p))
    (eq-zero-or-pos w)

pub open-weight-met : (unmetKw weight : ℕ) → unmetKw ≤ 0 → pick (ltb 0 unmetKw && ltb 0 weight) weight 0 ≡ 0
open-weight-met u w h = rw (le-ltb 0 u h)

-- which it brings before anything is granted, where its claim is above 0
pub open-weight-first : (unmetKw weight : ℕ) → pick (ltb 0 unmetKw) weight 0 ≡ pick (ltb 0 unmetKw && ltb 0 weight) weight 0
open-weight-first u w =
    elim (dec_lt 0 u) [
      | yes some ↦ ap (λ b. pick b w 0) (lt-ltb 0 u some) ∙ sym (open-weight-unmet u w some)
      | no none ↦ rw (le-ltb 0 u (omega arith)) refl
    ]

-- the part by weight of the weight that a holder brings into W is that of its weight: with no unmet claim both are 0
pub open-weight-part : (left weight all unmetKw : ℕ) →
    min unmetKw (left * pick (ltb 0 unmetKw && ltb 0 weight) weight 0 / all) ≡ min unmetKw (left * weight / all)
open-weight-part left w all u =
    ⊎_elim
    (λ (z : u ≡ 0). omega arith)
    (λ (p : 0 < u). ap (λ (k : ℕ). min u (left * k / all)) (open-weight-unmet u w p))
    (eq-zero-or-pos u)

-- what it brings after a part: the same while the part is below the unmet claim, then nothing
pub open-weight-after : (part unmetKw weight : ℕ) →
    pick (ltb part unmetKw) (pick (ltb 0 unmetKw && ltb 0 weight) weight 0) 0
    ≡ pick (ltb 0 (unmetKw - min unmetKw part) && ltb 0 weight) weight 0
open-weight-after part u w =
    elim (dec_lt part u) [
      | yes below ↦
          rw (lt-ltb part u below)
          (open-weight-unmet u w (omega arith) ∙ sym (open-weight-unmet (u - min u part) w (omega arith)))
      | no met ↦ rw (le-ltb part u (omega arith)) (sym (open-weight-met (u - min u part) w (omega arith)))
    ]

module _ (claims weights : List ℕ) where
  pub open-both : (g : List ℕ) (i : ℕ) → 0 < unmet claims g i → 0 < at weights i → is_open claims weights g i ≡ true
  unfolding is_open
  open-both g i p q =
      and_both (ltb 0 (unmet claims g i)) (ltb 0 (at weights i)) (lt-ltb 0 (unmet claims g i) p) (lt-ltb 0 (at weights i) q)

  pub open-unmet : (g : List ℕ) (i : ℕ) → is_open claims weights g i ≡ true → 0 < unmet claims g i
  unfolding is_open
  open-unmet g i e = ltb-true 0 (unmet claims g i) (and_left (ltb 0 (unmet claims g i)) (ltb 0 (at weights i)) e)

  pub open-weight : (g : List ℕ) (i : ℕ) → is_open claims weights g i ≡ true → 0 < at weights i
  unfolding is_open
  open-weight g i e = ltb-true 0 (at weights i) (and_right (ltb 0 (unmet claims g i)) (ltb 0 (at weights i)) e)

  -- a holder is open exactly where it brings a weight into W
  pub open_is : (g : List ℕ) (i : ℕ) → ltb 0 (open_weight claims weights g i) ≡ is_open claims weights g i
  open_is g i =
      pick-by (λ (x : ℕ). ltb 0 x ≡ is_open claims weights g i) (is_open claims weights g i) (at weights i) 0
      (λ t. lt-ltb 0 (at weights i) (open-weight g i t) ∙ sym t)
      (λ f. le-ltb 0 0 (le_refl 0) ∙ sym f)

  -- W is a sum of weights in range
  pub open_weight-most : (most : ℕ) (g : List ℕ) (i : ℕ) → at weights i ≤ most → open_weight claims weights g i ≤ most
  open_weight-most most g i h =
      pick-by (λ x. x ≤ most) (is_open claims weights g i) (at weights i) 0 (λ t. h) (λ f. zero-le)

  -- the part by weight without the test: a holder that is not open has no unmet claim or no weight
  pub by_weight-is : (R : ℕ) (g : List ℕ) (i : ℕ) → by_weight claims weights R g i ≡ min (unmet claims g i) (R * at weights i / open_weights claims weights g)
  unfolding by_weight
  by_weight-is R g i =
      pick-by (λ x. x ≡ min (unmet claims g i) (R * at weights i / open_weights claims weights g)) (is_open claims weights g i) _ _
      (λ t. refl)
      (λ f.
      ⊎_elim
      (λ (z : unmet claims g i ≡ 0). omega arith)
      (λ (p : 0 < unmet claims g i).
      ⊎_elim
      (λ (z : at weights i ≡ 0).
      let d : R * at weights i / open_weights claims weights g ≡ 0 = rw (z, mul-zero, zero-div) in
      omega arith)
      (λ (q : 0 < at weights i).
      let never : true ≡ false = sym (open-both g i p q) ∙ f in
      let z : ◌≡◌ {A = ℕ} 0 1 = cc in
      omega arith)
      (eq-zero-or-pos (at weights i)))
      (eq-zero-or-pos (unmet claims g i)))

  by_weight-scaled : (R : ℕ) (g : List ℕ) (i : ℕ) → open_weights claims weights g * by_weight claims weights R g i ≤ R * open_weight claims weights g i
  unfolding by_weight
  by_weight-scaled R g i =
      let W : ℕ = open_weights claims weights g in
      pick-by (λ b. W * b ≤ R * open_weight claims weights g i) (is_open claims weights g i) (min (unmet claims g i) (R * at weights i / W)) 0
      (λ t.
      let small : min (unmet claims g i) (R * at weights i / W) * W ≤ R * at weights i / W * W =
      mul-le-mul_right W (min-le_right (unmet claims g i) (R * at weights i / W)) in
      let whole : R * at weights i / W * W ≤ R * at weights i = div-mul-le_self (R * at weights i) W in
      let turned : W * min (unmet claims g i) (R * at weights i / W) ≡ min (unmet claims g i) (R * at weights i / W) * W =
      mul_comm W (min (unmet claims g i) (R * at weights i / W)) in
      rw t (omega arith))
      (λ f. rw mul-zero zero-le)

  -- the parts by weight together are within the pool
  pub by_weight-within : (R : ℕ) (g : List ℕ) → sum_to (length claims) (by_weight claims weights R g) ≤ R
  unfolding open_weights
  by_weight-within R g =
      let n : ℕ = length claims in
      let W : ℕ = open_weights claims weights g in
      let given : ℕ = sum_to n (by_weight claims weights R g) in
      ⊎_elim
      (λ (z : W ≡ 0).
      let none : given ≡ 0 =
      sum_to-zeros n (by_weight claims weights R g)
      (λ i l.
      let d : R * at weights i / W ≡ 0 = rw (z, div-zero) in
      by_weight-is R g i ∙ (omega arith)) in
      omega arith)
      (λ (p : 0 < W).
      let scaled : W * given ≤ R * W =
      le_trans (le_of_eq (sym (sum_to-scale n W (by_weight claims weights R g))))
      (le_trans
      (sum_to-le n (λ i. W * by_weight claims weights R g i) (λ i. R * open_weight claims weights g i) (λ i l. by_weight-scaled R g i))
      (le_of_eq (sum_to-scale n R (open_weight claims weights g)))) in
      le_of_mul-le-mul_right (rw (mul_comm W given) at scaled) p)
      (eq-zero-or-pos W)

  -- an open holder takes 1 kW of its unmet claim
  open-one : (g : List ℕ) (i : ℕ) → pick {A = ℕ} (is_open claims weights g i) 1 0 ≤ unmet claims g i
  open-one g i = pick-by (λ x. x ≤ unmet claims g i) (is_open claims weights g i) 1 0 (λ t. open-unmet g i t) (λ f. zero-le)

  -- no pass gives a holder more than its unmet claim
  pub pass_kw-unmet : (R : ℕ) (g : List ℕ) (i : ℕ) → pass_kw claims weights R g i ≤ unmet claims g i
  unfolding pass_kw one_each unweighted
  pass_kw-unmet R g i =
      pick-by (λ x. x ≤ unmet claims g i) (eqb (open_weights claims weights g) 0) _ _
      (λ t. min-le_left (unmet claims g i) (R - sum_to i (unmet claims g)))
      (λ f.
      pick-by (λ x. x ≤ unmet claims g i) (eqb (sum_to (length claims) (by_weight claims weights R g)) 0) _ _
      (λ t. le_trans (min-le_left (pick (is_open claims weights g i) 1 0) _) (open-one g i))
      (λ f. rw (by_weight-is R g i) (min-le_left (unmet claims g i) _)))

  -- with nothing given to open holders singly, none is open
  none_open : (g : List ℕ) → sum_to (length claims) (λ i. pick (is_open claims weights g i) 1 0) ≡ 0 → open_weights claims weights g ≡ 0
  unfolding open_weights
  none_open g z =
      sum_to-zeros (length claims) (open_weight claims weights g)
      (λ i l.
      let none : pick (is_open claims weights g i) 1 0 ≡ 0 = sum_to-none (length claims) (λ j. pick (is_open claims weights g j) 1 0) z i l in
      closed (is_open claims weights g i) (at weights i) none)
    where
      closed : (b : Bool) (w : ℕ) → pick {A = ℕ} b 1 0 ≡ 0 → pick b w 0 ≡ 0
      closed true w e = absurd (omega arith)
      closed false w e = refl

  -- the kW of a pass by its kind
  pub pass_total-is : (R : ℕ) (g : List ℕ) →
      pass_total claims weights R g ≡
      pick (eqb (open_weights claims weights g) 0) (sum_to (length claims) (unweighted claims weights R g))
      (pick (eqb (sum_to (length claims) (by_weight claims weights R g)) 0) (sum_to (length claims) (one_each claims weights R g))
      (sum_to (length claims) (by_weight claims weights R g)))
  unfolding pass_total pass_kw
  pass_total-is R g =
      sum_to-pick (length claims) (eqb (open_weights claims weights g) 0) (unweighted claims weights R g) _
      ∙ ap (pick (eqb (open_weights claims weights g) 0) (sum_to (length claims) (unweighted claims weights R g)))
      (sum_to-pick (length claims) (eqb (sum_to (length claims) (by_weight claims weights R g)) 0) (one_each claims weights R g) (by_weight claims weights R g))

  unweighted-sum : (R : ℕ) (g : List ℕ) → sum_to (length claims) (unweighted claims weights R g) ≡ min R (sum_to (length claims) (unmet claims g))
  unfolding unweighted
  unweighted-sum R g = in_turn-sum R (unmet claims g) (length claims)

  one_each-sum : (R : ℕ) (g : List ℕ) → sum_to (length claims) (one_each claims weights R g) ≡ min R (sum_to (length claims) (λ i. pick (is_open claims weights g i) 1 0))
  unfolding one_each
  one_each-sum R g = in_turn-sum R (λ i. pick (is_open claims weights g i) 1 0) (length claims)

  -- a pass is within the pool
  pub pass_total-within : (R : ℕ) (g : List ℕ) → pass_total claims weights R g ≤ R
  pass_total-within R g =
      rw (pass_total-is R g)
      (pick-by (λ x. x ≤ R) (eqb (open_weights claims weights g) 0) _ _
      (λ t. omega (arith, unweighted-sum R g))
      (λ f.
      pick-by (λ x. x ≤ R) (eqb (sum_to (length claims) (by_weight claims weights R g)) 0) _ _
      (λ t. omega (arith, one_each-sum R g))
      (λ f. by_weight-within R g)))

  -- a pass gives at least 1 kW while the pool lasts and claims are unmet
  pub pass_total-pos : (R : ℕ) (g : List ℕ) → 0 < R → R ≤ sum_to (length claims) (unmet claims g) → 0 < pass_total claims weights R g
  pass_total-pos R g p short =
      rw (pass_total-is R g)
      (pick-by (λ x. 0 < x) (eqb (open_weights claims weights g) 0) _ _
      (λ t. omega (arith, unweighted-sum R g))
      (λ some.
      pick-by (λ x. 0 < x) (eqb (sum_to (length claims) (by_weight claims weights R g)) 0) _ _
      (λ t.
      let ones : 0 < sum_to (length claims) (λ i. pick (is_open claims weights g i) 1 0) =
      pos_of_ne-zero (λ z. eqb-false (open_weights claims weights g) 0 some (none_open g z)) in
      omega (arith, one_each-sum R g))
      (λ f. pos_of_ne-zero (λ z. eqb-false (sum_to (length claims) (by_weight claims weights R g)) 0 f z))))

  -- where all parts by weight are 0, there are fewer kW than open holders
  few-left : (R : ℕ) (g : List ℕ) → 0 < open_weights claims weights g → sum_to (length claims) (by_weight claims weights R g) ≡ 0 →
      R ≤ sum_to (length claims) (λ i. pick (is_open claims weights g i) 1 0)
  unfolding open_weights
  few-left R g pos none =
      let n : ℕ = length claims in
      let W : ℕ = open_weights claims weights g in
      let ones : ℕ = sum_to n (λ i. pick (is_open claims weights g i) 1 0) in
      let each : (i : ℕ) → i < n → R * open_weight claims weights g i + pick (is_open claims weights g i) 1 0 ≤ W * pick (is_open claims weights g i) 1 0 =
      λ i l. small R W (at weights i) (unmet claims g i) (is_open claims weights g i) pos (open-unmet g i)
      (sym (by_weight-is R g i) ∙ sum_to-none n (by_weight claims weights R g) none i l) in
      let all : R * W + ones ≤ W * ones =
      omega (
        arith,
        sum_to-le n (λ i. R * open_weight claims weights g i + pick (is_open claims weights g i) 1 0) (λ i. W * pick (is_open claims weights g i) 1 0) each,
        sum_to-add n (λ i. R * open_weight claims weights g i) (λ i. pick (is_open claims weights g i) 1 0),
        sum_to-scale n R (open_weight claims weights g),
        sum_to-scale n W (λ i. pick (is_open claims weights g i) 1 0),
      ) in
      elim (dec_lt ones R) [
        | yes fewer ↦ absurd (omega (arith, all, mul-le-mul_left W fewer, mul-suc W ones, mul_comm W R))
        | no enough ↦ omega arith
      ]
    where
      small : (R W w u : ℕ) (b : Bool) → 0 < W → (b ≡ true → 0 < u) → min u (R * w / W) ≡ 0 →
          R * pick b w 0 + pick {A = ℕ} b 1 0 ≤ W * pick {A = ℕ} b 1 0
      small R W w u true pos some z =
          let least : R * w < R * w / W * W + W = lt-div-mul-add {a = R * w} {b = W} pos in
          let d : R * w / W ≡ 0 = omega (arith, some refl, z) in
          let n : R * w < W = omega (arith, rw d at least, zero-mul W) in
          omega (arith, mul-one W)
      small R W w u false pos some z = omega (arith, mul-zero R, mul-zero W)

  -- a pass that gives nothing by weight empties the pool
  pub pass_total-last : (R : ℕ) (g : List ℕ) → R ≤ sum_to (length claims) (unmet claims g) →
      sum_to (length claims) (by_weight claims weights R g) ≡ 0 → pass_total claims weights R g ≡ R
  pass_total-last R g short none =
      rw (pass_total-is R g)
      (pick-by (λ x. x ≡ R) (eqb (open_weights claims weights g) 0) _ _
      (λ t. omega (arith, unweighted-sum R g))
      (λ some.
      rw (eq-eqb (sum_to (length claims) (by_weight claims weights R g)) 0 none)
      (omega (arith, one_each-sum R g, few-left R g (pos_of_ne-zero (eqb-false (open_weights claims weights g) 0 some)) none))))

  pub length-pass_grants : (R : ℕ) (g : List ℕ) → length (pass_grants claims weights R g) ≡ length claims
  unfolding pass_grants
  length-pass_grants R g = length-tab (length claims) _

  pub at-pass_grants : (R : ℕ) (g : List ℕ) (i : ℕ) → i < length claims → at (pass_grants claims weights R g) i ≡ at g i + pass_kw claims weights R g i
  unfolding pass_grants
  at-pass_grants R g i l = at-tab (length claims) (λ j. at g j + pass_kw claims weights R g j) i l

  -- a pass lowers the unmet claims by what it gives
  pub unmet-next : (R : ℕ) (g : List ℕ) →
      sum_to (length claims) (unmet claims (pass_grants claims weights R g)) + pass_total claims weights R g ≡ sum_to (length claims) (unmet claims g)
  unfolding pass_total
  unmet-next R g =
      sym (sum_to-add (length claims) (unmet claims (pass_grants claims weights R g)) (pass_kw claims weights R g))
      ∙ sum_to-same (length claims) _ (unmet claims g)
      (λ i l. omega (arith, at-pass_grants R g i l, pass_kw-unmet R g i))
