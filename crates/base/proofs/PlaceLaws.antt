-- Laws of a list of numbers of which one is lowered or raised: what then stands at each place, and the sum. A place past
-- the end reads 0 and isn't written.
use Rattle.std.proofs.Common.{◌≡◌, ℕ, zero, suc, ◌+◌, ◌-◌, ◌<◌, ◌≤◌, eqb, List, length, set, sym, refl, ⊎_elim, le_of_eq, not-suc-le-zero, add-zero, eq-zero-or-pos, arith, length-set, get_or-set_other, get_or-set_same, eq-eqb, ne_eqb}
use native.Mathlib.Nat.{sub-zero}
use native.Mathlib.Decide.{dec_lt, ℕ_discrete}
use lib.ListN.{get_or-eq_default}
use lib.Seq.{set_out, set-get_or}
use Rattle.base.specs.Choice.{pick}
use Rattle.base.specs.Sums.{sum_to}
use Rattle.base.specs.Words.{at}
use Rattle.base.proofs.SumLaws.{below_suc, sum_to-suc, sum_to-same}

-- place i lowered by x
pub at_less : (l : List ℕ) (i x j : ℕ) → at (set l i (at l i - x)) j ≡ at l j - pick (eqb i j) x 0
at_less l i x j =
    elim (ℕ_discrete i j) [
      | yes here ↦
          elim (dec_lt i (length l)) [
            | yes inside ↦ rw (← here, eq-eqb i i refl) (get_or-set_same l i (at l i - x) 0 inside)
            | no past ↦
                let h : length l ≤ i = omega arith in
                rw (← here, eq-eqb i i refl, set_out l i (at l i - x) h) (omega (arith, get_or-eq_default l 0 h))
          ]
      | no other ↦ rw (ne_eqb i j other, get_or-set_other l i j (at l i - x) 0 (λ e. other (sym e))) (sym (sub-zero (at l j)))
    ]

-- place i raised by y
pub at_more : (l : List ℕ) (i y j : ℕ) → j < length l → at (set l i (at l i + y)) j ≡ at l j + pick (eqb i j) y 0
at_more l i y j inside =
    elim (ℕ_discrete i j) [
      | yes here ↦ rw (here, eq-eqb j j refl) (get_or-set_same l j (at l j + y) 0 inside)
      | no other ↦ rw (ne_eqb i j other, get_or-set_other l i j (at l i + y) 0 (λ e. other (sym e))) (sym (add-zero (at l j)))
    ]

pub at-more-most : (l : List ℕ) (i y j : ℕ) → at (set l i (at l i + y)) j ≤ at l j + pick (eqb i j) y 0
at-more-most l i y j =
    elim (dec_lt j (length l)) [
      | yes inside ↦ le_of_eq (at_more l i y j inside)
      | no past ↦
          let size : length (set l i (at l i + y)) ≡ length l = length-set l i (at l i + y) in
          let end : length (set l i (at l i + y)) ≤ j = omega arith in
          omega (arith, get_or-eq_default (set l i (at l i + y)) 0 end)
    ]

-- the sum of the first n numbers rises by as much
sum-one-more-below : (n : ℕ) (l : List ℕ) (i y : ℕ) → i < n → i < length l → sum_to n (at (set l i (at l i + y))) ≡ sum_to n (at l) + y
sum-one-more-below zero l i y h inside = absurd (not-suc-le-zero h)
sum-one-more-below (suc n) l i y h inside =
    ⊎_elim
    (λ (e : i ≡ n).
    let earlier : sum_to n (at (set l i (at l i + y))) ≡ sum_to n (at l) =
    sum_to-same n _ (at l) (λ j b. get_or-set_other l i j (at l i + y) 0 (omega arith)) in
    let last : at (set l i (at l i + y)) n ≡ at l n + y = rw (← e) (get_or-set_same l i (at l i + y) 0 inside) in
    omega (arith, sum_to-suc n (at (set l i (at l i + y))), sum_to-suc n (at l)))
    (λ (b : i < n).
    let earlier : sum_to n (at (set l i (at l i + y))) ≡ sum_to n (at l) + y = sum-one-more-below n l i y b inside in
    let last : at (set l i (at l i + y)) n ≡ at l n = get_or-set_other l i n (at l i + y) 0 (omega arith) in
    omega (arith, sum_to-suc n (at (set l i (at l i + y))), sum_to-suc n (at l)))
    (below_suc h)

-- the sum of the list rises by as much
pub sum-one-more : (l : List ℕ) (i y : ℕ) → (0 < y → i < length l) → sum_to (length l) (at (set l i (at l i + y))) ≡ sum_to (length l) (at l) + y
sum-one-more l i y inside =
    ⊎_elim
    (λ (z : y ≡ 0). rw (z, add-zero (at l i), set-get_or l i 0) (sym (add-zero (sum_to (length l) (at l)))))
    (λ (some : 0 < y). sum-one-more-below (length l) l i y (inside some) (inside some))
    (eq-zero-or-pos y)

pub sum-one-more-most : (l : List ℕ) (i y : ℕ) → sum_to (length l) (at (set l i (at l i + y))) ≤ sum_to (length l) (at l) + y
sum-one-more-most l i y =
    elim (dec_lt i (length l)) [
      | yes inside ↦ le_of_eq (sum-one-more l i y (λ some. inside))
      | no past ↦ rw (set_out l i (at l i + y) (omega arith)) (omega arith)
    ]
