-- A quotient by the rate: where the parts it leaves open hold no whole kW, nothing need be divided.
use Prim.Native.Nat.{ℕ, ◌+◌, ◌*◌, ◌/◌, ◌≤◌, ◌<◌}
use mathlib.Core.Path.{◌≡◌, sym, ap, ◌∙◌}
use mathlib.Core.Logic.{⊎_elim}
use native.Mathlib.Nat.{eq-zero-or-pos, mul-zero, zero-mul, zero-div, mul_comm, mul_assoc, mul-le-mul_left, mul-le-mul_right, mul-lt-mul_of_pos_left, mul-lt-mul_of_pos_right, le_of_mul-le-mul_right, lt_of_mul-lt-mul_right, div-mul-le_self, lt-div-mul-add, div-eq_of_lt-le, mul-add, add-mul, mul_right_comm}
use native.Mathlib.Omega.{arith}
use Rattle.share_out.specs.Workers.Fit.{Rated}

module _ (parts left weight all rate kw : ℕ) (some : 0 < parts) (pos : 0 < all) (rated : rate ≡ left * parts / all) where
  -- kW that the rate's parts fill are within the exact quotient
  low : kw * parts ≤ weight * rate → kw * all ≤ left * weight
  low h =
      let scaled : kw * parts * all ≤ weight * rate * all = mul-le-mul_right all h in
      let whole : rate * all ≤ left * parts = rw rated (div-mul-le_self (left * parts) all) in
      let more : weight * (rate * all) ≤ weight * (left * parts) = mul-le-mul_left weight whole in
      le_of_mul-le-mul_right {k = parts}
      (omega (arith, mul_right_comm kw parts all, mul_assoc weight rate all, mul_assoc weight left parts, ap (λ (k : ℕ). k * parts) (mul_comm weight left)))
      some

  -- kW that are above the rate's parts and a part for each weight are above the exact quotient
  high : 0 < weight → weight * rate + weight < (kw + 1) * parts → left * weight < (kw + 1) * all
  high w h =
      let scaled : (weight * rate + weight) * all < (kw + 1) * parts * all = mul-lt-mul_of_pos_right h pos in
      let whole : left * parts < rate * all + all = rw rated (lt-div-mul-add {a = left * parts} {b = all} pos) in
      let more : weight * (left * parts) < weight * (rate * all + all) = mul-lt-mul_of_pos_left whole w in
      lt_of_mul-lt-mul_right parts
      (omega (
        arith,
        mul_right_comm (kw + 1) parts all,
        mul-add weight (rate * all) all,
        add-mul (weight * rate) weight all,
        mul_assoc weight rate all,
        mul_assoc weight left parts,
        ap (λ (k : ℕ). k * parts) (mul_comm weight left),
      ))

-- where the rate's parts, and a part more for each weight, make the same whole kW, those are the quotient
pub portion-by-rate : (left weight all rate : ℕ) → Rated left weight all rate →
    (weight * rate + weight) / 274877906944 ≡ weight * rate / 274877906944 → weight * rate / 274877906944 ≡ left * weight / all
portion-by-rate left weight all rate r same =
    let kw : ℕ = weight * rate / 274877906944 in
    ⊎_elim
    (λ (z : weight ≡ 0).
    rw z (ap (λ (k : ℕ). k / 274877906944) (zero-mul rate) ∙ zero-div 274877906944 ∙ sym (ap (λ (k : ℕ). k / all) (mul-zero left) ∙ zero-div all)))
    (λ (w : 0 < weight).
    let pos : 0 < all = omega (arith, r.among) in
    let below : kw * 274877906944 ≤ weight * rate = div-mul-le_self (weight * rate) 274877906944 in
    let above : weight * rate + weight < (kw + 1) * 274877906944 =
    omega (arith, same, lt-div-mul-add {a = weight * rate + weight} {b = 274877906944} (omega arith)) in
    sym
    (div-eq_of_lt-le all
    (low 274877906944 left weight all rate kw (omega arith) pos r.rated below)
    (high 274877906944 left weight all rate kw (omega arith) pos r.rated w above)))
    (eq-zero-or-pos weight)

-- what `portion` is decided by
pub ruleset by_rate = (portion-by-rate)
