-- `holder_claims` meets its contract: cover and allowance are the definition's, and so is what stays (`ClaimLaws`).
use Rattle.base.proofs.Prelude.{ℕ, ◌+◌, ◌-◌, ◌*◌, ◌<◌, ◌≡◌, refl, ap, ◌∙◌, arith, length, rules, sum_to, at}
use Rattle.base.proofs.VectorLaws.{sum-part}
use Rattle.steps_2_to_4.proofs.ClaimLaws.{holder-kept}
use Rattle.steps_2_to_4.proofs.Inputs.holder_claims.Goals as goal

pub returns : goal.returns
returns c =
    let a = c.args in
    let given = a.self in
    let kw = given.read.tables.now.kw in
    let granted = a.granted.now in
    let h = a.holder in
    let I = given.read.interties in
    let slots : length kw ≡ 12481 = search rules in
    let small : h < 32 = omega (arith, c.requires.0, given.small) in
    let beyond : c.left_of-beyond.result ≡ a.quantity - sum_to I (λ c. at kw (192 + 64 * h + c)) =
    c.left_of-beyond.ensures
    ∙ ap (λ (n : ℕ). a.quantity - n) (sum-part (192 + 64 * h) (192 + 64 * h + I) I kw refl (omega (arith, given.few))) in
    let allowance : c.left_of-allowance.result ≡ c.left_of-beyond.result - sum_to I (λ c. at granted (48 * h + c)) =
    c.left_of-allowance.ensures
    ∙ ap (λ (n : ℕ). c.left_of-beyond.result - n) (sum-part (48 * h) (48 * h + I) I granted refl (omega (arith, given.few, c.told-granted))) in
    holder-kept given.read.tables.now granted c.differences.new.row _ I h a.quantity
    c.left_of-beyond.result c.left_of-allowance.result _ (12481 - (192 + 64 * h)) (12481 - (2240 + 64 * h)) 48 (length a.row.now) _
    small slots (search rules) c.differences.ensures refl
    (omega arith) (omega arith) beyond allowance c.requires.1 c.keep_new_use.ensures
